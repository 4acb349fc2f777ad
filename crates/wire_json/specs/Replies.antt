-- Replies as JSON.
use Rattle.std.specs.Prelude.{ℕ, List, [], ◌∷◌, map, Option, Some, None, codes}
use Rattle.std.specs.Option.{option_map}
use Rattle.serde_json.specs.Data.{Data, string, object}
use Rattle.serde_json.specs.Written.{compact_text}
use Rattle.bt_rows.specs.declared.refusal.Refusal.{Refusal}
use Rattle.bt_rows.specs.declared.reply.Element.{Element}
use Rattle.bt_rows.specs.declared.reply.Element.TheVariants.{Added, NotAdded}
use Rattle.bt_rows.specs.declared.reply.Item.{Item}
use Rattle.bt_rows.specs.declared.reply.Reply.{Reply}
use Rattle.bt_rows.specs.declared.reply.Reply.TheVariants as replies
use Rattle.wire_words.specs.Refusals.{refusal_name, refusal_number, refusal_values}
use Rattle.wire_json.specs.Members.{count_data, list_data, texts_data, members_with, with_member}
use Rattle.wire_json.specs.Items.{item_data}

unfoldable pub refusal_data : Refusal → Data
refusal_data refusal = object (members_with (
    (codes "code", string (refusal_name refusal))
    ∷ (codes "number", count_data (refusal_number refusal))
    ∷ (codes "values", texts_data (refusal_values refusal))
    ∷ []))

-- a task of a collection that was added
unfoldable pub added_data : List ℕ → Data
added_data id = object (members_with (
    (codes "status", string (codes "success"))
    ∷ (codes "taskId", string id)
    ∷ []))

-- a task of a collection that was not added
unfoldable pub refused_data : List ℕ → Refusal → Data
refused_data id refusal = object (members_with (
    (codes "error", refusal_data refusal)
    ∷ (codes "status", string (codes "clienterror"))
    ∷ (codes "taskId", string id)
    ∷ []))

-- one element of a collection
abbrev pub element_data : Element → Data
element_data (Added id) = added_data id
element_data (NotAdded id refusal) = refused_data id refusal

-- the elements of a collection, in order
unfoldable pub elements_data : List Element → Data
elements_data elements = object (members_with ((codes "value", list_data (map element_data elements)) ∷ []))

-- the results text of a formula
unfoldable pub results_data : List ℕ → Data
results_data results = object (members_with ((codes "results", string results) ∷ []))

-- the items of a list, in order; `nextAfter`, the id of the last one, is there if more follow
unfoldable pub page_data : List Item → Option (List ℕ) → Data
page_data items after = object (with_member (codes "nextAfter") (option_map string after) (members_with (
    (codes "value", list_data (map item_data items))
    ∷ [])))

-- a status alone has no JSON, nor has a due step
abbrev pub reply_data : Reply → Option Data
reply_data (replies.Status status) = None
reply_data (replies.Refused refusal) = Some (refusal_data refusal)
reply_data (replies.Elements elements) = Some (elements_data elements)
reply_data (replies.Results results) = Some (results_data results)
reply_data (replies.One item) = Some (item_data item)
reply_data (replies.Page items after) = Some (page_data items after)
reply_data (replies.Step due) = None

-- the JSON as a compact text (RFC 8259); no JSON is the empty text
abbrev pub data_text : Option Data → List ℕ
data_text None = []
data_text (Some data_) = compact_text data_

-- the text of a reply's JSON
abbrev pub reply_json : Reply → List ℕ
reply_json reply = data_text (reply_data reply)
