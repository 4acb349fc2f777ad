-- Replies as they stand in a line.
use Rattle.std.specs.Prelude.{ℕ, List, ◌∷◌, [], ◌++◌, codes, flat_map}
use Rattle.std.specs.Fmt.{decimal}
use Rattle.bt_rows.specs.declared.reply.Element.{Element}
use Rattle.bt_rows.specs.declared.reply.Element.TheVariants.{Added, NotAdded}
use Rattle.bt_rows.specs.declared.reply.Reply.{Reply}
use Rattle.bt_rows.specs.declared.reply.Reply.TheVariants as replies
use Rattle.wire_json.specs.Replies.{reply_json}
use Rattle.wire_texts.specs.Lines.{words}
use Rattle.wire_texts.specs.Refusals.{refusal_text}
use Rattle.wire_words.specs.Refusals.{refusal_status}

-- the status of one element of a collection
abbrev pub element_status : Element → ℕ
element_status (Added id) = 201
element_status (NotAdded id refusal) = refusal_status refusal

-- a space and the status
abbrev pub element_text : Element → List ℕ
element_text element = 32 ∷ decimal (element_status element)

-- a read's status and its JSON
unfoldable pub shown_text : Reply → List ℕ
shown_text reply = words (codes "200" ∷ reply_json reply ∷ [])

-- of a due step, which no line shows as a reply, the status alone
unfoldable pub reply_text : Reply → List ℕ
reply_text (replies.Status status) = decimal status
reply_text (replies.Refused refusal) = refusal_text refusal
reply_text (replies.Elements elements) = codes "200" ++ flat_map element_text elements
reply_text (replies.Results text) = words (codes "200" ∷ text ∷ [])
reply_text (replies.One item) = shown_text (replies.One item)
reply_text (replies.Page items after) = shown_text (replies.Page items after)
reply_text (replies.Step due) = codes "200"
