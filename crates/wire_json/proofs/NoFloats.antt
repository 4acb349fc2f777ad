-- The JSON of replies has no floats.
use Rattle.std.proofs.Common.{◌≡◌, ℕ, ℤ, pos, negsuc, false, List, [], ◌∷◌, map, Option, Some, None, refl, ap}
use Rattle.std.specs.Prelude.{codes}
use Rattle.std.specs.Cmp.Lexicographic.{slice_cmp}
use Rattle.std.specs.Option.{option_map, unwrap_or}
use Rattle.std.specs.declared.cmp.Ordering.{Ordering}
use Rattle.std.specs.declared.cmp.Ordering.TheVariants.{Less, Equal, Greater}
use Rattle.std.specs.Ordering.{nat_cmp, match_ordering}
use Rattle.std.proofs.lemmas.Bool.{or_from, or_parts}
use Rattle.serde_json.specs.Data.{Data, string, Members, member, no_members, put}
use Rattle.serde_json.specs.Find.{of_integer, is_float}
use Rattle.serde_json.specs.View.{items_of}
use Rattle.serde_json.specs.Written.{has_float, items_have_float, members_have_float}
use Rattle.bt_rows.specs.declared.refusal.Refusal.{Refusal}
use Rattle.bt_rows.specs.declared.reply.Element.{Element}
use Rattle.bt_rows.specs.declared.reply.Element.TheVariants.{Added, NotAdded}
use Rattle.bt_rows.specs.declared.reply.PoolItem.{PoolItem}
use Rattle.bt_rows.specs.declared.reply.NodeItem.{NodeItem}
use Rattle.bt_rows.specs.declared.reply.JobItem.{JobItem}
use Rattle.bt_rows.specs.declared.reply.TaskItem.{TaskItem}
use Rattle.bt_rows.specs.declared.reply.TaskCounts.{TaskCounts}
use Rattle.bt_rows.specs.declared.reply.Item.{Item}
use Rattle.bt_rows.specs.declared.reply.Item.TheVariants as items
use Rattle.bt_rows.specs.declared.reply.Reply.{Reply}
use Rattle.bt_rows.specs.declared.reply.Reply.TheVariants as replies
use Rattle.wire_words.specs.Refusals.{refusal_values}
use Rattle.wire_words.specs.Words.{how_text, success_word}
use Rattle.wire_json.specs.Items.{resize_errors, pool_data, node_data, job_data, task_members, task_data, counts_data, item_data}
use Rattle.wire_json.specs.Members.{with_member}
use Rattle.wire_json.specs.Replies.{refusal_data, added_data, refused_data, element_data, elements_data, results_data, page_data, reply_data}

in_list : {A : Type 0} (data_of : A → Data) → ((a : A) → has_float (data_of a) ≡ false) → (values : List A) →
    items_have_float (items_of (map data_of values)) ≡ false
in_list data_of none [] = refl
in_list data_of none (value ∷ values) = or_from _ _ (none value) (in_list data_of none values)

in_texts : (texts : List (List ℕ)) → items_have_float (items_of (map string texts)) ≡ false
in_texts texts = in_list string (λ _. refl) texts

in_whole : (z : ℤ) → is_float (of_integer z) ≡ false
in_whole (pos n) = refl
in_whole (negsuc n) = refl

in_put : (name : List ℕ) (value : Data) (ms : Members) → has_float value ≡ false → members_have_float ms ≡ false →
    members_have_float (put name value ms) ≡ false
in_put name value no_members h k = or_from _ _ h refl
in_put name value (member other old ms) h k =
    let parts = or_parts _ _ k in
    elim (slice_cmp nat_cmp name other) as (λ (order : Ordering).
    members_have_float (match_ordering order (member name value (member other old ms)) (member other value ms) (member other old (put name value ms))) ≡ false) [
      | Less ↦ or_from _ _ h k
      | Equal ↦ or_from _ _ h parts.1
      | Greater ↦ or_from _ _ parts.0 (in_put name value ms h parts.1)
    ]

in_with : {A : Type 0} (name : List ℕ) (data_of : A → Data) (value : Option A) (ms : Members) → ((a : A) → has_float (data_of a) ≡ false) →
    members_have_float ms ≡ false → members_have_float (with_member name (option_map data_of value) ms) ≡ false
in_with name data_of None ms none h = h
in_with name data_of (Some value) ms none h = in_put name (data_of value) ms (none value) h

in_pool : (pool : PoolItem) → has_float (pool_data pool) ≡ false
unfolding pool_data
in_pool pool = rw (in_texts (resize_errors pool.error)) refl

in_node : (node : NodeItem) → has_float (node_data node) ≡ false
unfolding node_data
in_node node = refl

in_job : (job : JobItem) → has_float (job_data job) ≡ false
unfolding job_data
in_job job = in_with (codes "terminateReason") string job.reason _ (λ _. refl) (rw (in_whole job.parallel, in_whole job.priority) refl)

in_task : (task : TaskItem) → has_float (task_data task) ≡ false
unfolding task_data task_members
in_task task =
    in_with (codes "exit") (λ exit. string (how_text exit)) task.how _ (λ _. refl) (
    in_with (codes "result") (λ well. string (success_word well)) task.success (task_members task) (λ _. refl) refl)

in_counts : (counts : TaskCounts) → has_float (counts_data counts) ≡ false
unfolding counts_data
in_counts counts = refl

in_item : (item : Item) → has_float (item_data item) ≡ false
in_item (items.Pool pool) = in_pool pool
in_item (items.Node node) = in_node node
in_item (items.Job job) = in_job job
in_item (items.Task task) = in_task task
in_item (items.Counts counts) = in_counts counts

in_refusal : (refusal : Refusal) → has_float (refusal_data refusal) ≡ false
unfolding refusal_data
in_refusal refusal = rw (in_texts (refusal_values refusal)) refl

in_element : (element : Element) → has_float (element_data element) ≡ false
unfolding added_data refused_data
in_element (Added id) = refl
in_element (NotAdded id refusal) = rw (in_refusal refusal) refl

in_elements : (elements : List Element) → has_float (elements_data elements) ≡ false
unfolding elements_data
in_elements elements = rw (in_list element_data in_element elements) refl

in_page : (shown : List Item) (after : Option (List ℕ)) → has_float (page_data shown after) ≡ false
unfolding page_data
in_page shown after = in_with (codes "nextAfter") string after _ (λ _. refl) (rw (in_list item_data in_item shown) refl)

of_some : (value data_ : Data) → Some value ≡ Some data_ → has_float data_ ≡ false → has_float value ≡ false
of_some value data_ e h =
    let same : value ≡ data_ = ap (λ (o : Option Data). unwrap_or o value) e in
    rw (same) h

pub in_reply : (reply : Reply) (value : Data) → Some value ≡ reply_data reply → has_float value ≡ false
unfolding elements_data results_data
in_reply (replies.Status status) value e = absurd (cc)
in_reply (replies.Refused refusal) value e = of_some value _ e (in_refusal refusal)
in_reply (replies.Elements elements) value e = of_some value _ e (in_elements elements)
in_reply (replies.Results results) value e = of_some value _ e refl
in_reply (replies.One shown) value e = of_some value _ e (in_item shown)
in_reply (replies.Page shown after) value e = of_some value _ e (in_page shown after)
in_reply (replies.Step due) value e = absurd (cc)
