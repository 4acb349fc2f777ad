use Rattle.std.proofs.Common.{◌≡◌, Result, Ok, ap, subst, refl, ◌∙◌}
use Rattle.serde_json.specs.Data.{Data, Items, string}
use Rattle.row_fields.specs.Fields.{list_in, list_data, option_in, option_data, with_item}
use Rattle.row_fields.specs.Parts.{given_data, given_in, multi_data, multi_in}
use Rattle.row_fields.specs.Scalars.{count_data, count_in, u32_in, whole_data, i32_in}
use Rattle.row_fields.specs.Texts.{id_in}
use Rattle.row_fields.specs.Tuples.{pair_data, pair_in, triple_data, triple_in}
use Rattle.row_fields.specs.declared.fault.RowFault.{RowFault}
use Rattle.row_texts.proofs.ReadBack.{task_settings_back}
use Rattle.row_texts.proofs.task.add_settings.Goals as goal

-- a value reads back, if the equal one that was written does
same_back : {A : Type 0} (in_data : Data → Result A RowFault) (data_of : A → Data) {written value : A} → written ≡ value →
    in_data (data_of written) ≡ Ok written → in_data (data_of value) ≡ Ok value
same_back in_data data_of e h = subst (λ v. in_data (data_of v) ≡ Ok v) e h

pub returns-clause-back : goal.returns-clause-back
returns-clause-back c =
    rw (← c.row.view_is)
    (task_settings_back
    _
    (same_back (option_in i32_in) (option_data whole_data) c.retries.ensures c.in_ok-option.ensures.back)
    (same_back (option_in count_in) (option_data count_data) c.wall.ensures c.in_ok-option-2.ensures.back)
    (same_back (option_in count_in) (option_data count_data) c.retention.ensures c.in_ok-option-3.ensures.back)
    (same_back (list_in (pair_in i32_in given_in)) (list_data (pair_data whole_data given_data)) c.codes.ensures c.in_ok-list.ensures.back)
    (same_back (list_in (triple_in i32_in i32_in given_in)) (list_data (triple_data whole_data whole_data given_data)) c.ranges-2.ensures
    c.in_ok-list-2.ensures.back)
    (same_back (option_in given_in) (option_data given_data) c.launch.ensures c.in_ok-option-4.ensures.back)
    (same_back (option_in given_in) (option_data given_data) c.other.ensures c.in_ok-option-5.ensures.back)
    (same_back (list_in id_in) (list_data string) c.needs.ensures c.in_ok-list-3.ensures.back)
    (same_back (list_in (pair_in u32_in u32_in)) (list_data (pair_data count_data count_data)) c.spans.ensures c.in_ok-list-4.ensures.back)
    (same_back (option_in multi_in) (option_data multi_data) c.in_ok-multi.ensures c.in_ok-after.ensures.back))

-- a value was added to the items, and so was the equal one
added_same : {A : Type 0} (data_of : A → Data) {written value : A} {before after items : Items} → written ≡ value →
    after ≡ with_item before (data_of written) → before ≡ items → after ≡ with_item items (data_of value)
added_same data_of {written} {value} {before} e w h =
    w ∙ ap (λ v. with_item before (data_of v)) e ∙ ap (λ i. with_item i (data_of value)) h

pub returns-clause-written : goal.returns-clause-written
returns-clause-written c =
    rw (← c.row.view_is)
    (added_same (option_data multi_data) c.in_ok-multi.ensures c.in_ok-after.ensures.written
    (added_same (list_data (pair_data count_data count_data)) c.spans.ensures c.in_ok-list-4.ensures.written
    (added_same (list_data string) c.needs.ensures c.in_ok-list-3.ensures.written
    (added_same (option_data given_data) c.other.ensures c.in_ok-option-5.ensures.written
    (added_same (option_data given_data) c.launch.ensures c.in_ok-option-4.ensures.written
    (added_same (list_data (triple_data whole_data whole_data given_data)) c.ranges-2.ensures c.in_ok-list-2.ensures.written
    (added_same (list_data (pair_data whole_data given_data)) c.codes.ensures c.in_ok-list.ensures.written
    (added_same (option_data count_data) c.retention.ensures c.in_ok-option-3.ensures.written
    (added_same (option_data count_data) c.wall.ensures c.in_ok-option-2.ensures.written
    (added_same (option_data whole_data) c.retries.ensures c.in_ok-option.ensures.written
    refl))))))))))
