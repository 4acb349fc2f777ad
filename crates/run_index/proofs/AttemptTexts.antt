-- The runs of a task's present attempt have its text.
use Rattle.std.proofs.Common.{◌≡◌, ℕ, Bool, true, false, ◌&&◌, nat_eq, List, ◌++◌, length, Option, Some, None, refl, sym, ap, ◌∙◌}
use Rattle.std.proofs.lemmas.Bool.{eqb-true}
use Rattle.std.proofs.lemmas.Slice.Eq.{bytes_eq-Decides}
use Rattle.bt_base.specs.Ids.{same}
use Rattle.kept_table.specs.Keys.{number_text, ids_text}
use Rattle.kept_table.proofs.KeyTexts.{same-ids, number_text_length}
use Rattle.batch_model.specs.Finding.{names}
use Rattle.batch_model.specs.Runs.{is_present}
use Rattle.batch_model.specs.Variants.{TaskRow, RunRow}
use Rattle.run_index.specs.Attempts.{attempt_text, text_of, present_text, run_attempt_text}

pub number_length : (n : ℕ) → length (number_text n) ≡ 8
number_length n = number_text_length n

pub both : (a b : Bool) → (a && b) ≡ true → (a ≡ true) × (b ≡ true)
both true true h = (refl, refl)
both true false h = absurd (cc)
both false b h = absurd (cc)

present_is : (job id : Option (List ℕ)) (attempt : ℕ) (of_job of_id : List ℕ) (present : ℕ) → ((names job of_job && names id of_id) && nat_eq attempt present) ≡ true
    → text_of job id attempt ≡ Some (attempt_text of_job of_id present)
present_is None id attempt of_job of_id present h = absurd (cc)
present_is (Some job) None attempt of_job of_id present h =
    let ids = (both (same job of_job && false) (nat_eq attempt present) h).0 in
    let no = (both (same job of_job) false ids).1 in
    absurd (cc)
present_is (Some job) (Some id) attempt of_job of_id present h =
    let parts = both (same job of_job && same id of_id) (nat_eq attempt present) h in
    let ids : ids_text job id ≡ ids_text of_job of_id = (bytes_eq-Decides (ids_text job id) (ids_text of_job of_id)).0 (sym (same-ids job id of_job of_id) ∙ parts.0) in
    let number : attempt ≡ present = eqb-true attempt present parts.1 in
    ap (λ (text : List ℕ). Some (number_text attempt ++ text)) ids ∙ ap (λ (n : ℕ). Some (attempt_text of_job of_id n)) number

pub present_run_text : (task : TaskRow) (run : RunRow) → is_present task run ≡ true → run_attempt_text run ≡ Some (present_text task)
present_run_text task run h = present_is run.job run.task run.attempt task.job task.id task.attempt h
