-- A row that is found by a key is the one with its own key.
use Rattle.std.proofs.Common.{◌≡◌, ℕ, Some, sym, subst}
use Rattle.std.proofs.lemmas.Bool.Decides.{Decides-eqb}
use Rattle.batch_model.specs.Rows.{is_run, run_of}
use Rattle.batch_model.specs.Variants.{State, RunRow}
use Rattle.model_lists.proofs.RowLists.{find_test}

-- the run with a number is the one with its own
pub own_number : (s : State) (number : ℕ) (run : RunRow) → run_of s number ≡ Some run → run_of s run.number ≡ Some run
own_number s number run e =
    subst (λ n. run_of s n ≡ Some run) (sym ((Decides-eqb run.number number).0 (find_test (is_run number) run s.runs e))) e
