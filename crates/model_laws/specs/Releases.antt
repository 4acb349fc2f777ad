-- Release runs of a job on a node.
use Rattle.std.specs.Prelude.{ℕ, List, count_by}
use Rattle.batch_model.specs.Laws.{is_release_of}
use Rattle.batch_model.specs.Variants.{State}

-- how many of them are among the tables, whether they have ended or not
abbrev pub releases_of : State → List ℕ → ℕ → ℕ
releases_of s job node = count_by (is_release_of job node) s.runs
