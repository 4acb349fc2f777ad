-- What stands only until the rest of the profile is built: each definition says what takes its place.
-- Source: this project's own.
use Rattle.std.specs.Prelude.{not, ◌&&◌}
use Rattle.bt_rows.specs.declared.refusal.Refusal.{Refusal}
use Rattle.bt_rows.specs.declared.refusal.Refusal.TheVariants.{UnreadableBody}
use Rattle.batch_model.specs.Finding.{Each}
use Rattle.batch_model.specs.Runs.{is_unended, is_coordination}
use Rattle.batch_model.specs.Variants.{State}

-- add-task with a task of several instances is answered as if its body could not be read, and so is each such element of add-tasks.
-- With the rows of such tasks this goes.
abbrev pub not_built : Refusal
not_built = UnreadableBody

-- no coordination run is unended. The rows of coordination runs come with tasks of several instances; the lemmas that use this then say
-- what these rows keep.
pub record OnlyBuiltRows (s : State) : Type 0 where
  pub runs : Each (λ run. not (is_coordination run.kind && is_unended run.state)) s.runs
