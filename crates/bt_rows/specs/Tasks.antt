-- Tasks as contracts see them: records of all their fields, wherever a program keeps these.
use Rattle.std.specs.Prelude.{ℕ, ℤ, List, [], Option, Some, None}
use Rattle.bt_rows.specs.declared.limits.TheConstants.{DEFAULT_RETENTION}
use Rattle.bt_rows.specs.declared.run.Ending.{Ending}
use Rattle.bt_rows.specs.declared.settings.TaskSettings.{TaskSettings}
use Rattle.bt_rows.specs.declared.task.Given.{Given}
use Rattle.bt_rows.specs.declared.task.Multi.{Multi}
use Rattle.bt_rows.specs.declared.task.TaskStage.{TaskStage}
use Rattle.bt_rows.specs.declared.task.Want.{Want}
use Rattle.bt_rows.specs.declared.task.Closed.{Closed}

-- a task of a job
pub record TaskFields : Type 0 where
  pub job : List ℕ
  pub id : List ℕ
  pub line : List ℕ
  pub slots : ℕ
  pub retries : Option ℤ
  pub wall : Option ℕ
  pub retention : Option ℕ
  pub codes : List (ℤ × Given)
  pub ranges : List (ℤ × ℤ × Given)
  pub launch : Option Given
  pub other : Option Given
  pub needs : List (List ℕ)
  pub spans : List (ℕ × ℕ)
  pub multi : Option Multi
  pub stage : TaskStage
  pub attempt : ℕ
  pub failures : ℕ
  pub wanted : Option Want
  pub fail : Option Ending
  pub started : Option ℕ
  pub closed : Option Closed

-- the body of a task that is added
pub record SpecFields : Type 0 where
  pub id : List ℕ
  pub line : List ℕ
  pub slots : ℕ
  pub retries : Option ℤ
  pub wall : Option ℕ
  pub retention : Option ℕ
  pub codes : List (ℤ × Given)
  pub ranges : List (ℤ × ℤ × Given)
  pub launch : Option Given
  pub other : Option Given
  pub needs : List (List ℕ)
  pub spans : List (ℕ × ℕ)
  pub multi : Option Multi

-- the settings of a task that states none
abbrev pub plain_settings : TaskSettings
plain_settings = record {
  retries = None;
  wall = None;
  retention = Some DEFAULT_RETENTION;
  codes = [];
  ranges = [];
  launch = None;
  other = None;
  needs = [];
  spans = [];
  multi = None;
}
