-- What sink and keeper tell of a run, and runs that called nothing.
use Rattle.std.specs.Prelude.{◌≡◌, ℕ, List, [], Option, IfSome}
use Rattle.byte_streams.specs.Content.{Gains}
use Rattle.batch_model.specs.Opening.{opening}
use Rattle.batch_model.specs.Sound.{IsSound}
use Rattle.batch_model.specs.Variants.{State}
use Rattle.batch_keeper.specs.declared.error.KeepError.{KeepError}
use Rattle.batch_desk.specs.Kept.{Tells}
use Rattle.batch_desk.specs.Answers.{FailsToOpen}
use Rattle.cli_words.specs.declared.command.ReplayOptions.{ReplayOptions as Options}

-- what sink and keeper tell before the run and after it, and how often the keeper had failed
pub record Observed : Type 0 where
  pub taken_before : Option (List ℕ)
  pub taken_now : Option (List ℕ)
  pub loaded : Option State
  pub kept : Option State
  pub faults_before : ℕ
  pub faults_now : ℕ

-- the tables that a run begins from: sound ones, and if the keeper told its tables, their opening
pub record BeginsFrom (seats : ℕ) (loaded : Option State) (opened : State) : Type 0 where
  pub sound : IsSound seats opened
  pub opening_is : IfSome loaded (λ s. opened ≡ opening s)

-- the tables were opened, nothing was called or written, and the keeper tells the opened tables
pub record IsOnlyOpened (options : Options) (seen : Observed) : Type 0 where
  pub opened : State
  pub begins : BeginsFrom options.seats seen.loaded opened
  pub written : Gains seen.taken_before seen.taken_now []
  pub kept : Tells seen.kept opened

-- the tables were not loaded, or not opened, because of this error, and nothing was written
pub record IsUnopened (seen : Observed) (error : KeepError) : Type 0 where
  pub fails : FailsToOpen seen.loaded seen.kept seen.faults_before seen.faults_now error
  pub written : Gains seen.taken_before seen.taken_now []
