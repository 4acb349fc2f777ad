-- The output of a formula, as results or as a fault.
use Rattle.std.specs.Prelude.{◌≡◌, ℕ, List, Option, Result, Ok, Err}
use Rattle.byte_streams.specs.Content.{Gains, GainsFront}
use Rattle.formula_values.specs.Faults.{fault_name}
use Rattle.formula_eval.specs.declared.fault.EvalFault.{EvalFault}
use Rattle.formula_eval.specs.declared.outcome.Outcome.{Outcome}
use Rattle.cli_formula.specs.declared.end.End.{End}
use Rattle.cli_formula.specs.declared.end.End.TheVariants.{Done, Fault, TooLong, SourceFault, SinkFault, Memory}
use Rattle.cli_formula.specs.declared.shown.Shown.{Shown}
use Rattle.cli_formula.specs.declared.shown.Shown.TheVariants as shows
use Rattle.cli_formula.specs.Positions.{position_of}
use Rattle.cli_formula.specs.declared.position.Position.{Position}
use Rattle.cli_formula.specs.Showing.{ShownFault, fault_at, results_line, text_of}

-- the results, or the fault with its place
abbrev pub shown_of : Shown → Result (List ℕ) ShownFault
shown_of (shows.Results text) = Ok text
shown_of (shows.Fault text place) = Err (record { text = text; place = place })

-- the output of an evaluation
abbrev pub evaluation_shown : Result Outcome EvalFault → Result (List ℕ) ShownFault
evaluation_shown (Ok outcome) = Ok (results_line outcome)
evaluation_shown (Err fault) = Err (fault_at (fault_name fault.fault) fault.place)

-- a fault of these bytes was written, whose place has this position
pub record WritesFaultAt (bytes : List ℕ) (before taken : Option (List ℕ)) (shown : Result (List ℕ) ShownFault) (position : Position) : Type 0 where
  pub fault : ShownFault
  pub is_shown : shown ≡ Err fault
  pub written : Gains before taken fault.text
  pub at_place : position ≡ position_of bytes fault.place

-- how the writing of the output of these bytes ends
abbrev pub Writes : List ℕ → Option (List ℕ) → Option (List ℕ) → Result (List ℕ) ShownFault → End → Type 0
Writes bytes before taken shown Done = (text : List ℕ) × (shown ≡ Ok text) × Gains before taken text
Writes bytes before taken shown (Fault position) = WritesFaultAt bytes before taken shown position
Writes bytes before taken shown SinkFault = GainsFront before taken (text_of shown)
Writes bytes before taken shown TooLong = ⊥
Writes bytes before taken shown SourceFault = ⊥
Writes bytes before taken shown Memory = ⊥
