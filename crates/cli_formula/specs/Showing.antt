-- The output of the command `formula`, and how it ends.
use Rattle.std.specs.Prelude.{◌≡◌, ◌⊎◌, ◌≤◌, ◌<◌, ℕ, List, [], ◌∷◌, ◌++◌, codes, length, take, Option, Some, None, IsSome, Result, Ok, Err}
use Rattle.std.specs.Fmt.{decimal}
use Rattle.byte_streams.specs.Content.{Gains, GainsFront}
use Rattle.bt_base.specs.Utf8.{utf8_text}
use Rattle.formula_trees.specs.Formula.{StatementTree}
use Rattle.bt_base.specs.declared.formula_fault.FormulaFault.{FormulaFault}
use Rattle.formula_types.specs.Compiled.{IsFormula, HasFault}
use Rattle.bt_base.specs.FormulaFaults.{name_of, place_of}
use Rattle.formula_values.specs.Faults.{fault_name}
use Rattle.formula_metrics.specs.Parts.{blank_metrics}
use Rattle.cli_formula.specs.Positions.{position_of}
use Rattle.cli_formula.specs.declared.position.Position.{Position}
use Rattle.cli_formula.specs.declared.end.End.{End}
use Rattle.cli_formula.specs.declared.end.End.TheVariants.{Done, Fault, TooLong, SourceFault, SinkFault, Memory}
use Rattle.cli_formula.specs.declared.run.TheConstants.{LIMIT}
use Rattle.formula_eval.specs.declared.fault.EvalFault.{EvalFault}
use Rattle.formula_eval.specs.declared.outcome.Targets.{Targets}
use Rattle.formula_eval.specs.declared.outcome.Outcome.{Outcome}
use Rattle.formula_eval.specs.Statements.{evaluated}
use Rattle.formula_eval.specs.Results.{error_text, results_text}

-- the first `count` bytes are the longest prefix that is UTF-8
pub record IsLongestText (bytes : List ℕ) (count : ℕ) : Type 0 where
  pub within : count ≤ length bytes
  pub text : IsSome (utf8_text (take count bytes))
  pub longest : (more : ℕ) → count < more → more ≤ length bytes → utf8_text (take more bytes) ≡ None

-- `error`, a fault's name and its place, and a line's end
abbrev pub fault_line : List ℕ → ℕ → List ℕ
fault_line name place = error_text name place ++ 10 ∷ []

-- what is written of a fault, and its place
pub record ShownFault : Type 0 where
  pub text : List ℕ
  pub place : ℕ

-- a fault of this name
abbrev pub fault_at : List ℕ → ℕ → ShownFault
fault_at name place = record { text = fault_line name place; place = place }

-- the results and a line's end
abbrev pub results_line : Outcome → List ℕ
results_line outcome = results_text outcome ++ 10 ∷ []

-- with these nodes wanted before, and none of low priority
abbrev pub targets_of : ℕ → Targets
targets_of nodes = record { dedicated = nodes; low = 0 }

-- The output of these bytes at a moment, with this number of nodes wanted before: their results, or their fault. Bytes that are not
-- UTF-8 have a fault at the end of their longest prefix that is, before all others.
pub data Shows (now nodes : ℕ) (bytes : List ℕ) : Result (List ℕ) ShownFault → Type 0 where
  no_text : (count : ℕ) → utf8_text bytes ≡ None → IsLongestText bytes count → Shows now nodes bytes (Err (fault_at (codes "BadCharacter") count))
  no_formula : (fault : FormulaFault) → utf8_text bytes ≡ Some bytes → HasFault bytes fault →
      Shows now nodes bytes (Err (fault_at (name_of fault) (place_of fault)))
  fails : (ss : List StatementTree) (fault : EvalFault) → utf8_text bytes ≡ Some bytes → IsFormula bytes ss →
      evaluated bytes ss blank_metrics now (targets_of nodes) ≡ Err fault → Shows now nodes bytes (Err (fault_at (fault_name fault.fault) fault.place))
  gives : (ss : List StatementTree) (outcome : Outcome) → utf8_text bytes ≡ Some bytes → IsFormula bytes ss →
      evaluated bytes ss blank_metrics now (targets_of nodes) ≡ Ok outcome → Shows now nodes bytes (Ok (results_line outcome))

-- the text that is written, of results or of a fault
abbrev pub text_of : Result (List ℕ) ShownFault → List ℕ
text_of (Ok text) = text
text_of (Err fault) = fault.text

-- it was written whole
pub record WritesAll (now nodes : ℕ) (bytes : List ℕ) (before taken : Option (List ℕ)) (shown : Result (List ℕ) ShownFault) : Type 0 where
  pub few : length bytes ≤ LIMIT
  pub shows : Shows now nodes bytes shown
  pub written : Gains before taken (text_of shown)

-- a fault was written, whose place has this position
pub record WritesFault (now nodes : ℕ) (bytes : List ℕ) (before taken : Option (List ℕ)) (position : Position) : Type 0 where
  pub fault : ShownFault
  pub whole : WritesAll now nodes bytes before taken (Err fault)
  pub at_place : position ≡ position_of bytes fault.place

-- a prefix of it was written
pub record WritesFront (now nodes : ℕ) (bytes : List ℕ) (before taken : Option (List ℕ)) : Type 0 where
  pub few : length bytes ≤ LIMIT
  pub shown : Result (List ℕ) ShownFault
  pub shows : Shows now nodes bytes shown
  pub written : GainsFront before taken (text_of shown)

-- what each end says of the bytes of the source, and of the sink's content before and after
abbrev pub FormulaRan : ℕ → ℕ → List ℕ → Option (List ℕ) → Option (List ℕ) → End → Type 0
FormulaRan now nodes bytes before taken Done = (text : List ℕ) × WritesAll now nodes bytes before taken (Ok text)
FormulaRan now nodes bytes before taken (Fault position) = WritesFault now nodes bytes before taken position
FormulaRan now nodes bytes before taken TooLong = (LIMIT < length bytes) × Gains before taken []
FormulaRan now nodes bytes before taken SourceFault = Gains before taken []
FormulaRan now nodes bytes before taken SinkFault = WritesFront now nodes bytes before taken
FormulaRan now nodes bytes before taken Memory = Gains before taken [] ⊎ WritesFront now nodes bytes before taken

-- the ends with which nothing is written
abbrev pub IsUnwritten : End → Type 0
IsUnwritten Done = ⊥
IsUnwritten (Fault position) = ⊥
IsUnwritten TooLong = Unit {0}
IsUnwritten SourceFault = Unit {0}
IsUnwritten SinkFault = ⊥
IsUnwritten Memory = ⊥
