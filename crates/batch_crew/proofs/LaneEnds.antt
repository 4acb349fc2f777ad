-- A lane whose last turn was cut short.
use Rattle.std.proofs.Common.{ℕ, Bool}
use Rattle.child_runs.specs.declared.ran.ChildRun.{ChildRun}
use Rattle.shared_desk.specs.Openings.{Opening}
use Rattle.batch_crew.specs.declared.cut.Cut.{Cut}
use Rattle.batch_crew.specs.declared.cut.Cut.TheVariants.{JournalFull as Full, Memory as NoMemory}
use Rattle.batch_crew.specs.Ends.{end_of}
use Rattle.batch_crew.specs.Lanes.{TimedCaller, EndsCut, IsLane}

-- it ended for what cut the turn short
pub cut_lane : (o : Opening) (seat : ℕ) {S C : Type 0} (ran : S → ChildRun → S → Type 0) (gives : C → ℕ → C → Type 0) (pauses : C → Bool → C → Type 0)
    (cut : Cut) (p : TimedCaller C) (s : S) (q : TimedCaller C) (t : S) → EndsCut o seat ran gives pauses cut p s q t
    → IsLane o seat ran gives pauses p s q t (end_of cut)
cut_lane o seat ran gives pauses Full p s q t e = e
cut_lane o seat ran gives pauses NoMemory p s q t e = e
