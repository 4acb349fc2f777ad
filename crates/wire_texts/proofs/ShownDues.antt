-- Due steps whose lines were written by hand, computed.
use Rattle.std.proofs.Common.{◌≡◌, ℕ, List, [], ◌∷◌, map, refl}
use Rattle.std.specs.Fmt.{digits}
use Rattle.std.specs.Prelude.{codes}
use Rattle.bt_rows.specs.declared.due.Due.{Due}
use Rattle.bt_rows.specs.declared.due.Due.TheVariants.{Sampled, TaskTimedOut, ReleaseTimedOut, JobTimedOut, TaskSettled, JobEnabled, TasksDone, JobDisabled, ReleaseMade, JobEnded, PoolResized, PoolScaled, NodeLeaves, NodeDropped, NodeAdded, TaskPlaced}
use Rattle.bt_rows.specs.declared.due.Outcome.TheVariants as outcomes
use Rattle.bt_rows.specs.declared.due.JobEnd.TheVariants as job_ends
use Rattle.bt_rows.specs.declared.due.ResizeEnd.TheVariants as resize_ends
use Rattle.wire_texts.specs.Lines.{numbered}
use Rattle.wire_texts.specs.Dues.{outcome_text, job_end_word, resize_end_word, due_text}

abbrev p : List ℕ
p = codes "p"

abbrev j : List ℕ
j = codes "j"

abbrev t : List ℕ
t = codes "t"

abbrev all_dues : List Due
all_dues =
    Sampled p 1800000000000 ∷
    TaskTimedOut j t ∷
    ReleaseTimedOut 7 ∷
    JobTimedOut j ∷
    TaskSettled j t outcomes.Deleted ∷
    TaskSettled j t outcomes.Success ∷
    TaskSettled j t outcomes.Failure ∷
    TaskSettled j t (outcomes.Again 4) ∷
    JobEnabled j ∷
    TasksDone j ∷
    JobDisabled j ∷
    ReleaseMade j 2 5 ∷
    JobEnded j job_ends.Kept ∷
    JobEnded j job_ends.Removed ∷
    PoolResized p resize_ends.Removed ∷
    PoolResized p resize_ends.Reached ∷
    PoolResized p resize_ends.TimedOut ∷
    PoolResized p resize_ends.Stopped ∷
    PoolScaled p (codes "error EmptyVector 4") ∷
    NodeLeaves 2 ∷
    NodeDropped 1 ∷
    NodeAdded p 3 32 ∷
    TaskPlaced j t 1 4 ∷
    []

their_lines : map due_text all_dues ≡
    codes "U1 p 1800000000000" ∷
    codes "U2 j t" ∷
    codes "U3 7" ∷
    codes "U4 j" ∷
    codes "U5 j t deleted" ∷
    codes "U5 j t success" ∷
    codes "U5 j t failure" ∷
    codes "U5 j t active 4" ∷
    codes "U6 j" ∷
    codes "U7 j" ∷
    codes "U8 j" ∷
    codes "U9 j 2 5" ∷
    codes "U10 j completed" ∷
    codes "U10 j removed" ∷
    codes "U11 p removed" ∷
    codes "U11 p steady" ∷
    codes "U11 p timeout" ∷
    codes "U11 p stopped" ∷
    codes "U12 p error EmptyVector 4" ∷
    codes "U13 2" ∷
    codes "U14 1" ∷
    codes "U15 p 3 32" ∷
    codes "U16 j t 1 4" ∷
    []
unfolding due_text outcome_text job_end_word resize_end_word digits
their_lines = refl

numbered_line : numbered 18 (codes "U3 7") ≡ codes "18 U3 7\n"
unfolding numbered digits
numbered_line = refl
