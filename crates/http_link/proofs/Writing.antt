-- A text of which a link has taken a prefix.
use Rattle.std.proofs.Common.{◌≡◌, ◌≤◌, ◌++◌, List, ℕ, Option}
use Rattle.byte_streams.specs.Content.{Gains}

-- the link took what the piece has before the rest, and nothing else of it changed but its count of faults
pub record Wrote {L : Type 0} (taken left : L → Option (List ℕ)) (faults : L → ℕ) (old new : L) (piece rest : List ℕ) : Type 0 where
  pub front : List ℕ
  pub cut : piece ≡ front ++ rest
  pub gained : Gains (taken old) (taken new) front
  pub same_left : left new ≡ left old
  pub later : faults old ≤ faults new
