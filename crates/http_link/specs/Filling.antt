-- What a read of a link adds to a buffer.
use Rattle.std.specs.Prelude.{◌≡◌, ◌<◌, ◌≤◌, ℕ, List, [], ◌++◌, length, Bool, IsTrue, IsFalse, Option}
use Rattle.std.specs.Io.KnownBytes.{Consumes, Keeps, IsAtEnd}
use Rattle.http_link.specs.declared.room.TheConstants.{FILL_BYTES}
use Rattle.http_link.specs.declared.room.FillFault.{FillFault}
use Rattle.http_link.specs.declared.room.FillFault.TheVariants.{Memory, Failed}

-- the buffer grew by bytes that the link gave, by no more than one read may give, and by none only at their end
pub record Fills (left_before left_now : Option (List ℕ)) (old new : List ℕ) (more : Bool) : Type 0 where
  pub piece : List ℕ
  pub buffer : new ≡ old ++ piece
  pub given : Consumes left_before left_now piece
  pub few : length piece ≤ FILL_BYTES
  pub some : IsTrue more → 0 < length piece
  pub none : IsFalse more → IsAtEnd left_now × (piece ≡ [])

-- the link gave bytes that no buffer has
pub record Loses (left_before left_now : Option (List ℕ)) : Type 0 where
  pub piece : List ℕ
  pub given : Consumes left_before left_now piece

-- what a link that could not fill a buffer has left: what it had if it failed, and less if there was no memory for its bytes
abbrev pub LeftAfter : FillFault → Option (List ℕ) → Option (List ℕ) → Type 0
LeftAfter Failed before now = Keeps before now
LeftAfter Memory before now = Loses before now
