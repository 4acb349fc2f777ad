-- What was written of a run that ended early.
use Rattle.std.specs.Prelude.{◌≡◌, ℕ, List, ◌++◌, Option}
use Rattle.byte_streams.specs.Content.{Gains}

-- the bytes begin with this prefix
pub record BeginsWith (bytes front : List ℕ) : Type 0 where
  pub rest : List ℕ
  pub cut : bytes ≡ front ++ rest

-- What is told grew by a prefix of the most bytes, which itself begins with the least bytes.
pub record GainsBetween (old new : Option (List ℕ)) (least most : List ℕ) : Type 0 where
  pub front : List ℕ
  pub gained : Gains old new front
  pub at_least : BeginsWith front least
  pub at_most : BeginsWith most front
