-- What a link took of a text that was not written whole.
use Rattle.std.specs.Prelude.{◌≡◌, ◌<◌, ℕ, List, ◌++◌, length, Option}
use Rattle.byte_streams.specs.Content.{Gains}

-- it took a prefix of these bytes, and not all of them
pub record GainsPart (old new : Option (List ℕ)) (bytes : List ℕ) : Type 0 where
  pub front : List ℕ
  pub rest : List ℕ
  pub cut : bytes ≡ front ++ rest
  pub missing : 0 < length rest
  pub gained : Gains old new front
