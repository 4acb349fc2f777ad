-- What a desk was opened with.
use Rattle.std.specs.Prelude.{ℕ}
use Rattle.batch_model.specs.Variants.{State}
use Rattle.batch_desk.specs.Kept.{Desk}

-- the tables before the first call, the seats, and the most calls that the journal takes
pub record Opening : Type 0 where
  pub opened : State
  pub seats : ℕ
  pub limit : ℕ

abbrev pub opening_of : {K : Type 0} → Desk K → Opening
opening_of d = record { opened = d.opened; seats = d.seats; limit = d.limit }
