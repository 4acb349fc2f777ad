-- A turn of a shared desk.
use Rattle.std.specs.Prelude.{◌≡◌, ℕ, Option}
use Rattle.batch_model.specs.Variants.{State}
use Rattle.batch_desk.specs.Kept.{Desk}
use Rattle.batch_desk.specs.Answers.{IsInOrder}
use Rattle.shared_desk.specs.Openings.{Opening, opening_of}
use Rattle.shared_desk.specs.Sharing.{Caller, calls_of, tables_after, SeesLegal}

-- the pass `p` has the turn, as `h`: the desk's journal is what it has then seen, and the desk's tables are those after it
pub record HasTurn {K : Type 0} (told : K → Option State) (faults : K → ℕ) (o : Opening) (p h : Caller) (d : Desk K) : Type 0 where
  pub number : h.number ≡ p.number
  pub sees : SeesLegal o p h
  pub journal : d.entries ≡ calls_of h.seen
  pub opening : opening_of d ≡ o
  pub state : d.state ≡ tables_after o h.seen
  pub in_order : IsInOrder told faults d
