-- The turns of a schedule over several calls.
use Rattle.std.proofs.Common.{◌≡◌, ℕ, List, [], ◌∷◌, ◌⊎◌, inl, inr, Option, true, subst, ◌∙◌}
use Rattle.schedule_rows.specs.Occurrences.{is_new}
use Rattle.schedule_rows.specs.Rows.{Schedule}
use Rattle.schedule_laws.specs.Laws.{MakesNone, MakesOne, Turn, IsTurn, AreTurnsOf, MakesInOrder}
use Rattle.schedule_laws.proofs.Cuts.{cut_one_at_most}
use Rattle.schedule_laws.proofs.Turns.{one_at_most}

one_more : (last : Option ℕ) (t : Turn) (ts : List Turn) → t.before.last ≡ last → MakesInOrder t.after.last ts
    → MakesNone t.before t.after t.exchanges ⊎ MakesOne t.moment t.before t.after t.exchanges → MakesInOrder last (t ∷ ts)
one_more last t ts e rest (inl none) = inl (none.jobs, subst (λ l. MakesInOrder l ts) (none.occurrence ∙ e) rest)
one_more last t ts e rest (inr one) =
    inr (
      one.occurrence,
      record { later = subst (λ l. is_new l one.occurrence ≡ true) e one.later; due = one.due; jobs = one.jobs; first_or_free = one.first_or_free },
      subst (λ l. MakesInOrder l ts) one.is_last rest,
    )

-- a turn, whole or cut short, makes no job or one
pub turn_makes : (t : Turn) → IsTurn t → MakesNone t.before t.after t.exchanges ⊎ MakesOne t.moment t.before t.after t.exchanges
turn_makes t (inl whole) = one_at_most t.moment t.before t.after t.exchanges whole
turn_makes t (inr cut) = cut_one_at_most t.moment t.before t.after t.exchanges cut

pub in_order : (s : Schedule) (ts : List Turn) → AreTurnsOf s ts → MakesInOrder s.last ts
in_order s [] h = tt
in_order s (t ∷ ts) h = one_more s.last t ts h.0.last (in_order t.after ts h.2) (turn_makes t h.1)
