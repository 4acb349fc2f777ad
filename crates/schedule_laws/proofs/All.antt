-- The turns of all schedules.
use Rattle.std.proofs.Common.{◌≡◌, ℕ, List, [], ◌∷◌, ◌++◌, refl, sym, subst, ◌∙◌, append_assoc, append-nil}
use Rattle.batch_desk.specs.Exchanges.{Exchange}
use Rattle.schedule_rows.specs.Interactions.{Ends, Reaches}
use Rattle.schedule_rows.specs.Rows.{Schedule}
use Rattle.schedule_rows.specs.Turns.{turns}
use Rattle.schedule_laws.specs.Laws.{EachMakesOneAtMost}
use Rattle.schedule_laws.proofs.Splits.{first_turn}
use Rattle.schedule_laws.proofs.Turns.{one_at_most}

-- the schedules that turns leave after those of `done`
record Lefts (now : ℕ) (done rows : List Schedule) (xs : List Exchange) (end : List Schedule) : Type 0 where
  pub lasts : List Schedule
  pub end_is : end ≡ done ++ lasts
  pub each : EachMakesOneAtMost now rows lasts xs

is_end : (done end : List Schedule) → Ends end ≡ Ends done → end ≡ done
is_end done end e = cc

all_turns : (now : ℕ) (rows done : List Schedule) (xs : List Exchange) (end : List Schedule) → Reaches (turns now done rows) xs (Ends end)
    → Lefts now done rows xs end
all_turns now [] done [] end h = record { lasts = []; end_is = is_end done end h ∙ sym (append-nil done); each = refl }
all_turns now [] done (x ∷ xs) end h = absurd h
all_turns now (s ∷ rows) done xs end h =
    let first = first_turn now done s rows xs end h in
    let more = all_turns now rows (done ++ first.last ∷ []) first.others end first.reached in
    record {
      lasts = first.last ∷ more.lasts;
      end_is = more.end_is ∙ append_assoc done (first.last ∷ []) more.lasts;
      each = (first.own, first.others, first.split, one_at_most now s first.last first.own first.alone, more.each);
    }

pub each_one : (now : ℕ) (rows lasts : List Schedule) (xs : List Exchange) → Reaches (turns now [] rows) xs (Ends lasts) → EachMakesOneAtMost now rows lasts xs
each_one now rows lasts xs h =
    let all = all_turns now rows [] xs lasts h in
    subst (λ w. EachMakesOneAtMost now rows w xs) (sym all.end_is) all.each
