-- Passes that stay idle.
use Rattle.std.proofs.Common.{◌≡◌, ℕ, List, [], ◌∷◌, refl, ap, sym, subst}
use Rattle.std.specs.Prelude.{Option, Some}
use Rattle.atomic_table.specs.Table.{Me, Splits}
use Rattle.counted_lock.specs.declared.views.Stamped.{Stamped}
use Rattle.counted_lock.specs.declared.views.View.{View}
use Rattle.counted_lock.specs.Views.{with_spare, without_spare, new_pass}
use Rattle.std.specs.Option.{unwrap_or}
use Rattle.atomic_table.specs.Seated.{TableId}
use Rattle.counted_lock.specs.Rule.{IsKept}
use Rattle.counted_lock.specs.Turns.{CatchesUp, TakesNumber}
use Rattle.counted_lock.specs.Passes.{IsIdleView, IsIdle, pass_of}
use Rattle.counted_lock.proofs.PassKinds.{gives_number}

module _ {S E O : Type 0} where
  pub idle_after : (told : List (Stamped E)) (me after : Me S (View E O)) → CatchesUp told me after → IsIdleView me.0 → IsIdleView after.0
  idle_after told me after up idle = let p = idle.plain in subst (λ (m : Me S (View E O)). IsIdleView m.0) (sym up.view)
      record { plain = record { numbered = p.numbered; no_spare = p.no_spare; few_parts = p.few_parts; not_sole = refl; not_told = refl }; free = idle.free }

  pub idle_same : (me after : Me S (View E O)) → after ≡ me → IsIdleView me.0 → IsIdleView after.0
  idle_same me after e idle = subst (λ (m : Me S (View E O)). IsIdleView m.0) (sym e) idle

  -- what is left of a seat that gave away the number that it had taken
  pub idle_given : (n : ℕ) (me after given : Me S (View E O)) → TakesNumber me after (Some n) → given ≡ (without_spare after.0, after.1)
      → IsIdleView me.0 → IsIdleView given.0
  idle_given n me after given t e idle = let p = idle.plain in subst (λ (m : Me S (View E O)). IsIdleView m.0) (sym e)
      (subst (λ (m : Me S (View E O)). IsIdleView (without_spare m.0)) (sym t.0)
      record { plain = record { numbered = p.numbered; no_spare = refl; few_parts = p.few_parts; not_sole = p.not_sole; not_told = p.not_told }; free = idle.free })

module _ {D E O : Type 0} (entries : D → List E) (origin : D → O) (about : D) where
  pub gives_taken : (id n : ℕ) (me after : Me (Option D) (View E O)) → TakesNumber me after (Some n) → IsIdleView me.0
      → Splits (IsKept entries origin about) id after.0 (without_spare after.0) (new_pass after.0)
  gives_taken id n me after t idle = let p = idle.plain in
      subst (λ (m : Me (Option D) (View E O)). Splits (IsKept entries origin about) id m.0 (without_spare m.0) (new_pass m.0)) (sym t.0)
      (gives_number entries origin about id (with_spare n me.0) idle.free p.not_sole)

pub number_is : {E O : Type 0} (t : TableId) (n : ℕ) (vs : List (View E O)) → IsIdle n vs → n ≡ (pass_of t vs).number
number_is t n [] e = e
number_is t n (v ∷ vs) e = sym (ap (λ (o : Option ℕ). unwrap_or o 0) e.2)
