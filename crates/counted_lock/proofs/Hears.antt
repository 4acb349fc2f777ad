-- What a seat has seen after it took in a note, and after it tried to take a number.
use Rattle.std.proofs.Common.{◌≡◌, ◌≢◌, ℕ, ◌+◌, ◌<◌, ◌++◌, Bool, true, false, List, [], ◌∷◌, length, length-append, refl, ap, sym, ◌∙◌, subst, arith}
use Rattle.std.specs.Prelude.{Option, Some, nat_le}
use Rattle.std.specs.Option.{unwrap_or}
use Rattle.std.proofs.lemmas.Bool.Decides.{nat_tests}
use mathlib.Core.List.{IsPrefix}
use Rattle.atomic_table.specs.Seated.{TableId}
use Rattle.atomic_table.specs.Table.{Me}
use Rattle.counted_lock.specs.declared.views.Stamped.{Stamped}
use Rattle.counted_lock.specs.declared.views.View.{View}
use Rattle.counted_lock.specs.Views.{places_of, unnumbered, longer_if, longer, note, joined, caught_up}
use Rattle.counted_lock.specs.Plays.{CaughtUp, Numbered}
use Rattle.counted_lock.specs.Turns.{CatchesUp, TakesNumber}
use Rattle.counted_lock.specs.Passes.{PassState, pass_of}
use Rattle.counted_lock.proofs.Places.{append_nil}

module _ {E : Type 0} where
  -- the longer of two lists of which the second begins with the first
  longer_told : (xs ys : List (Stamped E)) → IsPrefix xs ys → longer xs ys ≡ ys
  longer_told xs ys p = go (nat_le (length xs) (length ys)) refl
    where
      go : (b : Bool) → nat_le (length xs) (length ys) ≡ b → longer_if b xs ys ≡ ys
      go true is = refl
      go false is = let lt : length ys < length xs = grind (arith, nat_tests) in
          let n : length xs + length p.0 ≡ length ys = sym (length-append xs p.0) ∙ ap length p.1 in absurd (omega arith)

module _ {S E O : Type 0} where
  -- a pass that was told a history which begins with what it has seen has no other entries in it
  pub told_pass : (t : TableId) (told : List (Stamped E)) (me after : Me S (View E O)) (n : ℕ) (p : PassState E O) → me.0.number ≡ Some n
      → CatchesUp told me after → p ≡ pass_of t (me.0 ∷ []) → IsPrefix p.seen told → places_of p.number told ≡ places_of p.number p.seen
  told_pass t told me after n p own up is begins =
      let number : p.number ≡ n = ap (λ q. q.number) is ∙ ap (λ (o : Option ℕ). unwrap_or o 0) own in
      let seen : p.seen ≡ me.0.seen = ap (λ q. q.seen) is in
      let whole : longer me.0.seen told ≡ told = longer_told me.0.seen told (subst (λ xs. IsPrefix xs told) seen begins) in
      let placed : places_of n told ≡ places_of n me.0.seen = ap (places_of n) (sym whole) ∙ up.placed n own in
      ap (λ m. places_of m told) number ∙ (placed ∙ (ap (places_of n) (sym seen) ∙ ap (λ m. places_of m p.seen) (sym number)))

  -- nor has that history other entries without a number
  pub told_opened : (t : TableId) (told : List (Stamped E)) (me after : Me S (View E O)) (p : PassState E O) → CatchesUp told me after
      → p ≡ pass_of t (me.0 ∷ []) → ((o : O) × (p.origin ≡ Some o)) → IsPrefix p.seen told → unnumbered told ≡ unnumbered p.seen
  told_opened t told me after p up is real begins =
      let from : me.0.origin ≡ Some real.0 = sym (ap (λ q. q.origin) is) ∙ real.1 in
      let seen : p.seen ≡ me.0.seen = ap (λ q. q.seen) is in
      let whole : longer me.0.seen told ≡ told = longer_told me.0.seen told (subst (λ xs. IsPrefix xs told) seen begins) in
      ap unnumbered (sym whole) ∙ (up.opened real.0 from ∙ ap unnumbered (sym seen))

  pub caught : (me mid after : Me S (View E O)) (t : View E O) (n : ℕ) → mid ≡ (joined me.0 (note [] t), me.1) → CaughtUp mid n after → CatchesUp t.seen me after
  caught me mid after t n is up =
      let c = subst (λ (m : Me S (View E O)). CaughtUp m n after) is up in let p : me.0.parts ++ [] ≡ me.0.parts = append_nil me.0.parts in
      let view = c.view in let carried = c.carried in
      let fixed : caught_up (joined me.0 (note [] t)) ≡ record {
        number = me.0.number;
        spare = me.0.spare;
        parts = me.0.parts;
        sole = false;
        origin = me.0.origin;
        seen = longer me.0.seen t.seen;
        told = [];
        stage = me.0.stage;
      } =
      ap (λ (z : List ℕ). record {
        number = me.0.number;
        spare = me.0.spare;
        parts = z;
        sole = false;
        origin = me.0.origin;
        seen = longer me.0.seen t.seen;
        told = [];
        stage = me.0.stage;
      }) p in
      let now = view ∙ fixed in
      record { view = λ i. (now i, carried i); begins = c.begins; heard = c.heard; placed = c.placed; opened = c.opened }

  pub took : (me after : Me S (View E O)) (found old : ℕ) → found ≡ old → Numbered me found after old → TakesNumber me after (Some old)
  took me after found old same n = let view = n.made same in let carried = n.carried in ((λ i. (view i, carried i)), n.above same, n.unused same)

  pub missed : (me after : Me S (View E O)) (found old : ℕ) → found ≢ old → Numbered me found after old → after ≡ me
  missed me after found old ne n = let view = n.missed ne in let carried = n.carried in λ i. (view i, carried i)
