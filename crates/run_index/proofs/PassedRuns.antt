-- Runs that pass a test have ranks up to a bound: the runs that are passed over from one such rank to the next do not pass it.
use Rattle.std.proofs.Common.{◌≡◌, ℕ, suc, ◌+◌, ◌<◌, ◌≤◌, Bool, true, false, nat_le, List, [], ◌∷◌}
use Rattle.std.proofs.Common.{filter, length, map, drop, Option, Some, None, refl, sym, ap, ◌∙◌, ⊎_elim, arith}
use Rattle.std.specs.Option.{option_map}
use Rattle.std.proofs.lemmas.Bool.{cases_Bool, cond-false, le-leb, true≢false}
use Rattle.std.proofs.lemmas.List.{drop-map, drop-drop, length-drop, length-map}
use Rattle.std.proofs.Math.Seq.{drop-cons}
use Rattle.first_tree.specs.Ranks.{first_within, first_within_from}
use Rattle.kept_table.specs.Slots.{slot_at, rows}
use Rattle.kept_table.proofs.PlacesOf.{not_here, here, behind, slot_at_get}
use Rattle.batch_model.specs.Variants.{RunRow}

-- from one place to the next that was found, no run passes the test
pub record IsNext (test : RunRow → Bool) (slots : List (Option RunRow)) (from place : ℕ) : Type 0 where
  pub after : from ≤ place
  pub within : place < length slots
  pub rest : filter test (rows (drop from slots)) ≡ filter test (rows (slot_at slots place ∷ drop (place + 1) slots))

record IsMapped (from place : ℕ) (found : Option ℕ) : Type 0 where
  step : ℕ
  is : found ≡ Some step
  sum : place ≡ from + step

mapped_none : (from : ℕ) (found : Option ℕ) → option_map (λ (step : ℕ). from + step) found ≡ None → found ≡ None
mapped_none from None e = refl
mapped_none from (Some step) e = absurd (cc)

mapped_some : (from place : ℕ) (found : Option ℕ) → option_map (λ (step : ℕ). from + step) found ≡ Some place → IsMapped from place found
mapped_some from place None e = absurd (cc)
mapped_some from place (Some step) e = record { step = step; is = refl; sum = cc }

drop_at_place : (slots : List (Option RunRow)) (place : ℕ) → place < length slots → drop place slots ≡ slot_at slots place ∷ drop (place + 1) slots
drop_at_place slots place within =
    let next : suc place ≡ place + 1 = omega arith in
    drop-cons slots place None within
    ∙ ap (λ (slot : Option RunRow). slot ∷ drop (suc place) slots) (sym (slot_at_get slots place None within))
    ∙ ap (λ (n : ℕ). slot_at slots place ∷ drop n slots) next

found_within : (bound : ℕ) (ranks : List ℕ) (k : ℕ) → first_within bound ranks ≡ Some k → k < length ranks
found_within bound [] k h = absurd (cc)
found_within bound (rank ∷ ranks) k h =
    ⊎_elim
    (λ (e : nat_le rank bound ≡ true). let zero_is = here (nat_le rank bound) (first_within bound ranks) k e h in omega (arith, zero_is))
    (λ (e : nat_le rank bound ≡ false).
    let b = behind (nat_le rank bound) (first_within bound ranks) k e h in
    let next = b.next in
    let rest = found_within bound ranks b.place b.is in
    omega arith)
    (cases_Bool (nat_le rank bound))

module _ (test : RunRow → Bool) (rank : Option RunRow → ℕ) (bound : ℕ) (reached : (run : RunRow) → test run ≡ true → rank (Some run) ≤ bound) where
  -- a slot whose rank is above the bound has no run that passes
  skipped : (slot : Option RunRow) (slots : List (Option RunRow)) → nat_le (rank slot) bound ≡ false
      → filter test (rows (slot ∷ slots)) ≡ filter test (rows slots)
  skipped None slots above = refl
  skipped (Some run) slots above =
      ⊎_elim
      (λ (e : test run ≡ true). absurd (true≢false (sym (le-leb (rank (Some run)) bound (reached run e)) ∙ above)))
      (λ (e : test run ≡ false). cond-false (test run) (run ∷ filter test (rows slots)) (filter test (rows slots)) e)
      (cases_Bool (test run))

  none_passes : (slots : List (Option RunRow)) → first_within bound (map rank slots) ≡ None → filter test (rows slots) ≡ []
  none_passes [] h = refl
  none_passes (slot ∷ slots) h =
      let not = not_here (nat_le (rank slot) bound) (first_within bound (map rank slots)) h in
      skipped slot slots not.0 ∙ none_passes slots not.1

  passed_to : (slots : List (Option RunRow)) (k : ℕ) → first_within bound (map rank slots) ≡ Some k
      → filter test (rows slots) ≡ filter test (rows (drop k slots))
  passed_to [] k h = absurd (cc)
  passed_to (slot ∷ slots) k h =
      ⊎_elim
      (λ (e : nat_le (rank slot) bound ≡ true).
      let zero_is = here (nat_le (rank slot) bound) (first_within bound (map rank slots)) k e h in
      rw zero_is refl)
      (λ (e : nat_le (rank slot) bound ≡ false).
      let b = behind (nat_le (rank slot) bound) (first_within bound (map rank slots)) k e h in
      rw b.next (skipped slot slots e ∙ passed_to slots b.place b.is))
      (cases_Bool (nat_le (rank slot) bound))

  left_ranks : (slots : List (Option RunRow)) (ranks : List ℕ) (from : ℕ) → ranks ≡ map rank slots → drop from ranks ≡ map rank (drop from slots)
  left_ranks slots ranks from are = ap (drop from) are ∙ drop-map rank from slots

  -- none was found, so no run that is left passes the test
  pub none_left : (slots : List (Option RunRow)) (ranks : List ℕ) (from : ℕ) → ranks ≡ map rank slots → first_within_from from bound ranks ≡ None
      → filter test (rows (drop from slots)) ≡ []
  none_left slots ranks from are none =
      none_passes (drop from slots)
      (ap (first_within bound) (sym (left_ranks slots ranks from are)) ∙ mapped_none from (first_within bound (drop from ranks)) none)

  pub is_next : (slots : List (Option RunRow)) (ranks : List ℕ) (from place : ℕ) → ranks ≡ map rank slots → first_within_from from bound ranks ≡ Some place
      → IsNext test slots from place
  is_next slots ranks from place are some =
      let m = mapped_some from place (first_within bound (drop from ranks)) some in
      let sum = m.sum in
      let found : first_within bound (map rank (drop from slots)) ≡ Some m.step = ap (first_within bound) (sym (left_ranks slots ranks from are)) ∙ m.is in
      let short = found_within bound (map rank (drop from slots)) m.step found in
      let long = length-map (drop from slots) rank in
      let left = length-drop from slots in
      let within : place < length slots = omega arith in
      record {
        after = omega arith;
        within = within;
        rest =
            passed_to (drop from slots) m.step found
            ∙ ap (λ (ss : List (Option RunRow)). filter test (rows ss))
            (drop-drop m.step from slots ∙ ap (λ (n : ℕ). drop n slots) (sym sum) ∙ drop_at_place slots place within);
      }
