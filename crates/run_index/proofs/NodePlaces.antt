-- The places of the runs on each node, after a change.
use Rattle.std.proofs.Common.{◌≡◌, ℕ, Bool, true, false, ◌&&◌, ◌||◌, nat_eq, List, [], ◌∷◌, ◌++◌, Option, Some, None, length, refl, sym, ap, subst, ◌∙◌, ⊎_elim, arith}
use Rattle.std.specs.Option.{unwrap_or}
use Rattle.std.specs.List.{Contains, list_any}
use Rattle.std.specs.Str.{bytes_eq}
use Rattle.std.proofs.lemmas.Bool.{cases_Bool, cond-true, cond-false}
use Rattle.std.proofs.lemmas.Bool.Decides.{nat_tests}
use Rattle.std.proofs.lemmas.Slice.Eq.{bytes_eq-Decides}
use Rattle.kept_table.specs.Keys.{number_text}
use Rattle.kept_table.specs.Slots.{slot_at, rows, holds, put_at, clear_at}
use Rattle.text_chains.specs.Chains.{ChainsView, places_of, with_place}
use Rattle.text_chains.proofs.Covered.{any_covered, contained_first, contained_later}
use Rattle.batch_model.specs.Variants.{RunRow}
use Rattle.run_index.specs.Nodes.{HasNodeRuns, is_on_node, runs_at, AreOnNode}
use Rattle.run_index.proofs.AttemptTexts.{both}
use Rattle.run_index.proofs.ChangedSlots.{Origin, Origin.was_there, Origin.was_put, put_origin, clear_origin, none_there}

same_node : (a b : ℕ) → nat_eq a b ≡ true → a ≡ b
same_node a b e = grind (arith, nat_tests, e)

-- a run was put at a place of its node
pub node_put : (view : ChainsView) (slots : List (Option RunRow)) (before : Option ℕ) (run : RunRow) (place : ℕ) → place ≡ unwrap_or before (length slots)
    → Contains (places_of view (number_text run.node)) place → HasNodeRuns view slots → HasNodeRuns view (put_at before run slots)
node_put view slots before run place is has places = record {
  has = λ at found there. by at found (put_origin before slots run at found there);
}
  where
    by : (at : ℕ) (found : RunRow) → Origin slots (unwrap_or before (length slots)) run at found → Contains (places_of view (number_text found.node)) at
    by at found (was_there e) = places.has at found e
    by at found (was_put e f) =
        subst (λ (r : RunRow). Contains (places_of view (number_text r.node)) at) (sym f)
        (subst (λ (p : ℕ). Contains (places_of view (number_text run.node)) p) (is ∙ sym e) has)

-- the run that was there is on the same node
pub node_put_again : (view : ChainsView) (slots : List (Option RunRow)) (before : Option ℕ) (run : RunRow) (place : ℕ) → place ≡ unwrap_or before (length slots)
    → holds (is_on_node run.node) (slot_at slots place) ≡ true → HasNodeRuns view slots → HasNodeRuns view (put_at before run slots)
node_put_again view slots before run place is same places = by (slot_at slots place) refl same
  where
    by : (slot : Option RunRow) → slot_at slots place ≡ slot → holds (is_on_node run.node) slot ≡ true → HasNodeRuns view (put_at before run slots)
    by None there e = absurd (cc)
    by (Some old) there e =
        node_put view slots before run place is
        (subst (λ (node : ℕ). Contains (places_of view (number_text node)) place) (same_node old.node run.node e) (places.has place old there)) places

-- a place was added to those of a node
pub node_added : (old new : ChainsView) (node place : ℕ) → ((other : List ℕ) → places_of new other ≡ with_place (places_of old) (number_text node) place other)
    → Contains (places_of new (number_text node)) place
node_added old new node place h =
    subst (λ (places : List ℕ). Contains places place)
    (sym (h (number_text node) ∙ cond-true (bytes_eq (number_text node) (number_text node)) (place ∷ places_of old (number_text node)) (places_of old (number_text node)) ((bytes_eq-Decides (number_text node) (number_text node)).1 refl)))
    (contained_first place (places_of old (number_text node)))

-- the others stay
pub nodes_kept : (old new : ChainsView) (text : List ℕ) (place : ℕ) (slots : List (Option RunRow))
    → ((other : List ℕ) → places_of new other ≡ with_place (places_of old) text place other) → HasNodeRuns old slots → HasNodeRuns new slots
nodes_kept old new text place slots h places = record {
  has = λ at run there. by (number_text run.node) at (places.has at run there);
}
  where
    by : (other : List ℕ) (at : ℕ) → Contains (places_of old other) at → Contains (places_of new other) at
    by other at c =
        ⊎_elim
        (λ (e : bytes_eq text other ≡ true).
        subst (λ (ps : List ℕ). Contains ps at) (sym (h other ∙ cond-true (bytes_eq text other) (place ∷ places_of old other) (places_of old other) e))
        (contained_later place (places_of old other) at c))
        (λ (e : bytes_eq text other ≡ false).
        subst (λ (ps : List ℕ). Contains ps at) (sym (h other ∙ cond-false (bytes_eq text other) (place ∷ places_of old other) (places_of old other) e)) c)
        (cases_Bool (bytes_eq text other))

-- a run was put, and its place added to those of its node
pub node_put_added : (old new : ChainsView) (slots : List (Option RunRow)) (before : Option ℕ) (run : RunRow) (place : ℕ) → place ≡ unwrap_or before (length slots)
    → ((other : List ℕ) → places_of new other ≡ with_place (places_of old) (number_text run.node) place other) → HasNodeRuns old slots
    → HasNodeRuns new (put_at before run slots)
node_put_added old new slots before run place is h places =
    node_put new slots before run place is (node_added old new run.node place h) (nodes_kept old new (number_text run.node) place slots h places)

-- a run was removed
pub node_cleared : (view : ChainsView) (slots : List (Option RunRow)) (before : Option ℕ) → HasNodeRuns view slots → HasNodeRuns view (clear_at before slots)
node_cleared view slots before places = record { has = λ at run there. places.has at run (clear_origin before slots at run there) }

-- one place more, without a run
pub node_none_next : (view : ChainsView) (slots : List (Option RunRow)) → HasNodeRuns view slots → HasNodeRuns view (slots ++ None ∷ [])
node_none_next view slots places = record { has = λ at run there. places.has at run (none_there slots at run there) }

-- with other room
pub nodes_same : (old new : ChainsView) (slots : List (Option RunRow)) → ((text : List ℕ) → places_of new text ≡ places_of old text) → HasNodeRuns old slots
    → HasNodeRuns new slots
nodes_same old new slots same places = record {
  has = λ at run there. subst (λ (ps : List ℕ). Contains ps at) (sym (same (number_text run.node))) (places.has at run there);
}

-- some run at the places passes exactly if the row at one of them does
any_at : (test : RunRow → Bool) (slots : List (Option RunRow)) (places : List ℕ)
    → list_any test (runs_at slots places) ≡ list_any (λ place. holds test (slot_at slots place)) places
any_at test slots [] = refl
any_at test slots (place ∷ places) = by (slot_at slots place) refl (any_at test slots places)
  where
    by : (slot : Option RunRow) → slot_at slots place ≡ slot
        → list_any test (runs_at slots places) ≡ list_any (λ at. holds test (slot_at slots at)) places
        → list_any test (runs_at slots (place ∷ places)) ≡ (holds test (slot_at slots place) || list_any (λ at. holds test (slot_at slots at)) places)
    by None e rest = rw e rest
    by (Some run) e rest = rw e (ap (λ (b : Bool). test run || b) rest)

-- the runs at the places of a node are those on it, and perhaps others
pub are_on_node : (view : ChainsView) (slots : List (Option RunRow)) (node : ℕ) → HasNodeRuns view slots
    → AreOnNode node (runs_at slots (places_of view (number_text node))) (rows slots)
are_on_node view slots node places = λ test.
    any_at (λ run. is_on_node node run && test run) slots (places_of view (number_text node))
    ∙ any_covered (λ run. is_on_node node run && test run) slots (places_of view (number_text node))
    (λ place run there passes.
    let on = same_node run.node node (both (is_on_node node run) (test run) passes).0 in
    subst (λ (n : ℕ). Contains (places_of view (number_text n)) place) on (places.has place run there))
