-- A run whose number was given before is the run that had it before.
use Rattle.std.proofs.Common.{◌≡◌, ℕ, Bool, true, false, not, ◌&&◌, ◌||◌, nat_eq, List, Option, Some, None, refl, ap, subst}
use Rattle.std.proofs.lemmas.Bool.Decides.{Decides-eqb}
use Rattle.std.specs.Bool.{Decides}
use Rattle.std.specs.Cmp.Lexicographic.{pointwise, bytes_decides}
use Rattle.std.specs.List.{list_any}
use Rattle.bt_rows.specs.Keys.{same_run, same_run_equiv}
use Rattle.bt_rows.specs.Lists.{AreDistinct}
use Rattle.batch_model.specs.Rows.{is_run, run_of}
use Rattle.batch_model.specs.Runs.{is_unended}
use Rattle.batch_model.specs.Variants.{State, RunRow, RunKind, RunState, StartRun, PrepRun, TaskRun, CoordinationRun, ReleaseRun}
use Rattle.model_lists.proofs.DistinctLists.{each_with_key}
use Rattle.model_lists.proofs.RowLists.{each_weaker, find_test, none_any, any_found}
use Rattle.model_lists.proofs.Tests.{and_true, true_not, not_false}
use Rattle.model_tables.proofs.FoundRows.{own_number}
use Rattle.model_laws.specs.Runs.{IsSameRun}
use Rattle.model_laws.proofs.LastingRuns.{IsLasting, lasting_if_fixed, HasNoMore, none_after, still_gone, number_lasts, unended_lasts}

-- tests of what a run is

-- of an id that may be absent
abbrev same_name : Option (List ℕ) → Option (List ℕ) → Bool
same_name None None = true
same_name None (Some other) = false
same_name (Some name) None = false
same_name (Some name) (Some other) = pointwise nat_eq name other

name_decides : (name other : Option (List ℕ)) → Decides (same_name name other) (name ≡ other)
name_decides None None = (λ e. refl, λ e. refl)
name_decides None (Some other) = (λ e. cc, λ e. cc)
name_decides (Some name) None = (λ e. cc, λ e. cc)
name_decides (Some name) (Some other) =
    (λ e. ap Some ((bytes_decides name other).0 e), λ e. let same : name ≡ other = cc in (bytes_decides name other).1 same)

-- the place of a kind among the kinds
abbrev place_of : RunKind → ℕ
place_of StartRun = 0
place_of PrepRun = 1
place_of TaskRun = 2
place_of CoordinationRun = 3
place_of ReleaseRun = 4

same_place : (kind other : RunKind) → place_of kind ≡ place_of other → kind ≡ other
same_place StartRun StartRun e = refl
same_place PrepRun PrepRun e = refl
same_place TaskRun TaskRun e = refl
same_place CoordinationRun CoordinationRun e = refl
same_place ReleaseRun ReleaseRun e = refl
same_place kind other e = cc

-- one of two does not pass
not_both : (a b : Bool) → (not a || not b) ≡ true → not (a && b) ≡ true
not_both true b h = h
not_both false b h = refl

-- the first of two does not pass
first_fails : (a b : Bool) → a ≡ false → (a && b) ≡ false
first_fails true b e = cc
first_fails false b e = refl

module _ (number : ℕ) (s t : State) (keys : AreDistinct same_run s.runs)
    (no_more : (test : RunRow → Bool) → IsLasting test → ((run : RunRow) → nat_eq run.number number ≡ false → test run ≡ false) → HasNoMore test s t) where
  module _ (earlier later : RunRow) (there : run_of s number ≡ Some earlier) (found : run_of t number ≡ Some later) where
    -- no other run had the number
    alone : (test : RunRow → Bool) → test earlier ≡ false → list_any (λ run. is_run number run && test run) s.runs ≡ false
    alone test e =
        let own : earlier.number ≡ number = (Decides-eqb earlier.number number).0 (find_test (is_run number) earlier s.runs there) in
        none_any (λ run. is_run number run && test run) s.runs
        (each_weaker (λ run. not (same_run run earlier) || not (test run)) (λ run. not (is_run number run && test run))
        (λ run h. not_both (is_run number run) (test run) (subst (λ n. (not (nat_eq run.number n) || not (test run)) ≡ true) own h)) s.runs
        (each_with_key same_run same_run_equiv (λ run. not (test run)) earlier earlier s.runs keys (own_number s number earlier there) (true_not e)))

    -- what did not hold of the run does not hold of it afterwards
    fails_later : (test : RunRow → Bool) → IsLasting (λ run. is_run number run && test run) → test earlier ≡ false → test later ≡ false
    fails_later test lasts e = by_test (test later) refl
      where
        none_later : list_any (λ run. is_run number run && test run) t.runs ≡ false
        none_later =
            none_after (λ run. is_run number run && test run) s t
            (no_more (λ run. is_run number run && test run) lasts (λ run other. first_fails (is_run number run) (test run) other)) (alone test e)

        by_test : (b : Bool) → test later ≡ b → b ≡ false
        by_test true k =
            let some : list_any (λ run. is_run number run && test run) t.runs ≡ true =
            any_found (λ run. is_run number run && test run) (is_run number) later t.runs found (and_true (find_test (is_run number) later t.runs found) k)
            in
            let none : list_any (λ run. is_run number run && test run) t.runs ≡ false = none_later in
            cc
        by_test false k = refl

    -- what no change touches is as it was
    module _ {A : Type 0} (part : RunRow → A) (alike : A → A → Bool) (decides : (x y : A) → Decides (alike x y) (x ≡ y))
        (fixed : (run : RunRow) (next : RunState) (stop : Bool) (from to : Option ℕ)
        → part (record run { state = next; asked = stop; taken = from; ended = to }) ≡ part run) where
      part_stays : part later ≡ part earlier
      part_stays =
          (decides (part later) (part earlier)).0
          (not_false (alike (part later) (part earlier))
          (fails_later (λ run. not (alike (part run) (part earlier)))
          (lasting_if_fixed (λ run. is_run number run && not (alike (part run) (part earlier)))
          (λ run next stop from to. ap (λ x. is_run number run && not (alike x (part earlier))) (fixed run next stop from to)))
          (ap not ((decides (part earlier) (part earlier)).1 refl))))

    number_stays : (part : RunRow → ℕ)
        → ((run : RunRow) (next : RunState) (stop : Bool) (from to : Option ℕ)
        → part (record run { state = next; asked = stop; taken = from; ended = to }) ≡ part run) → part later ≡ part earlier
    number_stays part = part_stays part nat_eq Decides-eqb

    unended_before : (b : Bool) → is_unended earlier.state ≡ b → is_unended later.state ≡ true → b ≡ true
    unended_before true e h = refl
    unended_before false e h =
        let over : is_unended later.state ≡ false = fails_later (λ run. is_unended run.state) (unended_lasts number) e in
        cc

    is_same : IsSameRun (run_of s number) later
    is_same = record {
      earlier = earlier;
      there = there;
      kind = same_place later.kind earlier.kind (number_stays (λ run. place_of run.kind) (λ run next stop from to. refl));
      node = number_stays (λ run. run.node) (λ run next stop from to. refl);
      pool = part_stays (λ run. run.pool) (pointwise nat_eq) bytes_decides (λ run next stop from to. refl);
      job = part_stays (λ run. run.job) same_name name_decides (λ run next stop from to. refl);
      task = part_stays (λ run. run.task) same_name name_decides (λ run next stop from to. refl);
      attempt = number_stays (λ run. run.attempt) (λ run next stop from to. refl);
      line = part_stays (λ run. run.line) (pointwise nat_eq) bytes_decides (λ run next stop from to. refl);
      slots = number_stays (λ run. run.slots) (λ run next stop from to. refl);
      made = number_stays (λ run. run.made) (λ run next stop from to. refl);
      unended = unended_before (is_unended earlier.state) refl;
    }

  -- a run with the number was there before, and is the same one
  pub same_run_later : (run : RunRow) → run_of t number ≡ Some run → IsSameRun (run_of s number) run
  same_run_later run found = by_earlier (run_of s number) refl
    where
      by_earlier : (o : Option RunRow) → run_of s number ≡ o → IsSameRun (run_of s number) run
      by_earlier None e =
          let gone : run_of t number ≡ None =
          still_gone number s t (no_more (is_run number) (number_lasts number) (λ other different. different)) e
          in
          cc
      by_earlier (Some earlier) e = is_same earlier run e found
