-- The first preparation for which a release run is to be made is the first that gives a step.
use Rattle.std.proofs.Common.{◌≡◌, Bool, true, false, ◌&&◌, List, [], ◌∷◌, Option, Some, None, cond, is_some, refl, sym, ◌∙◌, ap}
use Rattle.std.specs.List.{find}
use Rattle.std.specs.Option.{option_map, option_map_or, option_and_then}
use Rattle.batch_model.specs.Finding.{find_map, only_if, or_else, has_number_left}
use Rattle.batch_model.specs.JobRules.{is_releasing, wants_release, release_made, release_for, release_on, release_first}
use Rattle.batch_model.specs.Rows.{job_of, node_of}
use Rattle.batch_model.specs.Variants.{State, NodeRow, JobRow, PrepRow}
use Rattle.bt_rows.proofs.DistinctRows.{find-passes}
use Rattle.model_lists.proofs.Tests.{and_first}
use Rattle.job_rules.specs.Releases.{has_release, is_to_release}

-- the first item that rows give is that of the first row that gives one
module _ {Q R : Type 0} (give : Q → Option R) (test : Q → Bool) (same : (x : Q) → test x ≡ is_some (give x)) where
  given_cons : (x : Q) (xs : List Q) (o : Option R) (b : Bool) → give x ≡ o → b ≡ is_some o → find_map give xs ≡ option_and_then give (find test xs)
      → or_else o (find_map give xs) ≡ option_and_then give (cond b (Some x) (find test xs))
  given_cons x xs (Some y) true e k ih = sym e
  given_cons x xs (Some y) false e k ih = cc
  given_cons x xs None true e k ih = cc
  given_cons x xs None false e k ih = ih

  given_first : (xs : List Q) → find_map give xs ≡ option_and_then give (find test xs)
  given_first [] = refl
  given_first (x ∷ xs) = given_cons x xs (give x) (test x) refl (same x) (given_first xs)

only_none : {R : Type 0} (b : Bool) (value : Option R) → value ≡ None → only_if b value ≡ None
only_none true value h = h
only_none false value h = refl

task_gives : {Q R : Type 0} (f : Q → R) (task : Option Q) (over : Bool) → (is_some task && over) ≡ is_some (only_if over (option_map f task))
task_gives f None true = refl
task_gives f None false = refl
task_gives f (Some task) true = refl
task_gives f (Some task) false = refl

module _ (s : State) where
  prep_gives : (prep : PrepRow) (wants : Bool) (node : Option NodeRow) (job : Option JobRow)
      → (wants && is_some node && option_map_or (has_release s) job false)
      ≡ is_some (only_if wants (option_and_then (λ (on : NodeRow). option_and_then (release_for s prep on) job) node))
  prep_gives prep true (Some node) (Some job) = task_gives (release_made s prep node job) job.release (is_releasing s job)
  prep_gives prep true (Some node) None = refl
  prep_gives prep true None _ = refl
  prep_gives prep false _ _ = refl

  gives : (prep : PrepRow) → is_to_release s prep ≡ is_some (release_on s prep)
  gives prep = prep_gives prep (wants_release prep) (node_of s prep.node) (job_of s prep.job)

  -- nothing is released once run numbers are used up
  pub none_left : has_number_left s.next_run ≡ false → release_first s ≡ None
  none_left h = ap (λ b. only_if b (find_map (release_on s) s.preps)) h

  -- nothing is released without such a preparation
  pub none_to_release : find (is_to_release s) s.preps ≡ None → release_first s ≡ None
  none_to_release h =
      only_none (has_number_left s.next_run) (find_map (release_on s) s.preps)
      (given_first (release_on s) (is_to_release s) gives s.preps ∙ ap (option_and_then (release_on s)) h)

  -- the first such preparation gives the step
  pub first_to_release : (prep : PrepRow) → has_number_left s.next_run ≡ true → find (is_to_release s) s.preps ≡ Some prep
      → release_first s ≡ release_on s prep
  first_to_release prep left h =
      ap (λ b. only_if b (find_map (release_on s) s.preps)) left
      ∙ (given_first (release_on s) (is_to_release s) gives s.preps ∙ ap (option_and_then (release_on s)) h)

  -- such a preparation wants a release run
  pub is_wanted : (prep : PrepRow) → find (is_to_release s) s.preps ≡ Some prep → wants_release prep ≡ true
  is_wanted prep h =
      and_first (wants_release prep) (is_some (node_of s prep.node))
      (and_first (wants_release prep && is_some (node_of s prep.node)) (option_map_or (has_release s) (job_of s prep.job) false)
      (find-passes (is_to_release s) prep s.preps h))
