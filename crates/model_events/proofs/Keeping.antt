-- What holds before an event holds after it, through its refusals, each of which leaves the tables.
use Rattle.std.proofs.Common.{◌≡◌, ℕ, Bool, true, false, List, [], ◌∷◌, Option, Some, None, refl, unwrap_or}
use Rattle.std.specs.Option.{option_map_or}
use Rattle.bt_rows.specs.declared.refusal.Refusal.{Refusal}
use Rattle.bt_rows.specs.declared.reply.Reply.TheVariants.{Refused}
use Rattle.bt_rows.specs.Ranges.{passes_if_some}
use Rattle.batch_model.specs.Finding.{first_of}
use Rattle.batch_model.specs.Steps.{Answered, refuse_if}
use Rattle.batch_model.specs.Events.{refuse, accept, answer, for_row}
use Rattle.batch_model.specs.Variants.{State}

-- none of these refusals comes
abbrev pub AreAbsent : List (Option Refusal) → Type 0
AreAbsent [] = Unit {0}
AreAbsent (one ∷ others) = (one ≡ None) × AreAbsent others

-- the condition of a refusal that does not come does not hold
pub passed : (test : Bool) (refusal : Refusal) → refuse_if test refusal ≡ None → test ≡ false
passed false refusal e = refl
passed true refusal e = cc

-- what holds of each refusal, and of none if none of these comes, holds of the first of them
pub through : (Q : Option Refusal → Type 0) → ((refusal : Refusal) → Q (Some refusal)) → (refusals : List (Option Refusal)) → (AreAbsent refusals → Q None)
    → Q (first_of refusals)
through Q refuses [] gives = gives tt
through Q refuses (None ∷ others) gives = through Q refuses others (λ absent. gives (refl, absent))
through Q refuses (Some refusal ∷ others) gives = refuses refusal

module _ (P : State → Type 0) (s : State) (h : P s) where
  -- an answer that is given if none of these refusals comes
  pub given_keeps : (given : Answered) (refusals : List (Option Refusal)) → (AreAbsent refusals → P given.state)
      → P (option_map_or (λ refusal. refuse refusal s) (first_of refusals) given).state
  given_keeps given = through (λ first. P (option_map_or (λ refusal. refuse refusal s) first given).state) (λ refusal. h)

  -- a status, and the tables after the event, if none of these refusals comes
  pub answer_keeps : (refusals : List (Option Refusal)) (status : ℕ) (after : State) → (AreAbsent refusals → P after) → P (answer s refusals status after).state
  answer_keeps refusals status after gives = given_keeps (accept status after) refusals gives

  -- the answer for a row that is found, and the refusal if there is none
  pub for_row_keeps : {R : Type 0} (refusal : Refusal) (answer_for : R → Answered) (row : Option R) → ((one : R) → row ≡ Some one → P (answer_for one).state)
      → P (for_row s refusal answer_for row).state
  for_row_keeps refusal answer_for None gives = h
  for_row_keeps refusal answer_for (Some row) gives = gives row refl

-- a refusal leaves the tables

-- the answer leaves these tables if it is a refusal
abbrev pub Leaves : State → Answered → Type 0
Leaves s answered = (refusal : Refusal) → answered.reply ≡ Refused refusal → answered.state ≡ s

-- a status is not a refusal
pub leaves_if_accepted : (s after : State) (status : ℕ) → Leaves s (accept status after)
leaves_if_accepted s after status refusal e = cc

module _ (s : State) where
  -- an answer that is given if none of these refusals comes
  pub given_leaves : (given : Answered) → Leaves s given → (refusals : List (Option Refusal))
      → Leaves s (option_map_or (λ refusal. refuse refusal s) (first_of refusals) given)
  given_leaves given gives refusals =
      through (λ first. Leaves s (option_map_or (λ refusal. refuse refusal s) first given)) (λ refusal other e. refl) refusals (λ absent. gives)

  -- a status, and the tables after the event
  pub answer_leaves : (refusals : List (Option Refusal)) (status : ℕ) (after : State) → Leaves s (answer s refusals status after)
  answer_leaves refusals status after = given_leaves (accept status after) (leaves_if_accepted s after status) refusals

  -- the answer for a row
  pub for_row_leaves : {R : Type 0} (refusal : Refusal) (answer_for : R → Answered) (row : Option R) → ((one : R) → Leaves s (answer_for one))
      → Leaves s (for_row s refusal answer_for row)
  for_row_leaves refusal answer_for None gives other e = refl
  for_row_leaves refusal answer_for (Some row) gives other e = gives row other e

-- a value that is given, or the one that is there
pub given_passes : {A : Type 0} (p : A → Bool) (given : Option A) (old : A) → passes_if_some p given ≡ true → p old ≡ true → p (unwrap_or given old) ≡ true
given_passes p None old h k = k
given_passes p (Some new) old h k = h
