-- What a keeper tells after a save.
use Rattle.std.proofs.Common.{◌≡◌, ℕ, List, [], Option, Some, None, IfSome, IsSome, refl, sym, ap, subst}
use Rattle.std.proofs.lemmas.Bool.{false≢true}
use Rattle.bt_rows.specs.Changes.{apply_changes}
use Rattle.bt_rows.specs.State.{State}
use Rattle.bt_rows.specs.declared.plan.Plan.{Plan}
use Rattle.bt_rows.specs.declared.tables.Change.{Change}
use Rattle.batch_model.specs.Sound.{IsSound}
use Rattle.batch_model.specs.WellFormed.{IsWellFormed}
use Rattle.model_tables.proofs.WellFormedTables.{well_formed}
use Rattle.batch_keeper.specs.Told.{told_after}
use Rattle.batch_desk.specs.Kept.{Tells}

-- no changes leave what is told
pub told_after_none : (changes : List Change) (told : Option State) → changes ≡ [] → told_after changes told ≡ told
told_after_none changes None e = refl
told_after_none changes (Some s) e = ap (λ c. Some (apply_changes c s)) e

-- if the changes lead to sound tables, they may be saved
pub saves_sound : (told : Option State) (changes : List Change) (seats : ℕ) (s : State) → Tells told s → IsSound seats (apply_changes changes s) →
    IfSome told (λ kept. IsWellFormed (apply_changes changes kept))
saves_sound None changes seats s told sound = tt
saves_sound (Some kept) changes seats s told sound = subst (λ t. IsWellFormed (apply_changes changes t)) (sym told)
    (well_formed seats (apply_changes changes s) sound)

-- what is told after the changes is the tables after them
pub tells_after : (told now : Option State) (changes : List Change) (s : State) → Tells told s → now ≡ told_after changes told →
    Tells now (apply_changes changes s)
tells_after None now changes s told e = subst (λ t. Tells t (apply_changes changes s)) (sym e) tt
tells_after (Some kept) now changes s told e = subst (λ t. Tells t (apply_changes changes s)) (sym e) (ap (apply_changes changes) told)

-- tables that are told still
pub tells_same : (told now : Option State) (s : State) → Tells told s → now ≡ told → Tells now s
tells_same told now s h e = subst (λ t. Tells t s) (sym e) h

-- the changes of a reserved plan lead to sound tables
pub reserved_sound : (reserved : Option Plan) (changes : List Change) (seats : ℕ) (s : State) → IsSome reserved →
    IfSome reserved (λ plan. changes ≡ plan.changes) → IfSome reserved (λ plan. IsSound seats (apply_changes plan.changes s)) →
    IsSound seats (apply_changes changes s)
reserved_sound None changes seats s some same sound = absurd (false≢true some)
reserved_sound (Some plan) changes seats s some same sound = subst (λ c. IsSound seats (apply_changes c s)) (sym same) sound

-- changes that lead what is told to sound tables may be saved
pub saves_to : (told : Option State) (changes : List Change) (seats : ℕ) (s : State) → IfSome told (λ kept. apply_changes changes kept ≡ s) →
    IsSound seats s → IfSome told (λ kept. IsWellFormed (apply_changes changes kept))
saves_to None changes seats s led sound = tt
saves_to (Some kept) changes seats s led sound = subst IsWellFormed (sym led) (well_formed seats s sound)
