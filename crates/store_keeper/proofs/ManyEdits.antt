-- Edits after edits are changes after changes.
use Rattle.std.proofs.Common.{◌≡◌, List, [], ◌∷◌, ◌++◌, Some, refl, sym, ap, ◌∙◌}
use Rattle.bt_rows.specs.State.{State}
use Rattle.bt_rows.specs.Changes.{apply_changes}
use Rattle.bt_rows.specs.declared.tables.Change.{Change}
use Rattle.keeper_store.specs.declared.content.Stored.{Stored}
use Rattle.keeper_store.specs.declared.edit.Edit.{Edit}
use Rattle.keeper_store.specs.Contents.{apply_edit, apply_edits}
use Rattle.bt_rows.specs.Changes.{apply_change}
use Rattle.store_keeper.specs.Reading.{state_in}
use Rattle.store_keeper.specs.Edits.{AreEdits, Extends}

edits_append : (first second : List Edit) (stored : Stored) → apply_edits (first ++ second) stored ≡ apply_edits second (apply_edits first stored)
edits_append [] second stored = refl
edits_append (edit ∷ first) second stored = edits_append first second (apply_edit edit stored)

changes_append : (first second : List Change) (s : State) → apply_changes (first ++ second) s ≡ apply_changes second (apply_changes first s)
changes_append [] second s = refl
changes_append (change ∷ first) second s = changes_append first second (apply_change change s)

-- no edits are no changes
pub no_edits : AreEdits [] []
no_edits = record { lead = λ stored s h. h }

-- one change more
pub one_more : (changes : List Change) (change : Change) (old new : List Edit)
    → AreEdits changes old → Extends change old new → AreEdits (changes ++ change ∷ []) new
one_more changes change old new are e = record {
  lead = λ stored s h.
      let after = are.lead stored s h in
      ap (λ edits. state_in (apply_edits edits stored)) e.added
      ∙ ap state_in (edits_append old e.more stored)
      ∙ e.are_edits.lead (apply_edits old stored) (apply_changes changes s) after
      ∙ ap (λ (x : State). Some x) (sym (changes_append changes (change ∷ []) s));
}
