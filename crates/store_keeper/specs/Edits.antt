-- Edits of a store that are changes of the tables which it contains.
use Rattle.std.specs.Prelude.{◌≡◌, ℕ, Bool, true, List, [], ◌∷◌, ◌++◌, Some, Ok, Result}
use Rattle.serde_json.specs.Data.{Data}
use Rattle.row_fields.specs.declared.fault.RowFault.{RowFault}
use Rattle.row_texts.specs.declared.row.RowKind.{RowKind}
use Rattle.row_texts.specs.Texts.{row_in_text}
use Rattle.bt_rows.specs.State.{State}
use Rattle.bt_rows.specs.Changes.{apply_changes}
use Rattle.bt_rows.specs.declared.tables.Change.{Change}
use Rattle.keeper_store.specs.declared.entries.Entry.{Entry}
use Rattle.keeper_store.specs.declared.edit.Edit.{Edit}
use Rattle.keeper_store.specs.declared.edit.Edit.TheVariants.{Put}
use Rattle.keeper_store.specs.declared.content.Stored.{Stored}
use Rattle.keeper_store.specs.Contents.{apply_edits}
use Rattle.store_keeper.specs.Reading.{state_in}

-- one edit more: a put of an entry of this kind that is the row
pub record Puts {R : Type 0} (kind : RowKind) (key_of : R → List ℕ) (keyed : R → Bool) (in_data : Data → Result R RowFault) (row : R)
    (old new : List Edit) : Type 0 where
  pub entry : Entry
  pub added : new ≡ old ++ Put kind entry ∷ []
  pub key : entry.key ≡ key_of row
  pub known : keyed row ≡ true
  pub text : row_in_text in_data entry.text ≡ Ok row

-- from a content that is tables, the edits lead to one that is the tables after the changes
pub record AreEdits (changes : List Change) (edits : List Edit) : Type 0 where
  pub lead : (stored : Stored) (s : State) → state_in stored ≡ Some s → state_in (apply_edits edits stored) ≡ Some (apply_changes changes s)

-- more edits, which are the change
pub record Extends (change : Change) (old new : List Edit) : Type 0 where
  pub more : List Edit
  pub added : new ≡ old ++ more
  pub are_edits : AreEdits (change ∷ []) more
