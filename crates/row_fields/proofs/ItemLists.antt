-- Items of lists of values, as the lists grow.
use Rattle.std.proofs.Common.{◌≡◌, suc, length, List, [], ◌∷◌, ◌++◌, Result, Ok, refl, sym, ap, subst, ◌∙◌}
use Rattle.serde_json.specs.Events.{items_len}
use Rattle.serde_json.specs.Data.{Data, Items, no_items, item}
use Rattle.serde_json.specs.View.{view, items_view}
use Rattle.serde_json.specs.declared.value.Value.{Value}
use Rattle.row_fields.specs.declared.fault.RowFault.{RowFault}
use Rattle.row_fields.specs.Fields.{with_item, items_data, items_in}

pub items_pushed : (values : List Value) (value : Value) →
    items_view (values ++ value ∷ []) ≡ with_item (items_view values) (view value)
items_pushed [] value = refl
items_pushed (first ∷ rest) value = ap (item (view first)) (items_pushed rest value)

-- items, and others after them
abbrev pub before : Items → Items → Items
before no_items others = others
before (item d ds) others = item d (before ds others)

before_pushed : (ds others : Items) (d : Data) → before (with_item ds d) others ≡ before ds (item d others)
before_pushed no_items others d = refl
before_pushed (item first rest) others d = ap (item first) (before_pushed rest others d)

before_none : (ds : Items) → before ds no_items ≡ ds
before_none no_items = refl
before_none (item d ds) = ap (item d) (before_none ds)

pub items_counted : (values : List Value) → items_len (items_view values) ≡ length values
items_counted [] = refl
items_counted (first ∷ rest) = ap suc (items_counted rest)

module _ {T : Type 0} (data_of : T → Data) (in_data : Data → Result T RowFault) where
  -- a field is written, and fewer are left by one
  pub written_step : (done next : Items) (x : T) (rest all left : List T) → left ≡ x ∷ rest → next ≡ with_item done (data_of x) →
      before done (items_data data_of left) ≡ items_data data_of all →
      before next (items_data data_of rest) ≡ items_data data_of all
  written_step done next x rest all left e f h =
      ap (λ ds. before ds (items_data data_of rest)) f
      ∙ before_pushed done (items_data data_of rest) (data_of x)
      ∙ subst (λ ys. before done (items_data data_of ys) ≡ items_data data_of all) e h

  pub written_end : (done : Items) (left all : List T) → left ≡ [] →
      before done (items_data data_of left) ≡ items_data data_of all → done ≡ items_data data_of all
  written_end done left all e h =
      sym (before_none done) ∙ subst (λ ys. before done (items_data data_of ys) ≡ items_data data_of all) e h

  read_more : (x : T) (rest : List T) → in_data (data_of x) ≡ Ok x → items_in in_data (items_data data_of rest) ≡ Ok rest →
      items_in in_data (items_data data_of (x ∷ rest)) ≡ Ok (x ∷ rest)
  read_more x rest b r = rw (b, r) refl

  -- all reads back once the rest does
  pub back_step : (x : T) (rest all left : List T) → left ≡ x ∷ rest → in_data (data_of x) ≡ Ok x →
      (items_in in_data (items_data data_of left) ≡ Ok left → items_in in_data (items_data data_of all) ≡ Ok all) →
      items_in in_data (items_data data_of rest) ≡ Ok rest → items_in in_data (items_data data_of all) ≡ Ok all
  back_step x rest all left e b h r =
      h (subst (λ ys. items_in in_data (items_data data_of ys) ≡ Ok ys) (sym e) (read_more x rest b r))
