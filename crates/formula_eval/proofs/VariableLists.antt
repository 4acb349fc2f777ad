-- Variables and the places of their names.
use Rattle.std.proofs.Common.{◌≡◌, ℕ, Bool, true, false, cond, List, [], ◌∷◌, ◌++◌, length, Option, Some, None, find, get_or, set, bytes_eq, position, refl}
use Rattle.std.proofs.Common.{sym, ◌∙◌, ap}
use Rattle.std.specs.Cmp.Lexicographic.{bytes_decides}
use Rattle.std.proofs.lemmas.List.Quantifiers.{position-Some}
use Rattle.bt_rows.proofs.PutRows.{placed, absent}
use Rattle.formula_values.specs.declared.value.Value.{Value}
use Rattle.name_index.specs.declared.index.NameIndex.{NameIndex}
use Rattle.name_index.specs.Numbers.{number_of, with_number}
use Rattle.name_index.specs.Places.{ArePlaces}
use Rattle.name_index.proofs.Places.{appended, replaced}
use Rattle.formula_eval.specs.declared.outcome.Variable.{Variable}
use Rattle.formula_eval.specs.Outcomes.{is_named, value_among}

-- a variable in the place of the one with its name
pub put_kept : (index : NameIndex) (variables : List Variable) (place : ℕ) (variable : Variable) → ArePlaces is_named index variables →
    Some place ≡ position (is_named variable.name) variables → ArePlaces is_named index (set variables place variable)
put_kept index variables place variable places e name =
    let named = (bytes_decides (get_or variables place variable).name variable.name).0
    (position-Some (is_named variable.name) variables place variable (sym e)).1 in
    places name ∙ sym (replaced (is_named name) variable variables place variable (ap (λ l. bytes_eq l name) (sym named)))

-- a variable at the end, whose name was not there
pub put_last : (old new : NameIndex) (variables more : List Variable) (variable : Variable) (name : List ℕ) (number : ℕ) → ArePlaces is_named old variables →
    position (is_named variable.name) variables ≡ None → ((any : List ℕ) → number_of new any ≡ with_number (number_of old) name number any) →
    name ≡ variable.name → number ≡ length variables → more ≡ variables ++ variable ∷ [] → ArePlaces is_named new more
put_last old new variables more variable name number places absent put named at_end e any =
    appended is_named old new variables variable variable.name places absent (λ l. refl) put_name any ∙ ap (position (is_named any)) (sym e)
  where
    put_name : (l : List ℕ) → number_of new l ≡ with_number (number_of old) variable.name (length variables) l
    put_name l = put l ∙ ap (λ bytes. with_number (number_of old) bytes number l) named ∙ ap (λ n. with_number (number_of old) variable.name n l) at_end

-- the value of a variable, if there is one
value_of : Option Variable → Option Value
value_of None = None
value_of (Some variable) = Some variable.value

-- the value of a name is that of the first variable with the name
found : (variables : List Variable) (name : List ℕ) → value_among variables name ≡ value_of (find (is_named name) variables)
unfolding value_of
found [] name = refl
found (variable ∷ variables) name = either (is_named name variable) _ _ (found variables name)
  where
    either : (b : Bool) (later : Option Value) (first : Option Variable) → later ≡ value_of first →
        cond b (Some variable.value) later ≡ value_of (cond b (Some variable) first)
    either true later first e = refl
    either false later first e = e

-- the value of a variable that is not there
pub value_absent : (variables : List Variable) (name : List ℕ) → None ≡ position (is_named name) variables → None ≡ value_among variables name
unfolding value_of
value_absent variables name e = sym (found variables name ∙ ap value_of (absent (is_named name) variables e).found)

-- the value of a variable at its place
pub value_placed : (variables : List Variable) (name : List ℕ) (place : ℕ) (variable : Variable) → Some place ≡ position (is_named name) variables →
    get_or variables place variable ≡ variable → Some variable.value ≡ value_among variables name
unfolding value_of
value_placed variables name place variable e here =
    sym (found variables name ∙ ap value_of ((placed (is_named name) variables place e).found variable) ∙ ap (λ o. Some o.value) here)
