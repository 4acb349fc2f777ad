use Rattle.std.proofs.Common.{ℕ, List, [], ◌∷◌, ◌++◌, ap, ◌∙◌}
use Rattle.std.specs.Str.{bytes_eq}
use Rattle.kept_table.specs.Slots.{place_of}
use Rattle.ranked_groups.specs.declared.names.GroupName.{GroupName}
use Rattle.ranked_groups.specs.Groups.{NamesView, number_in}
use Rattle.ranked_groups.proofs.NameRows.{place_is_number, full_push, names_push}
use Rattle.ranked_groups.proofs.names.GroupNames.push.Goals as goal

pub push-requires-clause-new : goal.push-requires-clause-new
push-requires-clause-new c =
    let slots = c.self.inside.table.slots in
    let name = c.args.name.now in
    ap (λ (text : List ℕ). place_of (λ (row : GroupName). bytes_eq row.text text) slots) c.text_of.ensures
    ∙ (place_is_number (λ (row : GroupName). row.text) name slots c.self.invariant
    ∙ (ap (λ (v : NamesView). number_in name v.names) c.self.view_is ∙ c.requires.new))

pub invariant_of-self : goal.invariant_of-self
invariant_of-self c =
    let row : GroupName = record { text = c.text_of.result } in
    full_push (λ (row : GroupName). row.text) c.self.inside.table.slots c.push.new.self.slots row c.push.ensures.slots c.self.invariant

pub returns-clause-names : goal.returns-clause-names
returns-clause-names c =
    let row : GroupName = record { text = c.text_of.result } in
    names_push (λ (row : GroupName). row.text) c.self.inside.table.slots c.push.new.self.slots row c.push.ensures.slots
    ∙ (ap (λ (v : NamesView). v.names ++ c.text_of.result ∷ []) c.self.view_is
    ∙ ap (λ (text : List ℕ). c.args.self.now.names ++ text ∷ []) c.text_of.ensures)
