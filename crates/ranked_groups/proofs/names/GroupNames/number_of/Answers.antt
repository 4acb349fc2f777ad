use Rattle.std.proofs.Common.{ℕ, List, ap, ◌∙◌}
use Rattle.std.specs.Str.{bytes_eq}
use Rattle.kept_table.specs.Slots.{place_of}
use Rattle.ranked_groups.specs.declared.names.GroupName.{GroupName}
use Rattle.ranked_groups.specs.Groups.{NamesView, number_in}
use Rattle.ranked_groups.proofs.NameRows.{place_is_number}
use Rattle.ranked_groups.proofs.names.GroupNames.number_of.Goals as goal

pub returns : goal.returns
returns c =
    let slots = c.self.inside.table.slots in
    let name = c.args.name.now in
    c.place_of.ensures
    ∙ (ap (λ (text : List ℕ). place_of (λ (row : GroupName). bytes_eq row.text text) slots) c.text_of.ensures
    ∙ (place_is_number (λ (row : GroupName). row.text) name slots c.self.invariant ∙ ap (λ (v : NamesView). number_in name v.names) c.self.view_is))
