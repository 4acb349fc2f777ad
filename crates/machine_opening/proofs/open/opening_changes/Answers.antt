use Rattle.std.proofs.Common.{◌∙◌, ap}
use Rattle.bt_rows.specs.Changes.{apply_changes}
use Rattle.machine_opening.specs.Openings.{with_opening}
use Rattle.machine_opening.proofs.OpeningMade.{opening_made, opening_none}
use Rattle.machine_opening.proofs.open.opening_changes.Goals as goal

pub returns-clause-state : goal.returns-clause-state
returns-clause-state c =
    let s = c.args.tables.now.state in
    let made = c.of_vec.ensures ∙ c.in_ok-add_opening.ensures ∙ ap (with_opening s) c.new-changes.ensures.items in
    ap (λ changes. apply_changes changes s) made ∙ opening_made s c.requires.keys

pub returns-clause-none : goal.returns-clause-none
returns-clause-none c = λ same.
    let s = c.args.tables.now.state in
    c.of_vec.ensures ∙ c.in_ok-add_opening.ensures ∙ ap (with_opening s) c.new-changes.ensures.items ∙ opening_none s c.requires.keys same
