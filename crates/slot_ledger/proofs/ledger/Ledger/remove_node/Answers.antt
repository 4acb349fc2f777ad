use Rattle.std.proofs.Common.{sym, ◌∙◌, ap, subst}
use Rattle.std.specs.Prelude.{nat_eq}
use Rattle.bt_rows.specs.Lists.{AreDistinct}
use Rattle.slot_ledger.specs.Ledgers.{Entry, same_node, without_node}
use Rattle.slot_ledger.proofs.Entries.{at_place, distinct_removed, has_place}
use Rattle.slot_ledger.proofs.ledger.Ledger.remove_node.Goals as goal

pub invariant_of-self : goal.invariant_of-self
invariant_of-self c =
    let there = at_place c.args.node c.deref.result.now c.self.inside.entries.items c.in-Some.place c.in-Some.ensures c.deref.ensures.value c.self.invariant in
    subst (AreDistinct same_node) (sym c.remove.ensures.items) (distinct_removed c.args.node c.in-Some.place c.self.inside.entries.items there c.self.invariant)

pub returns-in-Some : goal.returns-in-Some
returns-in-Some c =
    let there = at_place c.args.node c.deref.result.now c.self.inside.entries.items c.in-Some.place c.in-Some.ensures c.deref.ensures.value c.self.invariant in
    c.remove.ensures.items ∙ there.remove ∙ ap (λ entries. without_node entries c.args.node) c.self.view_is

pub returns-in_default : goal.returns-in_default
returns-in_default c =
    absurd (has_place c.args.node (λ (entry : Entry). nat_eq entry.held 0) c.deref.result.now c.self.inside.entries.items c.args.self.now (sym c.in_default.is ∙ c.place_of.ensures) c.deref.ensures.value c.self.view_is c.requires)
