use Rattle.std.proofs.Common.{◌+◌, refl, sym, ◌∙◌}
use Rattle.std.specs.Prelude.{nat_le}
use Rattle.std.proofs.lemmas.Bool.{leb-true}
use Rattle.slot_ledger.specs.Ledgers.{Entry}
use Rattle.slot_ledger.proofs.Entries.{at_place, passes_there, changed_there, distinct_there, has_place}
use Rattle.slot_ledger.proofs.ledger.Ledger.hold.Goals as goal

pub hold_in-requires : goal.hold_in-requires
hold_in-requires c =
    let there = at_place c.args.node c.deref.result.now c.self.inside.entries.items c.in-Some.place c.in-Some.ensures c.deref.ensures.value c.self.invariant in
    leb-true _ _ (passes_there c.args.node c.in-Some.place (λ (entry : Entry). nat_le (entry.held + c.args.n) entry.slots) c.self.inside.entries.items c.args.self.now c.index_mut.result.now there c.self.view_is c.index_mut.ensures.value c.requires)

pub invariant_of-self : goal.invariant_of-self
invariant_of-self c =
    let there = at_place c.args.node c.deref.result.now c.self.inside.entries.items c.in-Some.place c.in-Some.ensures c.deref.ensures.value c.self.invariant in
    distinct_there c.args.node c.in-Some.place (λ (entry : Entry). record entry { held = entry.held + c.args.n }) c.self.inside.entries.items c.index_mut.result.now c.hold_in.new.entry there (λ entry. refl) c.index_mut.ensures.value c.hold_in.ensures c.self.invariant

pub returns-in-Some : goal.returns-in-Some
returns-in-Some c =
    let there = at_place c.args.node c.deref.result.now c.self.inside.entries.items c.in-Some.place c.in-Some.ensures c.deref.ensures.value c.self.invariant in
    changed_there c.args.node c.in-Some.place (λ (entry : Entry). record entry { held = entry.held + c.args.n }) c.self.inside.entries.items c.args.self.now c.index_mut.result.now c.hold_in.new.entry there c.self.view_is c.index_mut.ensures.value c.hold_in.ensures

pub returns-in_default : goal.returns-in_default
returns-in_default c =
    absurd (has_place c.args.node (λ (entry : Entry). nat_le (entry.held + c.args.n) entry.slots) c.deref.result.now c.self.inside.entries.items c.args.self.now (sym c.in_default.is ∙ c.place_of.ensures) c.deref.ensures.value c.self.view_is c.requires)
