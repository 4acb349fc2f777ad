use Rattle.std.proofs.Common.{◌≡◌, ℕ, List, [], ◌∷◌, ◌++◌, length, Some, sym, ap, subst, ◌∙◌, arith}
use Rattle.std.specs.List.{All}
use Rattle.std.proofs.lemmas.List.Elements.{All-pop, All-push}
use Rattle.ranked_groups.specs.declared.entry.Entry.{Entry}
use Rattle.ranked_groups.specs.Groups.{GroupView, number_in, items_of, with_ranks, IsEmpty, IsGrouped, Takes}
use Rattle.ranked_groups.proofs.Numbers.{number_new}
use Rattle.ranked_groups.proofs.WithRanks.{IsTold, told_grown}
use Rattle.ranked_groups.proofs.ranked_groups.group_for.Goals as goal

pub returns-in-Some-pop-clause-number : goal.returns-in-Some-pop-clause-number
returns-in-Some-pop-clause-number c =
    let name = c.args.name.now in
    let names = c.args.names.now.names in
    let end : length names ≡ c.len-number.result = omega (arith, c.requires.count, c.len-number.ensures) in
    ap (number_in name) c.push.ensures.names
    ∙ (number_new name names (sym c.number_of.ensures ∙ c.in-None.is) ∙ ap (λ (n : ℕ). Some n) end)

pub returns-in-Some-pop-clause-kept : goal.returns-in-Some-pop-clause-kept
returns-in-Some-pop-clause-kept c =
    let name = c.args.name.now in
    let names = c.args.names.now.names in
    let groups = c.args.groups.now.items in
    let group = c.in-Some-pop.group in
    let new = sym c.number_of.ensures ∙ c.in-None.is in
    let empty = (All-pop IsEmpty c.args.spares.now.items c.pop.new.self.items (Some group) c.in-Some-pop.ensures.items c.requires.empty).1 in
    let told : (entries : List Entry) → IsGrouped names groups (with_ranks groups entries)
    → IsTold c.push.new.self.names c.push_reserved.new.self.items entries (items_of names (with_ranks groups entries)) =
    λ entries g.
    subst (λ (names' : List (List ℕ)). IsTold names' c.push_reserved.new.self.items entries (items_of names (with_ranks groups entries)))
    (sym c.push.ensures.names)
    (subst (λ (groups' : List GroupView). IsTold (names ++ name ∷ []) groups' entries (items_of names (with_ranks groups entries)))
    (sym c.push_reserved.ensures.items) (told_grown names groups entries name group new empty g)) in
    record { grouped = λ entries g. (told entries g).grouped; items = λ entries g. (told entries g).is }

pub returns-in-Some-pop-clause-each : goal.returns-in-Some-pop-clause-each
returns-in-Some-pop-clause-each c = λ room each wide.
    let group = c.in-Some-pop.group in
    let here = (All-pop (Takes room) c.args.spares.now.items c.pop.new.self.items (Some group) c.in-Some-pop.ensures.items wide).1 in
    subst (λ (groups : List GroupView). All (Takes room) groups) (sym c.push_reserved.ensures.items)
    (All-push (Takes room) c.args.groups.now.items group each here)

pub returns-in-Some-pop-clause-empty : goal.returns-in-Some-pop-clause-empty
returns-in-Some-pop-clause-empty c =
    (All-pop IsEmpty c.args.spares.now.items c.pop.new.self.items (Some c.in-Some-pop.group) c.in-Some-pop.ensures.items c.requires.empty).0

pub returns-in-Some-pop-clause-wide : goal.returns-in-Some-pop-clause-wide
returns-in-Some-pop-clause-wide c = λ room wide.
    (All-pop (Takes room) c.args.spares.now.items c.pop.new.self.items (Some c.in-Some-pop.group) c.in-Some-pop.ensures.items wide).0
