use Rattle.std.proofs.Common.{rules, ◌≡◌, ap, sym, ◌∙◌, ◌∷◌, [], subst}
use Rattle.counted_lock.specs.Closing.{IsAt}
use Rattle.counted_lock.proofs.PassKinds.{comes}
use Rattle.counted_lock.proofs.Closes.{lent_at, whole_again, two_parts, one_part, two_apart}
use Rattle.counted_lock.proofs.closing.hold_apart.Goals as goal

pub load_new_seat-requires : goal.load_new_seat-requires
load_new_seat-requires g c = (search rules, comes g.D.Journaled.entries g.D.Journaled.origin _ _)

pub lend-first-requires-clause-pass : goal.lend-first-requires-clause-pass
lend-first-requires-clause-pass g c = let same : c.args.one.table ≡ c.load_new_seat.result.1.table_id = search rules in
    subst (λ t. IsAt t c.args.one) same c.requires.one

pub lend-second-requires-clause-pass : goal.lend-second-requires-clause-pass
lend-second-requires-clause-pass g c = let same : c.args.one.table ≡ c.lend-first.new.all.table_id = search rules in
    subst (λ t. IsAt t c.args.other) same c.requires.other

pub give_back-first-requires-clause-first : goal.give_back-first-requires-clause-first
give_back-first-requires-clause-first g c = (
  c.args.other.number ∷ [],
  two_parts c.args.one.number c.args.other.number _ _ _ (ap (λ v. v.parts) c.load_new_seat.ensures.2) c.lend-first.ensures.gathered.more
      c.lend-second.ensures.gathered.more ∙ ap (λ p. p.number ∷ c.args.other.number ∷ []) (sym c.lend-first.ensures.lent),
)

pub give_back-first-requires-clause-pass : goal.give_back-first-requires-clause-pass
give_back-first-requires-clause-pass g c = let same : c.args.one.table ≡ c.lend-second.new.all.table_id = search rules in
    lent_at c.args.one.table c.lend-second.new.all.table_id c.args.one c.lend-first.result same c.requires.one c.lend-first.ensures.lent

pub give_back-second-requires-clause-first : goal.give_back-second-requires-clause-first
give_back-second-requires-clause-first g c =
    let both = two_parts c.args.one.number c.args.other.number _ _ _ (ap (λ v. v.parts) c.load_new_seat.ensures.2) c.lend-first.ensures.gathered.more
    c.lend-second.ensures.gathered.more in (
      [],
      one_part c.args.one.number c.args.other.number _ _ _ both c.give_back-first.ensures.gathered.1
          ∙ ap (λ p. p.number ∷ []) (sym c.lend-second.ensures.lent),
    )

pub give_back-second-requires-clause-pass : goal.give_back-second-requires-clause-pass
give_back-second-requires-clause-pass g c = let same : c.args.one.table ≡ c.give_back-first.new.all.table_id = search rules in
    lent_at c.args.one.table c.give_back-first.new.all.table_id c.args.other c.lend-second.result same c.requires.other c.lend-second.ensures.lent

pub returns-clause-same : goal.returns-clause-same
returns-clause-same g c = (
  whole_again c.args.one c.lend-first.result c.give_back-first.result c.requires.one.part c.lend-first.ensures.lent c.give_back-first.ensures.back,
  whole_again c.args.other c.lend-second.result c.give_back-second.result c.requires.other.part c.lend-second.ensures.lent c.give_back-second.ensures.back,
)

pub returns-clause-apart : goal.returns-clause-apart
returns-clause-apart g c =
    let both = two_parts c.args.one.number c.args.other.number _ _ _ (ap (λ v. v.parts) c.load_new_seat.ensures.2) c.lend-first.ensures.gathered.more
    c.lend-second.ensures.gathered.more in
    two_apart c.args.one.number c.args.other.number c.lend-second.new.all.me.0.parts both c.lend-second.ensures.gathered.distinct
