use Rattle.std.proofs.Common.{◌≡◌, suc, true, false, length, sym, ap, ◌∙◌, arith}
use Rattle.std.proofs.lemmas.Bool.{eq-eqb, ne_eqb}
use Rattle.hash_index.proofs.Newest.{chain_less, chain_places, chain_next}
use Rattle.hash_index.proofs.places.PlacesIterator.next.Goals as goal

pub invariant_of-self : goal.invariant_of-self
invariant_of-self c =
    let now = c.loop-place.self-inside in
    let is : now.number ≡ suc c.in-Some.place = omega (arith, c.in-Some.ensures) in
    chain_next now.count now.hashes.now now.nexts.now now.hash now.number c.in-Some.place is c.loop-place.invariant.chain

pub returns-then-self-place-clause-steps : goal.returns-then-self-place-clause-steps
returns-then-self-place-clause-steps c =
    let now = c.loop-place.self-inside in
    let is : now.number ≡ suc c.in-Some.place = omega (arith, c.in-Some.ensures) in
    sym c.self.view_is ∙ sym c.loop-place.invariant.left
    ∙ chain_places now.count now.hashes.now now.nexts.now now.hash now.number c.in-Some.place is c.loop-place.invariant.chain true (eq-eqb _ _ c.if-self-place.true)

pub returns-then-self-place-clause-goes : goal.returns-then-self-place-clause-goes
returns-then-self-place-clause-goes c =
    let fewer = ap length (returns-then-self-place-clause-steps c) in
    record { on = λ finite. (tt, tt, omega (arith, fewer)); keeps = tt; rests = λ finite. tt }

pub loop-place-smaller : goal.loop-place-smaller
loop-place-smaller c =
    let now = c.loop-place.self-inside in
    let is : now.number ≡ suc c.in-Some.place = omega (arith, c.in-Some.ensures) in
    chain_less now.count now.hashes.now now.nexts.now now.hash now.number c.in-Some.place is c.loop-place.invariant.chain

pub loop-place-preserved : goal.loop-place-preserved
loop-place-preserved c =
    let now = c.loop-place.self-inside in
    let is : now.number ≡ suc c.in-Some.place = omega (arith, c.in-Some.ensures) in
    let chain = c.loop-place.invariant.chain in
    record {
      hashes = c.loop-place.invariant.hashes;
      hash = c.loop-place.invariant.hash;
      left = sym (chain_places now.count now.hashes.now now.nexts.now now.hash now.number c.in-Some.place is chain false (ne_eqb _ _ c.if-self-place.false)) ∙ c.loop-place.invariant.left;
      chain = chain_next now.count now.hashes.now now.nexts.now now.hash now.number c.in-Some.place is chain;
    }
