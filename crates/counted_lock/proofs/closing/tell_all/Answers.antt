use Rattle.std.proofs.Common.{rules, arith, sym, subst, ◌∙◌, ◌≡◌, ◌<◌, length, get_or}
use mathlib.Core.List.{IsPrefix}
use Rattle.counted_lock.specs.Views.{places_of, unnumbered}
use Rattle.counted_lock.proofs.Loops.{here, rest_less, all_more}
use Rattle.counted_lock.proofs.closing.tell_all.Goals as goal

pub tell_pass-requires-clause-begins : goal.tell_pass-requires-clause-begins
tell_pass-requires-clause-begins g c =
    let xs = c.deref_mut-pass-items.result.now in let ys = c.loop-pass.pass-items in let i = c.loop-pass.pass-index in let x = c.pass-item.result in
    let inside : i < length ys = (let a = c.loop-pass-test.true in let b = c.loop-pass.auto.pass-items in omega arith) in
    let before : i < length xs = (let a = c.loop-pass-test.true in let b = c.loop-pass.auto.pass-items in omega arith) in
    let is = c.pass-item.is in let mine = c.replace-mine.ensures.value ∙ sym is in
    let same = c.deref_mut-pass-items.ensures.value in
    let first = subst (λ zs. IsPrefix (get_or zs i x).seen c.args.all.now.me.0.seen) (sym same) (c.requires.begins i x (subst (λ zs. i < length zs) same before)) in
    let own = subst (λ p. IsPrefix p.seen c.args.all.now.me.0.seen) (here (λ p. p) xs ys i x x inside c.loop-pass.invariant.rest is x ∙ sym mine) first in
    subst (λ m. IsPrefix c.replace-mine.result.seen m.0.seen) (sym c.loop-pass.invariant.me) own

pub loop-pass-preserved : goal.loop-pass-preserved
loop-pass-preserved g c =
    let xs = c.deref_mut-pass-items.result.now in let ys = c.loop-pass.pass-items in let i = c.loop-pass.pass-index in let x = c.pass-item.result in
    let y = c.tell_pass.result in
    let inside : i < length ys = (let a = c.loop-pass-test.true in let b = c.loop-pass.auto.pass-items in omega arith) in
    let rest = c.loop-pass.invariant.rest in let is = c.pass-item.is in
    let mine = c.replace-mine.ensures.value ∙ sym is in
    let told = subst (λ p. places_of p.number c.loop-pass.all.me.0.seen ≡ places_of p.number p.seen) mine c.tell_pass.ensures.placed in
    let opened = subst (λ p. unnumbered c.loop-pass.all.me.0.seen ≡ unnumbered p.seen) mine c.tell_pass.ensures.opened in
    record {
      same = search rules;
      me = c.tell_pass.ensures.same.1 ∙ c.loop-pass.invariant.me;
      told = all_more (λ p. p) xs ys i x y inside rest is (λ p. places_of p.number c.args.all.now.me.0.seen ≡ places_of p.number p.seen)
          (subst (λ m. places_of x.number m.0.seen ≡ places_of x.number x.seen) c.loop-pass.invariant.me told) c.loop-pass.invariant.told;
      opened = all_more (λ p. p) xs ys i x y inside rest is (λ p. unnumbered c.args.all.now.me.0.seen ≡ unnumbered p.seen)
          (subst (λ m. unnumbered m.0.seen ≡ unnumbered x.seen) c.loop-pass.invariant.me opened) c.loop-pass.invariant.opened;
      rest = rest_less (λ p. p) xs ys i x y inside rest is;
    }

pub returns-clause-placed : goal.returns-clause-placed
returns-clause-placed g c k d lt = let same = c.deref_mut-pass-items.ensures.value in let past = c.loop-pass-test.false in
    let inside : k < length c.deref_mut-pass-items.result.now = subst (λ xs. k < length xs) (sym same) lt in
    subst (λ xs. places_of (get_or xs k d).number c.args.all.now.me.0.seen ≡ places_of (get_or xs k d).number (get_or xs k d).seen) same
    (c.loop-pass.invariant.told k d (omega arith))

pub returns-clause-opened : goal.returns-clause-opened
returns-clause-opened g c k d lt = let same = c.deref_mut-pass-items.ensures.value in let past = c.loop-pass-test.false in
    let inside : k < length c.deref_mut-pass-items.result.now = subst (λ xs. k < length xs) (sym same) lt in
    subst (λ xs. unnumbered c.args.all.now.me.0.seen ≡ unnumbered (get_or xs k d).seen) same
    (c.loop-pass.invariant.opened k d (omega arith))
