use Rattle.std.proofs.Common.{rules, ap, ◌∙◌, arith, length}
use Rattle.counted_lock.proofs.PassKinds.{numbers}
use Rattle.counted_lock.proofs.notes.take_number.Goals as goal

pub compare_exchange-requires : goal.compare_exchange-requires
compare_exchange-requires g c = let same = c.loop.invariant.2 in let plain = c.requires.idle.plain in (
  search rules,
  search rules,
  numbers g.D.Journaled.entries g.D.Journaled.origin _ _ _ _ _
      (ap (λ m. m.0.spare) same ∙ plain.no_spare) (ap (λ m. m.0.sole) same ∙ plain.not_sole) (let a = ap (λ m. length m.0.parts) same in let b = c.requires.part in
      omega arith),
)
