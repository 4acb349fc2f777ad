use Rattle.std.proofs.Common.{◌≡◌, filter}
use Rattle.text_chains.specs.Chains.{has_text, AreNumbers}
use Rattle.text_chains.proofs.places.next_with.Given as goal

abbrev pub invariant-loop-number : goal.invariant-loop-number
invariant-loop-number l = record {
  numbers : AreNumbers l.links l.numbers;
  left : filter (has_text l.links l.texts l.text) l.fn.numbers ≡ filter (has_text l.links l.texts l.text) l.numbers;
}
