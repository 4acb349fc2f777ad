use Rattle.std.proofs.Common.{◌≡◌, ◌++◌, map, drop}
use Rattle.child_words.specs.Filling.{fill_word}
use Rattle.child_words.proofs.filling.fill.Given as goal

abbrev pub invariant-loop-word : goal.invariant-loop-word
invariant-loop-word l = l.filled.items ++ map (fill_word l.names) (drop l.word-index l.words) ≡ map (fill_word l.names) l.words
