use Rattle.std.proofs.Common.{◌≡◌, ◌++◌, length}
use Rattle.child_words.specs.Filling.{fill_word}
use Rattle.child_words.proofs.filling.fill_word.Given as goal

-- what was written so far, and what the rest becomes, is what the word becomes
abbrev pub invariant-loop-rest : goal.invariant-loop-rest
invariant-loop-rest l = l.filled.items ++ fill_word l.names l.rest ≡ fill_word l.names l.word

abbrev pub decreases-loop-rest : goal.decreases-loop-rest
decreases-loop-rest l = length l.rest
