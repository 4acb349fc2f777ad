use Rattle.std.proofs.Common.{◌≡◌, drop, take}
use Rattle.std.specs.List.{list_all}
use Rattle.std.specs.Str.{is_utf8}
use Rattle.cli_words.proofs.Texts.{texts}
use Rattle.cli_words.proofs.words.texts_of.Given as goal

abbrev pub invariant-loop-word : goal.invariant-loop-word
invariant-loop-word l = (list_all is_utf8 l.words ≡ list_all is_utf8 (drop l.word-index l.words)) × (texts l.texts.items ≡ take l.word-index l.words)
