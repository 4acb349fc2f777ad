use Rattle.std.proofs.Common.{◌≡◌, map, drop}
use Rattle.std.specs.List.{list_any}
use Rattle.option_words.specs.Clap.{is_dashes}
use Rattle.option_words.proofs.options.has_dashes.Given as goal

-- no word before this one is `-` or `--`
abbrev pub invariant-loop-word : goal.invariant-loop-word
invariant-loop-word l = list_any is_dashes (map (λ w. w.now) l.words) ≡ list_any is_dashes (map (λ w. w.now) (drop l.word-index l.words))
