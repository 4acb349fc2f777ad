-- Refusals as lines show them.
use Rattle.std.specs.Prelude.{ℕ, List, ◌∷◌}
use Rattle.std.specs.Fmt.{decimal}
use Rattle.bt_rows.specs.declared.refusal.Refusal.{Refusal}
use Rattle.wire_texts.specs.Lines.{words}
use Rattle.wire_words.specs.Refusals.{refusal_status, refusal_name, refusal_values}

-- the status, the name and the values
abbrev pub refusal_text : Refusal → List ℕ
refusal_text refusal = words (decimal (refusal_status refusal) ∷ refusal_name refusal ∷ refusal_values refusal)
