use Rattle.std.specs.Prelude.{ℕ, List, Bool, true, false, string_bytes}
use Rattle.bt_base.specs.declared.text.TextBlock.{TextBlock}
use Rattle.bt_base.specs.declared.text.TextBlock.TheVariants.{Short, Long}

-- the bytes that a block keeps
abbrev pub block_bytes : TextBlock → List ℕ
block_bytes (Short text) = text.bytes
block_bytes (Long text) = string_bytes text

-- whether the bytes are in the block itself
abbrev pub is_short : TextBlock → Bool
is_short (Short text) = true
is_short (Long text) = false
