-- Where the target of a request begins.
use Rattle.std.specs.Prelude.{ℕ, Bool, not, ◌==◌}

-- the byte is no space
abbrev pub is_no_space : ℕ → Bool
is_no_space b = not (b == 32)
