-- What contracts see of the links in memory.
use Rattle.std.specs.Prelude.{ℕ, List, Option, option_map}
use Rattle.http_link.specs.Pieces.{left_in_pieces}
use Rattle.http_link.specs.declared.memory.SureLink.{SureLink}
use Rattle.http_link.specs.declared.memory.MemoryLink.{MemoryLink}

-- the bytes that a link in memory has left
abbrev pub left_of : SureLink → List ℕ
left_of s = left_in_pieces s.pieces

-- the bytes that it has taken; None once memory ran out
abbrev pub taken_by : SureLink → Option (List ℕ)
taken_by s = option_map (λ v. v.items) s.taken

-- a link of which some calls fail: the bytes that it has left and has taken, the numbers of the calls that fail, and how
-- many calls there were and how many of them failed
abbrev pub left_in : MemoryLink → List ℕ
left_in s = left_of s.inner

abbrev pub taken_in : MemoryLink → Option (List ℕ)
taken_in s = taken_by s.inner

abbrev pub failing_calls : MemoryLink → List ℕ
failing_calls s = s.fails.items

abbrev pub calls_of : MemoryLink → ℕ
calls_of s = s.calls

abbrev pub call_faults : MemoryLink → ℕ
call_faults s = s.faults
