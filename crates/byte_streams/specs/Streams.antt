-- What contracts see of the sources and sinks of this crate.
use Rattle.std.specs.Prelude.{ℕ, List, drop, Option, option_map}
use Rattle.byte_streams.specs.declared.source.SureSource.{SureSource}
use Rattle.byte_streams.specs.declared.source.MemorySource.{MemorySource}
use Rattle.byte_streams.specs.declared.source.StdSource.{StdSource}
use Rattle.byte_streams.specs.declared.sink.SureSink.{SureSink}
use Rattle.byte_streams.specs.declared.sink.MemorySink.{MemorySink}
use Rattle.byte_streams.specs.declared.sink.StdSink.{StdSink}

-- the bytes that a source in memory has left
abbrev pub left_of : SureSource → List ℕ
left_of s = drop s.at s.bytes.items

-- a source of which some calls fail: the bytes that it has left, the numbers of the calls that fail, and how many
-- calls there were and how many of them failed
abbrev pub left_in : MemorySource → List ℕ
left_in s = left_of s.inner

abbrev pub failing_reads : MemorySource → List ℕ
failing_reads s = s.fails.items

abbrev pub reads_of : MemorySource → ℕ
reads_of s = s.calls

abbrev pub read_faults : MemorySource → ℕ
read_faults s = s.faults

-- a source over a reader: the reader, and how many of its reads failed
abbrev pub reader_of : {R : Type 0} → StdSource R → R
reader_of s = s.inner

abbrev pub reader_faults : {R : Type 0} → StdSource R → ℕ
reader_faults s = s.faults

-- the bytes that a sink in memory has taken; None once memory ran out
abbrev pub taken_by : SureSink → Option (List ℕ)
taken_by s = option_map (λ v. v.items) s.bytes

-- a sink of which some calls fail: the bytes that it has taken, the numbers of the calls that fail, and how many
-- calls there were and how many of them failed
abbrev pub taken_in : MemorySink → Option (List ℕ)
taken_in s = taken_by s.inner

abbrev pub failing_writes : MemorySink → List ℕ
failing_writes s = s.fails.items

abbrev pub writes_of : MemorySink → ℕ
writes_of s = s.calls

abbrev pub write_faults : MemorySink → ℕ
write_faults s = s.faults

-- a sink over a writer: the writer, and how many of its writes failed
abbrev pub writer_of : {W : Type 0} → StdSink W → W
writer_of s = s.inner

abbrev pub writer_faults : {W : Type 0} → StdSink W → ℕ
writer_faults s = s.faults
