-- Why lanes end, by what cut their last turns short.
use Rattle.batch_crew.specs.declared.cut.Cut.{Cut}
use Rattle.batch_crew.specs.declared.cut.Cut.TheVariants as cut
use Rattle.batch_crew.specs.declared.cut.LaneEnd.{LaneEnd}
use Rattle.batch_crew.specs.declared.cut.LaneEnd.TheVariants as end

abbrev pub end_of : Cut → LaneEnd
end_of cut.JournalFull = end.JournalFull
end_of cut.Memory = end.Memory
