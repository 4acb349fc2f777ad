-- The items of a list, which are read one by one.
use Rattle.std.proofs.Common.{List, ◌++◌, Result, Ok, Err}
use Rattle.row_fields.specs.declared.fault.RowFault.{RowFault}

-- what was read so far, and after it what the rest is read as
abbrev pub after : {T : Type 0} → List T → Result (List T) RowFault → Result (List T) RowFault
after front (Ok items) = Ok (front ++ items)
after front (Err e) = Err e
