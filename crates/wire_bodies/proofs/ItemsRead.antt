-- The items of a list, read one by one.
use Rattle.std.proofs.Common.{List, ◌++◌, Result, Ok, Err}
use Rattle.bt_rows.specs.declared.refusal.Refusal.{Refusal}

-- the items that were read so far, and after them those of the rest
abbrev pub behind : {T : Type 0} → List T → Result (List T) Refusal → Result (List T) Refusal
behind front (Ok items) = Ok (front ++ items)
behind front (Err e) = Err e
