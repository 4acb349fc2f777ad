-- How a script that was done to its end, and a drill whose calls were all made, end.
use Rattle.std.specs.Prelude.{ℕ, List, length, nat_lt, if◌then◌else◌}
use Rattle.batch_desk.specs.declared.entry.Entry.{Entry}
use Rattle.batch_desk.specs.History.{fault_count}
use Rattle.batch_cli.specs.Shown.{calls_of, has_refused}
use Rattle.batch_cli.specs.declared.status.Status.{Status}
use Rattle.batch_cli.specs.declared.status.Status.TheVariants.{Done, KeeperFault, UnreadableLines, JournalFull}

-- the bytes that a script may have
abbrev pub script_limit : ℕ
script_limit = 67108864

-- The status of a script that was done to its end: a call or its due steps met a keeper fault, or a call found the
-- journal full, since the lines ask more than it takes, or a line is not a valid request.
abbrev pub ending_of : ℕ → List (List ℕ) → List Entry → Status
ending_of limit script history =
    if nat_lt 0 (fault_count history) then KeeperFault
    else (if nat_lt limit (length (calls_of script)) then JournalFull
    else (if has_refused script then UnreadableLines else Done))

-- the status of a drill whose calls were all made: a call or its due steps met a keeper fault, or none did
abbrev pub drill_ending : List Entry → Status
drill_ending history = if nat_lt 0 (fault_count history) then KeeperFault else Done
