-- The words for what becomes of the tasks of a node that leaves its pool.
use Rattle.std.specs.Prelude.{ℕ, List, codes, Option, Some, None, if◌then◌else◌}
use Rattle.std.specs.Str.{bytes_eq}
use Rattle.bt_base.specs.declared.dealloc_option.Dealloc.{Dealloc}
use Rattle.bt_base.specs.declared.dealloc_option.Dealloc.TheVariants.{Requeue, Terminate, TaskCompletion, RetainedData}

-- an option's word
unfoldable pub option_word : Dealloc → List ℕ
option_word Requeue = codes "requeue"
option_word Terminate = codes "terminate"
option_word TaskCompletion = codes "taskcompletion"
option_word RetainedData = codes "retaineddata"

-- the option of this word
unfoldable pub option_named : List ℕ → Option Dealloc
option_named word =
    if bytes_eq word (codes "requeue") then Some Requeue
    else if bytes_eq word (codes "terminate") then Some Terminate
    else if bytes_eq word (codes "taskcompletion") then Some TaskCompletion
    else if bytes_eq word (codes "retaineddata") then Some RetainedData
    else None
