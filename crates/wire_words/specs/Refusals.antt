-- Refusals: their numbers, statuses, names and values.
use Rattle.std.specs.Prelude.{ℕ, List, [], ◌∷◌, codes}
use Rattle.std.specs.Fmt.{decimal}
use Rattle.bt_base.specs.FormulaFaults.{name_of, place_of}
use Rattle.bt_rows.specs.Names.{member_text}
use Rattle.bt_rows.specs.declared.refusal.Table.{Table}
use Rattle.bt_rows.specs.declared.refusal.Table.TheVariants as limited
use Rattle.bt_rows.specs.declared.refusal.Refusal.{Refusal}
use Rattle.bt_rows.specs.declared.refusal.Refusal.TheVariants as refusals
use Rattle.wire_words.specs.Words.{job_state_word}

-- from 1; 33 to 37 are not used yet
abbrev pub refusal_number : Refusal → ℕ
refusal_number refusals.UnreadableBody = 1
refusal_number (refusals.InvalidPropertyValue member) = 2
refusal_number refusals.PoolNotFound = 3
refusal_number refusals.PoolExists = 4
refusal_number refusals.PoolBeingDeleted = 5
refusal_number refusals.PoolBeingResized = 6
refusal_number refusals.PoolScalesAutomatically = 7
refusal_number refusals.PoolDoesNotScale = 8
refusal_number (refusals.AutoscaleTooSoon moment) = 9
refusal_number (refusals.FormulaRefused fault) = 10
refusal_number refusals.NodeNotFound = 11
refusal_number refusals.PoolNotResizing = 12
refusal_number refusals.JobNotFound = 13
refusal_number refusals.JobExists = 14
refusal_number (refusals.JobStateRefuses state) = 15
refusal_number refusals.TaskNotFound = 16
refusal_number refusals.TaskExists = 17
refusal_number refusals.TaskCompleted = 18
refusal_number refusals.TaskNotReactivable = 19
refusal_number refusals.DependenciesOff = 20
refusal_number refusals.DependencyListTooLong = 21
refusal_number refusals.JobActionOff = 22
refusal_number refusals.InstanceSlots = 23
refusal_number refusals.CollectionTooLong = 24
refusal_number refusals.RunNotFound = 25
refusal_number refusals.RunAlreadyEnded = 26
refusal_number refusals.RunAlreadyTaken = 27
refusal_number refusals.RunNotTaken = 28
refusal_number refusals.RunWithdrawn = 29
refusal_number refusals.RunWaiting = 32
refusal_number (refusals.TableFull table limit) = 30
refusal_number (refusals.SampleTooOld label) = 31
refusal_number refusals.TerminationEngaged = 38

-- the status of HTTP
abbrev pub refusal_status : Refusal → ℕ
refusal_status refusals.UnreadableBody = 400
refusal_status (refusals.InvalidPropertyValue member) = 400
refusal_status refusals.PoolNotFound = 404
refusal_status refusals.PoolExists = 409
refusal_status refusals.PoolBeingDeleted = 409
refusal_status refusals.PoolBeingResized = 409
refusal_status refusals.PoolScalesAutomatically = 409
refusal_status refusals.PoolDoesNotScale = 409
refusal_status (refusals.AutoscaleTooSoon moment) = 409
refusal_status (refusals.FormulaRefused fault) = 400
refusal_status refusals.NodeNotFound = 404
refusal_status refusals.PoolNotResizing = 409
refusal_status refusals.JobNotFound = 404
refusal_status refusals.JobExists = 409
refusal_status (refusals.JobStateRefuses state) = 409
refusal_status refusals.TaskNotFound = 404
refusal_status refusals.TaskExists = 409
refusal_status refusals.TaskCompleted = 409
refusal_status refusals.TaskNotReactivable = 409
refusal_status refusals.DependenciesOff = 400
refusal_status refusals.DependencyListTooLong = 400
refusal_status refusals.JobActionOff = 400
refusal_status refusals.InstanceSlots = 400
refusal_status refusals.CollectionTooLong = 400
refusal_status refusals.RunNotFound = 404
refusal_status refusals.RunAlreadyEnded = 409
refusal_status refusals.RunAlreadyTaken = 409
refusal_status refusals.RunNotTaken = 409
refusal_status refusals.RunWithdrawn = 409
refusal_status refusals.RunWaiting = 409
refusal_status (refusals.TableFull table limit) = 409
refusal_status (refusals.SampleTooOld label) = 409
refusal_status refusals.TerminationEngaged = 400

-- the name (this project's profile)
unfoldable pub refusal_name : Refusal → List ℕ
refusal_name refusals.UnreadableBody = codes "UnreadableBody"
refusal_name (refusals.InvalidPropertyValue member) = codes "InvalidPropertyValue"
refusal_name refusals.PoolNotFound = codes "PoolNotFound"
refusal_name refusals.PoolExists = codes "PoolExists"
refusal_name refusals.PoolBeingDeleted = codes "PoolBeingDeleted"
refusal_name refusals.PoolBeingResized = codes "PoolBeingResized"
refusal_name refusals.PoolScalesAutomatically = codes "PoolScalesAutomatically"
refusal_name refusals.PoolDoesNotScale = codes "PoolDoesNotScale"
refusal_name (refusals.AutoscaleTooSoon moment) = codes "AutoscaleTooSoon"
refusal_name (refusals.FormulaRefused fault) = codes "FormulaRefused"
refusal_name refusals.NodeNotFound = codes "NodeNotFound"
refusal_name refusals.PoolNotResizing = codes "PoolNotResizing"
refusal_name refusals.JobNotFound = codes "JobNotFound"
refusal_name refusals.JobExists = codes "JobExists"
refusal_name (refusals.JobStateRefuses state) = codes "JobStateRefuses"
refusal_name refusals.TaskNotFound = codes "TaskNotFound"
refusal_name refusals.TaskExists = codes "TaskExists"
refusal_name refusals.TaskCompleted = codes "TaskCompleted"
refusal_name refusals.TaskNotReactivable = codes "TaskNotReactivable"
refusal_name refusals.DependenciesOff = codes "DependenciesOff"
refusal_name refusals.DependencyListTooLong = codes "DependencyListTooLong"
refusal_name refusals.JobActionOff = codes "JobActionOff"
refusal_name refusals.InstanceSlots = codes "InstanceSlots"
refusal_name refusals.CollectionTooLong = codes "CollectionTooLong"
refusal_name refusals.RunNotFound = codes "RunNotFound"
refusal_name refusals.RunAlreadyEnded = codes "RunAlreadyEnded"
refusal_name refusals.RunAlreadyTaken = codes "RunAlreadyTaken"
refusal_name refusals.RunNotTaken = codes "RunNotTaken"
refusal_name refusals.RunWithdrawn = codes "RunWithdrawn"
refusal_name refusals.RunWaiting = codes "RunWaiting"
refusal_name (refusals.TableFull table limit) = codes "TableFull"
refusal_name (refusals.SampleTooOld label) = codes "SampleTooOld"
refusal_name refusals.TerminationEngaged = codes "TerminationEngaged"

-- the name of a table with a limit
unfoldable pub table_word : Table → List ℕ
table_word limited.Pools = codes "pools"
table_word limited.Jobs = codes "jobs"
table_word limited.Tasks = codes "tasks"

-- the values that a refusal carries
abbrev pub refusal_values : Refusal → List (List ℕ)
refusal_values refusals.UnreadableBody = []
refusal_values (refusals.InvalidPropertyValue member) = member_text member ∷ []
refusal_values refusals.PoolNotFound = []
refusal_values refusals.PoolExists = []
refusal_values refusals.PoolBeingDeleted = []
refusal_values refusals.PoolBeingResized = []
refusal_values refusals.PoolScalesAutomatically = []
refusal_values refusals.PoolDoesNotScale = []
refusal_values (refusals.AutoscaleTooSoon moment) = decimal moment ∷ []
refusal_values (refusals.FormulaRefused fault) = name_of fault ∷ decimal (place_of fault) ∷ []
refusal_values refusals.NodeNotFound = []
refusal_values refusals.PoolNotResizing = []
refusal_values refusals.JobNotFound = []
refusal_values refusals.JobExists = []
refusal_values (refusals.JobStateRefuses state) = job_state_word state ∷ []
refusal_values refusals.TaskNotFound = []
refusal_values refusals.TaskExists = []
refusal_values refusals.TaskCompleted = []
refusal_values refusals.TaskNotReactivable = []
refusal_values refusals.DependenciesOff = []
refusal_values refusals.DependencyListTooLong = []
refusal_values refusals.JobActionOff = []
refusal_values refusals.InstanceSlots = []
refusal_values refusals.CollectionTooLong = []
refusal_values refusals.RunNotFound = []
refusal_values refusals.RunAlreadyEnded = []
refusal_values refusals.RunAlreadyTaken = []
refusal_values refusals.RunNotTaken = []
refusal_values refusals.RunWithdrawn = []
refusal_values refusals.RunWaiting = []
refusal_values (refusals.TableFull table limit) = table_word table ∷ decimal limit ∷ []
refusal_values (refusals.SampleTooOld label) = decimal label ∷ []
refusal_values refusals.TerminationEngaged = []
