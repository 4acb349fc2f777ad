-- Tables whose text was written by hand, computed: each word once.
use Rattle.std.proofs.Common.{◌≡◌, ℕ, ◌++◌, Bool, true, false, List, [], ◌∷◌, refl}
use Rattle.std.specs.Fmt.{digits}
use Rattle.std.specs.Prelude.{codes, flat_map, Option, None, Some, ℤ, pos, negsuc}
use Rattle.bt_base.specs.Ids.{same}
use Rattle.batch_model.specs.Variants.{State, PoolRow, NodeRow, JobRow, TaskRow, RunRow, PrepRow, Alloc, Steady, Resizing, Stopping, Fill, Spread, Pack, ByRequeue, NodeStage, Starting, Usable, StartFailed, Leaving, JobState, JobActive, Disabling, Disabled, Enabling, Terminating, JobCompleted, Deleting, TaskStage, Active, Placed, Completed, Closed, How, ByEnding, ByTermination, ByWall, Code, NoCode, NotStarted, RunKind, StartRun, PrepRun, TaskRun, CoordinationRun, ReleaseRun, RunState, Waiting, Queued, Taken, Ended, Withdrawn, PrepState, PrepRunning, PrepCompleted, PrepFailed, ReleaseState, NoRelease, ReleaseRunning, ReleaseDone}
use Rattle.wire_words.specs.Words.{pool_state_word, node_state_word, task_state_word, alloc_word, fill_word, job_state_word, run_kind_word, run_state_word, prep_state_word, release_state_word, ending_text, run_ending_text, how_text, exit_text, success_word, result_word, text_or_dash}
use Rattle.wire_texts.specs.Rows.{pool_line, job_line, run_line, prep_line, scale_line}
use Rattle.wire_texts.specs.Tables.{node_line, task_line, tables_text}

abbrev a_pool : List ℕ → Bool → Alloc → Fill → PoolRow
a_pool name is_deleted allocation filling = record {
  id = name;
  deleting = is_deleted;
  alloc = allocation;
  slots = 4;
  fill = filling;
  inter = false;
  start = None;
  dedicated = 6;
  low = 0;
  option = ByRequeue;
  usual_timeout = 900000;
  timeout = 900000;
  began = 0;
  error = None;
  enabled = None;
}

abbrev a_node : ℕ → ℕ → NodeStage → NodeRow
a_node n on_seat in_stage = record { number = n; pool = codes "p"; seat = on_seat; stage = in_stage; tries = 0 }

abbrev a_job : List ℕ → JobState → ℤ → Option (List ℕ) → JobRow
a_job name in_state importance because = record {
  id = name;
  pool = codes "p";
  state = in_state;
  priority = importance;
  parallel = negsuc 0;
  retries = pos 0;
  wall = None;
  deps = false;
  on_all = false;
  on_fail = false;
  prep = None;
  release = None;
  created = 0;
  reason = because;
}

abbrev a_task : List ℕ → TaskStage → ℕ → ℕ → Option Closed → TaskRow
a_task name in_stage tried failed ended = record {
  job = codes "J";
  id = name;
  line = codes "w";
  slots = 1;
  retries = None;
  wall = None;
  retention = None;
  codes = [];
  ranges = [];
  launch = None;
  other = None;
  needs = [];
  spans = [];
  multi = None;
  stage = in_stage;
  attempt = tried;
  failures = failed;
  wanted = None;
  fail = None;
  started = None;
  closed = ended;
}

abbrev closed_by : How → Bool → Option Closed
closed_by ending well = Some (record { how = ending; success = well; satisfies = well; at = 0 })

abbrev a_run : ℕ → RunKind → ℕ → Option (List ℕ) → Option (List ℕ) → ℕ → ℕ → RunState → RunRow
a_run n of_kind on_node of_job of_task tried need in_state = record {
  number = n;
  kind = of_kind;
  node = on_node;
  pool = codes "p";
  job = of_job;
  task = of_task;
  attempt = tried;
  line = codes "w";
  slots = need;
  state = in_state;
  asked = false;
  made = 0;
  taken = None;
  ended = None;
}

abbrev a_prep : ℕ → PrepState → ReleaseState → PrepRow
a_prep on_node in_state released = record { job = codes "j"; node = on_node; state = in_state; tries = 0; ran = false; release = released }

-- node 3 holds a slot of c; the runs with slots on node 4 are of an earlier attempt of c, of a main command without slots, and of a
-- completed task
abbrev state : State
state = record {
  pools = a_pool (codes "p") false Steady Spread ∷ a_pool (codes "q") true Resizing Pack ∷ a_pool (codes "r") false Stopping Pack ∷ [];
  nodes = a_node 1 1 Starting ∷ a_node 2 2 Starting ∷ a_node 3 3 Usable ∷ a_node 4 32 Usable ∷ a_node 5 5 StartFailed ∷ a_node 6 6 (Leaving ByRequeue) ∷ [];
  jobs =
      a_job (codes "j") JobActive (pos 0) None
      ∷ a_job (codes "k") Disabling (negsuc 999) None
      ∷ a_job (codes "l") Disabled (pos 1000) None
      ∷ a_job (codes "m") Enabling (pos 0) None
      ∷ a_job (codes "n") Terminating (pos 0) (Some (codes "UserTerminate"))
      ∷ a_job (codes "o") JobCompleted (pos 0) (Some (codes "all is done"))
      ∷ a_job (codes "p") Deleting (pos 0) None
      ∷ [];
  tasks =
      a_task (codes "a") Active 0 2 None
      ∷ a_task (codes "b") Placed 1 0 None
      ∷ a_task (codes "c") Placed 2 1 None
      ∷ a_task (codes "d") Completed 1 0 (closed_by (ByEnding (Code (pos 0))) true)
      ∷ a_task (codes "e") Completed 1 0 (closed_by (ByEnding (Code (negsuc 0))) false)
      ∷ a_task (codes "f") Completed 1 0 (closed_by (ByEnding NoCode) false)
      ∷ a_task (codes "g") Completed 1 0 (closed_by (ByEnding NotStarted) false)
      ∷ a_task (codes "h") Completed 1 0 (closed_by ByTermination false)
      ∷ a_task (codes "i") Completed 1 0 (closed_by ByWall false)
      ∷ [];
  runs =
      a_run 1 StartRun 1 None None 0 0 Taken
      ∷ a_run 2 StartRun 2 None None 0 0 Queued
      ∷ a_run 3 PrepRun 3 (Some (codes "j")) None 0 0 (Ended NoCode)
      ∷ a_run 4 TaskRun 5 (Some (codes "j")) (Some (codes "b")) 1 1 Waiting
      ∷ a_run 5 TaskRun 4 (Some (codes "j")) (Some (codes "c")) 1 1 (Ended (Code (negsuc 254)))
      ∷ a_run 6 CoordinationRun 3 (Some (codes "j")) (Some (codes "C")) 2 1 (Ended (Code (pos 0)))
      ∷ a_run 7 TaskRun 4 (Some (codes "j")) (Some (codes "c")) 2 0 Queued
      ∷ a_run 8 TaskRun 4 (Some (codes "j")) (Some (codes "d")) 1 1 (Ended NotStarted)
      ∷ a_run 9 ReleaseRun 4 (Some (codes "n")) None 0 0 Withdrawn
      ∷ [];
  preps = a_prep 3 PrepRunning NoRelease ∷ a_prep 4 PrepCompleted ReleaseRunning ∷ a_prep 5 PrepFailed ReleaseDone ∷ [];
  samples = [];
  scales = record { pool = codes "q"; formula = codes "x = 1"; interval = 900000; next = 1800000000000; last = None } ∷ [];
  next_node = 7;
  next_run = 10;
  moment = 253402300799999;
}

abbrev with_line_feed : List ℕ → List ℕ
with_line_feed text = text ++ 10 ∷ []

their_text : tables_text state ≡ flat_map with_line_feed
    (codes "tables 253402300799999"
    ∷ codes "pool p active steady 6 0 4 spread"
    ∷ codes "pool q deleting resizing 6 0 4 pack"
    ∷ codes "pool r active stopping 6 0 4 pack"
    ∷ codes "node 1 p 1 waitingforstarttask"
    ∷ codes "node 2 p 2 starting"
    ∷ codes "node 3 p 3 running"
    ∷ codes "node 4 p 32 idle"
    ∷ codes "node 5 p 5 starttaskfailed"
    ∷ codes "node 6 p 6 leavingpool"
    ∷ codes "job j p active 0 -"
    ∷ codes "job k p disabling -1000 -"
    ∷ codes "job l p disabled 1000 -"
    ∷ codes "job m p enabling 0 -"
    ∷ codes "job n p terminating 0 UserTerminate"
    ∷ codes "job o p completed 0 all is done"
    ∷ codes "job p p deleting 0 -"
    ∷ codes "task J a active - - 2"
    ∷ codes "task J b preparing - - 0"
    ∷ codes "task J c running - - 1"
    ∷ codes "task J d completed success 0 0"
    ∷ codes "task J e completed failure -1 0"
    ∷ codes "task J f completed failure none 0"
    ∷ codes "task J g completed failure notstarted 0"
    ∷ codes "task J h completed failure terminated 0"
    ∷ codes "task J i completed failure wall 0"
    ∷ codes "run 1 start 1 - - taken -"
    ∷ codes "run 2 start 2 - - queued -"
    ∷ codes "run 3 prep 3 j - ended none"
    ∷ codes "run 4 task 5 j b waiting -"
    ∷ codes "run 5 task 4 j c ended -255"
    ∷ codes "run 6 coordination 3 j C ended 0"
    ∷ codes "run 7 task 4 j c queued -"
    ∷ codes "run 8 task 4 j d ended notstarted"
    ∷ codes "run 9 release 4 n - withdrawn -"
    ∷ codes "prep j 3 running no"
    ∷ codes "prep j 4 completed running"
    ∷ codes "prep j 5 failed done"
    ∷ codes "scale q 900000 1800000000000"
    ∷ [])
unfolding same digits pool_state_word alloc_word fill_word job_state_word run_kind_word run_state_word prep_state_word release_state_word ending_text run_ending_text how_text exit_text success_word result_word text_or_dash pool_line job_line run_line prep_line scale_line node_state_word task_state_word node_line task_line tables_text
their_text = refl
