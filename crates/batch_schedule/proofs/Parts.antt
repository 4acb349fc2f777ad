-- The parts of a schedule's turn, by the outcomes of its calls and its read.
use Rattle.std.proofs.Common.{◌≡◌, ℕ, Bool, true, false, nat_eq, List, inl, inr, Some, None, Ok, refl, sym, subst, if◌then◌else◌}
use Rattle.bt_base.specs.declared.memory.NoMemory.{NoMemory}
use Rattle.batch_desk.specs.Exchanges.{Exchange}
use Rattle.schedule_rows.specs.Interactions.{Looks}
use Rattle.schedule_rows.specs.Jobs.{add_job_asked, add_tasks_asked, patch_asked, job_read, has_tasks}
use Rattle.schedule_rows.specs.Occurrences.{firing_at}
use Rattle.schedule_rows.specs.Rows.{Schedule}
use Rattle.schedule_rows.specs.Turns.{is_made, is_free, fired_for, at_stage, after_patch, patches, after_tasks, adds_tasks, after_job, adds_job}
use Rattle.schedule_rows.specs.Turns.{after_look, adds_job_if_free, fires_for, fires, retries_stage}
use Rattle.schedule_rows.specs.declared.fire.Fire.{Fire}
use Rattle.schedule_rows.specs.declared.outcome.CallOutcome.{CallOutcome}
use Rattle.schedule_rows.specs.declared.outcome.CallOutcome.TheVariants.{Created, Made, Missed, OutOfMemory}
use Rattle.schedule_rows.specs.declared.stage.Stage.TheVariants.{Idle, Tasks, Patch}
use Rattle.batch_schedule.specs.Runs.{MakesCall, ReadShows, ReadFails, RunsPart}
use Rattle.batch_schedule.proofs.Runs.{goes_on, question, question_stops, unasked, of_row, chosen, other, asks, had_memory, looks_on, looks_stops, unlooked}

module _ {A : Type 0} (exchanged : A → Exchange → A → Type 0) where
  -- the patch

  pub patch_none : (now : ℕ) (s last : Schedule) (a : A) (fired : List Fire) → s.job.on_all ≡ false → last ≡ at_stage Idle s
      → RunsPart exchanged (patches now s) a a last fired fired true
  patch_none now s last a fired off e =
      other exchanged s.job.on_all (asks exchanged s now (patch_asked s) (after_patch s)) (λ put next. next (at_stage Idle s)) a a last fired fired true off
      (of_row exchanged (λ put next. next (at_stage Idle s)) a a (at_stage Idle s) last fired fired true e (goes_on exchanged a (at_stage Idle s) fired))

  patch_asks : (now : ℕ) (s last : Schedule) (old new : A) (before after : List Fire) (whole : Bool) → s.job.on_all ≡ true
      → RunsPart exchanged (asks exchanged s now (patch_asked s) (after_patch s)) old new last before after whole
      → RunsPart exchanged (patches now s) old new last before after whole
  patch_asks now s last old new before after whole on goes =
      chosen exchanged s.job.on_all (asks exchanged s now (patch_asked s) (after_patch s)) (λ put next. next (at_stage Idle s)) old new last before after whole
      on goes

  patch_question : (now : ℕ) (s last : Schedule) (h : CallOutcome) (old new : A) (before after : List Fire) → s.job.on_all ≡ true
      → had_memory exchanged h ≡ true
      → MakesCall exchanged old new now (patch_asked s) before after h → RunsPart exchanged (after_patch s h) new new last after after true
      → RunsPart exchanged (patches now s) old new last before after true
  patch_question now s last h old new before after on there asked goes =
      patch_asks now s last old new before after true on
      (question exchanged old new new s last now (patch_asked s) before after after h true (after_patch s) there asked goes)

  -- by the outcome of the patch
  pub patch_answered : (now : ℕ) (s : Schedule) (h : CallOutcome) (old new : A) (before after : List Fire) → s.job.on_all ≡ true
      → MakesCall exchanged old new now (patch_asked s) before after h
      → RunsPart exchanged (patches now s) old new (if is_made h then at_stage Idle s else s) before after (had_memory exchanged h)
  patch_answered now s Created old new before after on asked =
      patch_question now s (at_stage Idle s) Created old new before after on refl asked (goes_on exchanged new (at_stage Idle s) after)
  patch_answered now s Made old new before after on asked =
      patch_question now s (at_stage Idle s) Made old new before after on refl asked (goes_on exchanged new (at_stage Idle s) after)
  patch_answered now s Missed old new before after on asked =
      patch_question now s s Missed old new before after on refl asked (goes_on exchanged new s after)
  patch_answered now s OutOfMemory old new before after on asked =
      patch_asks now s s old new before after false on
      (question_stops exchanged old new s s now (patch_asked s) before after (after_patch s) (λ put next. refl) asked)

  pub patch_unasked : (now : ℕ) (s : Schedule) (old new : A) (before after : List Fire) → s.job.on_all ≡ true → new ≡ old → after ≡ before
      → RunsPart exchanged (patches now s) old new s before after false
  patch_unasked now s old new before after on same none =
      patch_asks now s s old new before after false on (unasked exchanged old new s before after now (patch_asked s) (after_patch s) same none)

  -- the tasks

  pub tasks_none : (now : ℕ) (s last : Schedule) (old new : A) (before after : List Fire) (whole : Bool) → has_tasks s ≡ false
      → RunsPart exchanged (patches now (at_stage Patch s)) old new last before after whole
      → RunsPart exchanged (adds_tasks now s) old new last before after whole
  tasks_none now s last old new before after whole none goes =
      other exchanged (has_tasks s) (asks exchanged s now (add_tasks_asked s) (after_tasks now s)) (patches now (at_stage Patch s)) old new last before after
      whole none goes

  tasks_asks : (now : ℕ) (s last : Schedule) (old new : A) (before after : List Fire) (whole : Bool) → has_tasks s ≡ true
      → RunsPart exchanged (asks exchanged s now (add_tasks_asked s) (after_tasks now s)) old new last before after whole
      → RunsPart exchanged (adds_tasks now s) old new last before after whole
  tasks_asks now s last old new before after whole some goes =
      chosen exchanged (has_tasks s) (asks exchanged s now (add_tasks_asked s) (after_tasks now s)) (patches now (at_stage Patch s)) old new last before after
      whole some goes

  -- the tasks were added, and the patch follows
  pub tasks_made : (now : ℕ) (s last : Schedule) (h : CallOutcome) (old middle new : A) (before mid after : List Fire) (whole : Bool) → has_tasks s ≡ true
      → is_made h ≡ true → MakesCall exchanged old middle now (add_tasks_asked s) before mid h
      → RunsPart exchanged (patches now (at_stage Patch s)) middle new last mid after whole
      → RunsPart exchanged (adds_tasks now s) old new last before after whole
  tasks_made now s last Created old middle new before mid after whole some made asked goes =
      tasks_asks now s last old new before after whole some
      (question exchanged old middle new s last now (add_tasks_asked s) before mid after Created whole (after_tasks now s) refl asked goes)
  tasks_made now s last Made old middle new before mid after whole some made asked goes =
      tasks_asks now s last old new before after whole some
      (question exchanged old middle new s last now (add_tasks_asked s) before mid after Made whole (after_tasks now s) refl asked goes)
  tasks_made now s last Missed old middle new before mid after whole some made asked goes = cc
  tasks_made now s last OutOfMemory old middle new before mid after whole some made asked goes = cc

  pub tasks_missed : (now : ℕ) (s : Schedule) (old new : A) (before after : List Fire) → has_tasks s ≡ true
      → MakesCall exchanged old new now (add_tasks_asked s) before after Missed → RunsPart exchanged (adds_tasks now s) old new s before after true
  tasks_missed now s old new before after some asked =
      tasks_asks now s s old new before after true some
      (question exchanged old new new s s now (add_tasks_asked s) before after after Missed true (after_tasks now s) refl asked (goes_on exchanged new s after))

  pub tasks_stopped : (now : ℕ) (s : Schedule) (old new : A) (before after : List Fire) → has_tasks s ≡ true
      → MakesCall exchanged old new now (add_tasks_asked s) before after OutOfMemory → RunsPart exchanged (adds_tasks now s) old new s before after false
  tasks_stopped now s old new before after some asked =
      tasks_asks now s s old new before after false some
      (question_stops exchanged old new s s now (add_tasks_asked s) before after (after_tasks now s) (λ put next. refl) asked)

  pub tasks_unasked : (now : ℕ) (s : Schedule) (old new : A) (before after : List Fire) → has_tasks s ≡ true → new ≡ old → after ≡ before
      → RunsPart exchanged (adds_tasks now s) old new s before after false
  tasks_unasked now s old new before after some same none =
      tasks_asks now s s old new before after false some (unasked exchanged old new s before after now (add_tasks_asked s) (after_tasks now s) same none)

  -- the job

  pub job_created : (now k : ℕ) (s last : Schedule) (old middle new : A) (before mid after : List Fire) (whole : Bool)
      → MakesCall exchanged old middle now (add_job_asked s) before mid Created
      → RunsPart exchanged (adds_tasks now (at_stage Tasks (fired_for k s))) middle new last mid after whole
      → RunsPart exchanged (adds_job now k s) old new last before after whole
  job_created now k s last old middle new before mid after whole asked goes =
      question exchanged old middle new s last now (add_job_asked s) before mid after Created whole (after_job now k s) refl asked goes

  pub job_made : (now k : ℕ) (s last : Schedule) (old new : A) (before after : List Fire) → last ≡ fired_for k s
      → MakesCall exchanged old new now (add_job_asked s) before after Made → RunsPart exchanged (adds_job now k s) old new last before after true
  job_made now k s last old new before after e asked =
      of_row exchanged (adds_job now k s) old new (fired_for k s) last before after true e
      (question exchanged old new new s (fired_for k s) now (add_job_asked s) before after after Made true (after_job now k s) refl asked
      (goes_on exchanged new (fired_for k s) after))

  pub job_missed : (now k : ℕ) (s : Schedule) (old new : A) (before after : List Fire)
      → MakesCall exchanged old new now (add_job_asked s) before after Missed → RunsPart exchanged (adds_job now k s) old new s before after true
  job_missed now k s old new before after asked =
      question exchanged old new new s s now (add_job_asked s) before after after Missed true (after_job now k s) refl asked (goes_on exchanged new s after)

  pub job_stopped : (now k : ℕ) (s : Schedule) (old new : A) (before after : List Fire)
      → MakesCall exchanged old new now (add_job_asked s) before after OutOfMemory → RunsPart exchanged (adds_job now k s) old new s before after false
  job_stopped now k s old new before after asked =
      question_stops exchanged old new s s now (add_job_asked s) before after (after_job now k s) (λ put next. refl) asked

  pub job_unasked : (now k : ℕ) (s : Schedule) (old new : A) (before after : List Fire) → new ≡ old → after ≡ before
      → RunsPart exchanged (adds_job now k s) old new s before after false
  job_unasked now k s old new before after same none = unasked exchanged old new s before after now (add_job_asked s) (after_job now k s) same none

  -- the previous job

  pub no_job_before : (now k : ℕ) (s last : Schedule) (old new : A) (before after : List Fire) (whole : Bool) → nat_eq s.number 0 ≡ true
      → RunsPart exchanged (adds_job now k s) old new last before after whole → RunsPart exchanged (adds_job_if_free now k s) old new last before after whole
  no_job_before now k s last old new before after whole none goes =
      chosen exchanged (nat_eq s.number 0) (adds_job now k s) (λ put next. Looks (put s) (job_read s) (λ shown. after_look now k s shown put next)) old new
      last before after whole none goes

  looks_before : (now k : ℕ) (s last : Schedule) (old new : A) (before after : List Fire) (whole : Bool) → nat_eq s.number 0 ≡ false
      → RunsPart exchanged (λ put next. Looks (put s) (job_read s) (λ shown. after_look now k s shown put next)) old new last before after whole
      → RunsPart exchanged (adds_job_if_free now k s) old new last before after whole
  looks_before now k s last old new before after whole some goes =
      other exchanged (nat_eq s.number 0) (adds_job now k s) (λ put next. Looks (put s) (job_read s) (λ shown. after_look now k s shown put next)) old new
      last before after whole some goes

  pub free_before : (now k : ℕ) (s last : Schedule) (old middle new : A) (before after : List Fire) (whole : Bool) → nat_eq s.number 0 ≡ false
      → ReadShows exchanged old middle (job_read s) true → RunsPart exchanged (adds_job now k s) middle new last before after whole
      → RunsPart exchanged (adds_job_if_free now k s) old new last before after whole
  free_before now k s last old middle new before after whole some showed goes =
      looks_before now k s last old new before after whole some
      (looks_on exchanged old middle new s last (job_read s) showed.reply before after whole (after_look now k s) showed.made
      (chosen exchanged (is_free (Ok showed.reply)) (adds_job now k s) (λ put next. next s) middle new last before after whole (sym showed.shows) goes))

  pub busy_before : (now k : ℕ) (s : Schedule) (old new : A) (fired : List Fire) → nat_eq s.number 0 ≡ false
      → ReadShows exchanged old new (job_read s) false → RunsPart exchanged (adds_job_if_free now k s) old new s fired fired true
  busy_before now k s old new fired some showed =
      looks_before now k s s old new fired fired true some
      (looks_on exchanged old new new s s (job_read s) showed.reply fired fired true (after_look now k s) showed.made
      (other exchanged (is_free (Ok showed.reply)) (adds_job now k s) (λ put next. next s) new new s fired fired true (sym showed.shows)
      (goes_on exchanged new s fired)))

  pub unknown_before : (now k : ℕ) (s : Schedule) (old new : A) (e : NoMemory) (fired : List Fire) → nat_eq s.number 0 ≡ false
      → ReadFails exchanged old new (job_read s) e → RunsPart exchanged (adds_job_if_free now k s) old new s fired fired false
  unknown_before now k s old new e fired some (inl same) =
      looks_before now k s s old new fired fired false some
      (subst (λ a. RunsPart exchanged (λ put next. Looks (put s) (job_read s) (λ shown. after_look now k s shown put next)) old a s fired fired false)
      (sym same)
      (unlooked exchanged old s (job_read s) fired (after_look now k s)))
  unknown_before now k s old new e fired some (inr made) =
      looks_before now k s s old new fired fired false some
      (looks_stops exchanged old new s (job_read s) e fired (after_look now k s) (λ put next. refl) made)

  -- firing, and the requests that remained

  pub fires_none : (now : ℕ) (s : Schedule) (a : A) (fired : List Fire) → None ≡ firing_at now s → RunsPart exchanged (fires now s) a a s fired fired true
  fires_none now s a fired e = subst (λ o. RunsPart exchanged (fires_for now s o) a a s fired fired true) e (goes_on exchanged a s fired)

  pub fires_some : (now k : ℕ) (s last : Schedule) (old new : A) (before after : List Fire) (whole : Bool) → Some k ≡ firing_at now s
      → RunsPart exchanged (adds_job_if_free now k s) old new last before after whole → RunsPart exchanged (fires now s) old new last before after whole
  fires_some now k s last old new before after whole e goes =
      subst (λ o. RunsPart exchanged (fires_for now s o) old new last before after whole) e goes

  pub retry_idle : (now : ℕ) (s : Schedule) (a : A) (fired : List Fire) → Idle ≡ s.stage → RunsPart exchanged (retries_stage now s.stage s) a a s fired
      fired true
  retry_idle now s a fired e = subst (λ t. RunsPart exchanged (retries_stage now t s) a a s fired fired true) e (goes_on exchanged a s fired)

  pub retry_tasks : (now : ℕ) (s last : Schedule) (old new : A) (before after : List Fire) (whole : Bool) → Tasks ≡ s.stage
      → RunsPart exchanged (adds_tasks now s) old new last before after whole → RunsPart exchanged (retries_stage now s.stage s) old new last before after whole
  retry_tasks now s last old new before after whole e goes = subst (λ t. RunsPart exchanged (retries_stage now t s) old new last before after whole) e goes

  pub retry_patch : (now : ℕ) (s last : Schedule) (old new : A) (before after : List Fire) (whole : Bool) → Patch ≡ s.stage
      → RunsPart exchanged (patches now s) old new last before after whole → RunsPart exchanged (retries_stage now s.stage s) old new last before after whole
  retry_patch now s last old new before after whole e goes = subst (λ t. RunsPart exchanged (retries_stage now t s) old new last before after whole) e goes
