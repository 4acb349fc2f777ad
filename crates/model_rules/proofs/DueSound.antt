-- Each due step keeps sound tables and lowers the rank, and if it places a task, then within free slots.
use Rattle.std.proofs.Common.{◌≡◌, ℕ, true, [], ◌∷◌, Some}
use Rattle.bt_base.proofs.Turns.{lex_lt}
use Rattle.batch_model.specs.Placing.{place_first}
use Rattle.batch_model.specs.JobRules.{enable_first, terminate_first, disable_first, release_first, end_first}
use Rattle.batch_model.specs.WallTimes.{time_out_task_first, time_out_release_first, time_out_job_first}
use Rattle.batch_model.specs.Scaling.{sample_first, scale_first}
use Rattle.batch_model.specs.Dues.{settle_first, job_step, end_resize, remove_node, pool_step, drop_first, add_node, node_step, due_step}
use Rattle.batch_model.specs.Laws.{HoldsWithinSlots, JobsEndAtRest, JobsReleaseOnce}
use Rattle.batch_model.specs.Measure.{rank}
use Rattle.batch_model.specs.Sound.{IsSound}
use Rattle.batch_model.specs.Steps.{DueStep}
use Rattle.batch_model.specs.Variants.{State}
use Rattle.model_rules.proofs.Rules.{IsDueKept, first_gives}
use Rattle.model_rules.proofs.TaskSettled.{settle_kept}
use Rattle.model_rules.proofs.JobsMoved.{enable_kept, terminate_kept, disable_kept, end_kept}
use Rattle.model_rules.proofs.WallTimes.{time_out_task_kept, time_out_job_kept}
use Rattle.model_rules.proofs.Releases.{time_out_release_kept, release_kept}
use Rattle.model_rules.proofs.PoolResized.{end_resize_kept}
use Rattle.model_rules.proofs.PoolsSampled.{sample_first_kept}
use Rattle.model_rules.proofs.PoolsScaled.{scale_first_kept}
use Rattle.model_rules.proofs.NodesLeft.{remove_node_kept}
use Rattle.model_rules.proofs.NodeDropped.{drop_first_kept}
use Rattle.model_rules.proofs.NodeAdded.{add_node_kept}
use Rattle.model_rules.proofs.TaskPlaced.{place_first_kept}

-- the rules of jobs and tasks in their order, each with its lemma
job_step_kept : (seats : ℕ) (s : State) → IsSound seats s → (step : DueStep) → job_step s ≡ Some step → IsDueKept seats s step
job_step_kept seats s h step e =
    first_gives (IsDueKept seats s)
    (time_out_task_first s
    ∷ time_out_release_first s
    ∷ time_out_job_first s
    ∷ settle_first s
    ∷ enable_first s
    ∷ terminate_first s
    ∷ disable_first s
    ∷ release_first s
    ∷ end_first s
    ∷ []) (
      time_out_task_kept seats s h,
      (
        time_out_release_kept seats s h,
        (
          time_out_job_kept seats s h,
          (
            settle_kept seats s h,
            (
              enable_kept seats s h,
              (terminate_kept seats s h, (disable_kept seats s h, (release_kept seats s h, (end_kept seats s h, tt)))),
            ),
          ),
        ),
      ),
    )
    step e

-- the rules of pools
pool_step_kept : (seats : ℕ) (s : State) → IsSound seats s → (step : DueStep) → pool_step s ≡ Some step → IsDueKept seats s step
pool_step_kept seats s h step e =
    first_gives (IsDueKept seats s) (end_resize s ∷ scale_first s ∷ remove_node s ∷ [])
    (end_resize_kept seats s h, (scale_first_kept seats s h, (remove_node_kept seats s h, tt))) step e

-- the rules of nodes
node_step_kept : (seats : ℕ) (s : State) → IsSound seats s → (step : DueStep) → node_step seats s ≡ Some step → IsDueKept seats s step
node_step_kept seats s h step e =
    first_gives (IsDueKept seats s) (drop_first s ∷ add_node seats s ∷ []) (drop_first_kept seats s h, (add_node_kept seats s h, tt)) step e

-- the rules in their order, each with its lemma
kept_by_due : (seats : ℕ) (s : State) (step : DueStep) → IsSound seats s → due_step seats s ≡ Some step → IsDueKept seats s step
kept_by_due seats s step h e =
    first_gives (IsDueKept seats s)
    (sample_first s ∷ job_step s ∷ pool_step s ∷ node_step seats s ∷ place_first s ∷ [])
    (sample_first_kept seats s h, (job_step_kept seats s h, (pool_step_kept seats s h, (node_step_kept seats s h, (place_first_kept seats s h, tt)))))
    step e

-- a due step keeps tables sound
pub sound_by_due : (seats : ℕ) (s : State) (step : DueStep) → IsSound seats s → due_step seats s ≡ Some step → IsSound seats step.state
sound_by_due seats s step h e =
    let kept : IsDueKept seats s step = kept_by_due seats s step h e in
    kept.sound

-- a due step lowers the rank
pub falls_by_due : (seats : ℕ) (s : State) (step : DueStep) → IsSound seats s → due_step seats s ≡ Some step → lex_lt (rank step.state) (rank s) ≡ true
falls_by_due seats s step h e =
    let kept : IsDueKept seats s step = kept_by_due seats s step h e in
    kept.falls

-- sound tables hold slots within those of the pools, and so does the next due step
pub within_slots : (seats : ℕ) (s : State) → IsSound seats s → HoldsWithinSlots seats s
within_slots seats s h = record {
  within = h.consistent.slots;
  placing = λ step e. let kept : IsDueKept seats s step = kept_by_due seats s step h e in kept.places;
}

-- completed jobs of sound tables rest, and the next due step ends a job only at rest
pub jobs_end_at_rest : (seats : ℕ) (s : State) → IsSound seats s → JobsEndAtRest seats s
jobs_end_at_rest seats s h = record {
  placing = h.limited.quiet;
  resting = h.resting;
  ending = λ step e. let kept : IsDueKept seats s step = kept_by_due seats s step h e in kept.ends;
}

-- the next due step makes a release run only after a completed preparation, and only the first one
pub jobs_release_once : (seats : ℕ) (s : State) → IsSound seats s → JobsReleaseOnce seats s
jobs_release_once seats s h = record { making = λ step e. let kept : IsDueKept seats s step = kept_by_due seats s step h e in kept.releases }
