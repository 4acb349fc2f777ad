-- Pools that scale automatically: when samples are taken and formulas are evaluated, what these do, and what is refused.
use Rattle.std.specs.Prelude.{ℕ, List, [], ◌∷◌, ◌++◌, map, codes, Option, Some, None, ℤ, pos, false}
use Rattle.std.specs.Fmt.{decimal}
use Rattle.bt_base.specs.declared.formula_fault.FormulaFault.TheVariants.{UnexpectedToken}
use Rattle.bt_rows.specs.declared.event.PoolSpec.{PoolSpec}
use Rattle.bt_rows.specs.declared.event.EventKind.TheVariants.{AddPool, DeletePool, Resize, EnableAutoscale, DisableAutoscale, EvaluateAutoscale, Sample, Tick}
use Rattle.bt_rows.specs.declared.reply.Reply.TheVariants.{Status, Refused, Results}
use Rattle.bt_rows.specs.declared.refusal.Refusal.TheVariants as refusal
use Rattle.bt_rows.specs.declared.due.ResizeEnd.TheVariants.{Reached, Removed}
use Rattle.bt_rows.specs.declared.due.Due.TheVariants.{Sampled, PoolScaled, PoolResized, NodeAdded, NodeLeaves, NodeDropped}
use Rattle.formula_eval.specs.Results.{settings_text}
use Rattle.batch_model.specs.Variants.{Steady, ByRequeue, Usable, SampleRow, ScaleRow}
use Rattle.model_scripts.specs.Scripts.{Call, at, Line, line, Sheet, state_after}
use Rattle.model_scripts.specs.Bodies.{pool_body, resize_body}

-- a pool without nodes, with this formula
abbrev pub scaling_body : List ℕ → List ℕ → PoolSpec
scaling_body name text = record (pool_body name 0) { scale = Some (record { formula = text; interval = 900000 }) }

-- the intervals, the next evaluations and the last texts
abbrev pub scales_after : List Call → List (List ℕ × ℕ × ℕ × Option (List ℕ))
scales_after calls = map (λ (scale : ScaleRow). (scale.pool, scale.interval, scale.next, scale.last)) (state_after calls).scales

-- the labels and the values of samples
abbrev pub samples_after : List Call → List (ℕ × ℤ)
samples_after calls = map (λ (sample : SampleRow). (sample.label, sample.value)) (state_after calls).samples

-- the text of results that set dedicated nodes alone, and no variables
abbrev pub nodes_text : ℕ → List ℕ
nodes_text number = settings_text number 0 (codes "requeue") ++ []

-- the text of a fault at a place
abbrev pub fault_text : List ℕ → ℕ → List ℕ
fault_text name place = codes "error " ++ name ++ codes " " ++ decimal place

-- a pool follows the processors: without a sample its formula has a fault, and then it gets three nodes
abbrev pub follows_processors : List Call
follows_processors =
    at 0 (AddPool (scaling_body (codes "p") (codes "$TargetDedicatedNodes = $CPUPercent;")))
    ∷ at 0 (Sample (codes "p") (pos 3500000))
    ∷ at 900000 Tick
    ∷ at 900000 (AddPool (scaling_body (codes "q") (codes "x = ;")))
    ∷ at 900000 (Resize (codes "p") (resize_body 1 ByRequeue))
    ∷ []

abbrev pub follows_processors_lines : List Line
follows_processors_lines =
    line (Status 201) (Sampled (codes "p") 0 ∷ PoolScaled (codes "p") (fault_text (codes "EmptyVector") 24) ∷ [])
    ∷ line (Status 200) []
    ∷ line (Status 200)
    (Sampled (codes "p") 900000
    ∷ PoolScaled (codes "p") (nodes_text 3)
    ∷ NodeAdded (codes "p") 1 1
    ∷ NodeAdded (codes "p") 2 2
    ∷ NodeAdded (codes "p") 3 3
    ∷ PoolResized (codes "p") Reached
    ∷ [])
    ∷ line (Refused (refusal.FormulaRefused (UnexpectedToken 4))) []
    ∷ line (Refused refusal.PoolScalesAutomatically) []
    ∷ []

abbrev pub follows_processors_rows : Sheet
follows_processors_rows = record {
  pools = (codes "p", false, Steady, 3, 900000) ∷ [];
  nodes = (1, codes "p", 1, Usable) ∷ (2, codes "p", 2, Usable) ∷ (3, codes "p", 3, Usable) ∷ [];
  jobs = [];
  tasks = [];
  runs = [];
  moment = 900000;
}

abbrev pub follows_processors_scales : List (List ℕ × ℕ × ℕ × Option (List ℕ))
follows_processors_scales = (codes "p", 900000, 1800000, Some (nodes_text 3)) ∷ []

-- automatic scaling is enabled again only after 30 seconds, and needs a formula
abbrev pub enabled_again : List Call
enabled_again =
    at 0 (AddPool (pool_body (codes "p") 0))
    ∷ at 0 (EnableAutoscale (codes "P") (record { formula = None; interval = Some 300000 }))
    ∷ at 0 (EnableAutoscale (codes "P") (record { formula = Some (codes "$TargetDedicatedNodes=0;"); interval = None }))
    ∷ at 29999 (EnableAutoscale (codes "p") (record { formula = None; interval = None }))
    ∷ at 30000 (EnableAutoscale (codes "p") (record { formula = None; interval = Some 300000 }))
    ∷ at 330000 Tick
    ∷ []

abbrev pub enabled_again_lines : List Line
enabled_again_lines =
    line (Status 201) []
    ∷ line (Refused refusal.PoolDoesNotScale) []
    ∷ line (Status 200) (Sampled (codes "p") 0 ∷ PoolScaled (codes "p") (nodes_text 0) ∷ [])
    ∷ line (Refused (refusal.AutoscaleTooSoon 0)) []
    ∷ line (Status 200) (Sampled (codes "p") 30000 ∷ PoolScaled (codes "p") (nodes_text 0) ∷ [])
    ∷ line (Status 200) (Sampled (codes "p") 330000 ∷ PoolScaled (codes "p") (nodes_text 0) ∷ [])
    ∷ []

abbrev pub enabled_again_scales : List (List ℕ × ℕ × ℕ × Option (List ℕ))
enabled_again_scales = (codes "p", 300000, 630000, Some (nodes_text 0)) ∷ []

-- one sample of the processors for each half minute, also of a pool that does not scale
abbrev pub handed_in : List Call
handed_in =
    at 0 (AddPool (pool_body (codes "p") 0))
    ∷ at 29999 (Sample (codes "p") (pos 42500000))
    ∷ at 29999 (Sample (codes "P") (pos 0))
    ∷ at 30000 (Sample (codes "P") (pos 100000000))
    ∷ at 30000 (Sample (codes "q") (pos 0))
    ∷ []

abbrev pub handed_in_lines : List Line
handed_in_lines =
    line (Status 201) []
    ∷ line (Status 200) []
    ∷ line (Refused (refusal.SampleTooOld 0)) []
    ∷ line (Status 200) []
    ∷ line (Refused refusal.PoolNotFound) []
    ∷ []

abbrev pub handed_in_samples : List (ℕ × ℤ)
handed_in_samples = (0, pos 42500000) ∷ (30000, pos 100000000) ∷ []

-- formulas are evaluated, but change nothing, while the pool scales
abbrev pub evaluated : List Call
evaluated =
    at 0 (AddPool (pool_body (codes "p") 0))
    ∷ at 0 (EvaluateAutoscale (codes "p") (codes "x = 1/0;"))
    ∷ at 0 (EnableAutoscale (codes "p") (record { formula = Some (codes "stop();"); interval = None }))
    ∷ at 0 (EvaluateAutoscale (codes "p") (codes "x = 1/0;"))
    ∷ at 0 (EvaluateAutoscale (codes "p") (codes "$TargetDedicatedNodes = 2;"))
    ∷ at 0 (EvaluateAutoscale (codes "p") (codes "x = ;"))
    ∷ at 0 (DisableAutoscale (codes "P"))
    ∷ at 30000 (DisableAutoscale (codes "p"))
    ∷ []

abbrev pub evaluated_lines : List Line
evaluated_lines =
    line (Status 201) []
    ∷ line (Refused refusal.PoolDoesNotScale) []
    ∷ line (Status 200) (Sampled (codes "p") 0 ∷ PoolScaled (codes "p") (nodes_text 0) ∷ [])
    ∷ line (Results (fault_text (codes "DivideByZero") 5)) []
    ∷ line (Results (nodes_text 2)) []
    ∷ line (Refused (refusal.FormulaRefused (UnexpectedToken 4))) []
    ∷ line (Status 200) []
    ∷ line (Refused refusal.PoolDoesNotScale) []
    ∷ []

-- a fault in the evaluation leaves the target and the nodes; a deleted pool scales no more
abbrev pub fault_and_deletion : List Call
fault_and_deletion =
    at 0 (AddPool (pool_body (codes "p") 1))
    ∷ at 0 (EnableAutoscale (codes "p") (record { formula = Some (codes "$TargetDedicatedNodes = -1;"); interval = None }))
    ∷ at 30000 (DeletePool (codes "p"))
    ∷ at 60000 Tick
    ∷ []

abbrev pub fault_and_deletion_lines : List Line
fault_and_deletion_lines =
    line (Status 201) (NodeAdded (codes "p") 1 1 ∷ PoolResized (codes "p") Reached ∷ [])
    ∷ line (Status 200) (Sampled (codes "p") 0 ∷ PoolScaled (codes "p") (fault_text (codes "NegativeTarget") 0) ∷ [])
    ∷ line (Status 202) (NodeLeaves 1 ∷ NodeDropped 1 ∷ PoolResized (codes "p") Removed ∷ [])
    ∷ line (Status 200) []
    ∷ []

abbrev pub fault_and_deletion_samples : List (ℕ × ℤ)
fault_and_deletion_samples = []
