-- The change of the last moment.
use Rattle.std.proofs.Common.{◌≡◌, ℕ, Bool, true, false, nat_eq, List, [], ◌++◌, Result, Ok, Err, refl, sym, ap, ◌∙◌, eq-eqb}
use Rattle.std.specs.Prelude.{IfOk}
use Rattle.std.proofs.lemmas.Bool.Decides.{Decides-eqb}
use Rattle.bt_base.specs.declared.memory.NoMemory.{NoMemory}
use Rattle.bt_rows.specs.Changes.{apply_changes}
use Rattle.bt_rows.specs.declared.plan.Plan.{Plan}
use Rattle.bt_rows.specs.declared.refusal.Refusal.{Refusal}
use Rattle.bt_rows.specs.declared.reply.Reply.TheVariants.{Refused}
use Rattle.bt_rows.specs.declared.tables.Change.{Change}
use Rattle.batch_model.specs.Steps.{Answered}
use Rattle.batch_model.specs.WellFormed.{KeysAreDistinct}
use Rattle.batch_model.specs.Variants.{State}
use Rattle.machine_plans.specs.Plans.{IsPlanOf, moved_to, with_moment}

-- by whether the moment stays
moves_by : (now : ℕ) (s : State) (more : List Change) (stays : Bool) → nat_eq s.moment now ≡ stays → apply_changes (moved_to now s ++ more) s ≡ apply_changes more (with_moment now s)
moves_by now s more true e =
    let same : s.moment ≡ now = (Decides-eqb s.moment now).0 e in
    rw e (ap (λ at. apply_changes more (with_moment at s)) same)
moves_by now s more false e = rw e refl

-- changes after that of the last moment begin at the moment
pub moves : (now : ℕ) (s : State) (more : List Change) → apply_changes (moved_to now s ++ more) s ≡ apply_changes more (with_moment now s)
moves now s more = moves_by now s more (nat_eq s.moment now) refl

-- if the tables stay, there is no change
pub none_moved : (now : ℕ) (s : State) → with_moment now s ≡ s → moved_to now s ≡ []
none_moved now s e = rw (eq-eqb s.moment now (sym (ap (λ (t : State). t.moment) e))) refl

-- a plan of changes after that of the last moment
pub moved_plan : (result : Result Plan NoMemory) (now : ℕ) (answered : Answered) (s : State) (more : List Change) → ((refusal : Refusal) → answered.reply ≡ Refused refusal → more ≡ []) → IfOk result (λ plan. plan.reply ≡ answered.reply) → IfOk result (λ plan. plan.changes ≡ moved_to now s ++ more) → apply_changes more (with_moment now s) ≡ answered.state → IfOk result (IsPlanOf answered s)
moved_plan (Ok plan) now answered s more alone reply made leads = record {
  reply = reply;
  state = ap (λ these. apply_changes these s) made ∙ (moves now s more ∙ leads);
  quiet = λ refusal e k.
      let no_more : more ≡ [] = alone refusal e in
      let still : with_moment now s ≡ s = sym (ap (λ these. apply_changes these (with_moment now s)) no_more) ∙ (leads ∙ k) in
      made ∙ (ap (λ these. moved_to now s ++ these) no_more ∙ ap (λ these. these ++ []) (none_moved now s still));
}
moved_plan (Err error) now answered s more alone reply made leads = tt

-- keys stay distinct at another moment
pub keys_moved : (now : ℕ) (s : State) → KeysAreDistinct s → KeysAreDistinct (with_moment now s)
keys_moved now s k =
    record { pools = k.pools; nodes = k.nodes; jobs = k.jobs; tasks = k.tasks; runs = k.runs; preps = k.preps; samples = k.samples; scales = k.scales }
