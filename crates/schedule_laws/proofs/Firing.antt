-- A schedule that is to fire requests its job.
use Rattle.std.proofs.Common.{◌≡◌, ℕ, Bool, true, false, nat_eq, List, [], ◌∷◌, ◌++◌, ◌⊎◌, inl, inr, Some, refl, subst, ap, ◌∙◌, arith, if◌then◌else◌}
use Rattle.std.proofs.lemmas.Bool.Decides.{nat_tests}
use Rattle.bt_rows.specs.declared.event.EventKind.{EventKind}
use Rattle.batch_desk.specs.declared.answer.Answer.{Answer}
use Rattle.batch_desk.specs.Exchanges.{Exchange, Called, Looked}
use Rattle.schedule_rows.specs.Interactions.{Interaction, Ends, Looks, Reaches}
use Rattle.schedule_rows.specs.Jobs.{add_job_asked, job_read}
use Rattle.schedule_rows.specs.Occurrences.{firing_at}
use Rattle.schedule_rows.specs.Rows.{Schedule}
use Rattle.schedule_rows.specs.Turns.{is_free, after_look, adds_job, adds_job_if_free, fires_for, fires, retries_stage, retries_and_fires, ends_turn, turns}
use Rattle.schedule_rows.specs.declared.stage.Stage.TheVariants.{Idle}
use Rattle.schedule_laws.specs.Laws.{AsksForJob, LooksBefore}
use Rattle.schedule_laws.proofs.Splits.{past}

called : (at now : ℕ) (asked event : EventKind) (answer : Answer) (xs : List Exchange) → at ≡ now → asked ≡ event
    → Called at asked answer ∷ xs ≡ Called now event answer ∷ xs
called at now asked event answer xs e f = ap (λ n. Called n asked answer ∷ xs) e ∙ ap (λ w. Called now w answer ∷ xs) f

asks_first : (now k : ℕ) (s : Schedule) (put : Schedule → List Schedule) (next : Schedule → Interaction) (xs : List Exchange) (end : List Schedule)
    → Reaches (adds_job now k s put next) xs (Ends end) → AsksForJob now s xs
asks_first now k s put next [] end h = cc
asks_first now k s put next (Called at asked answer ∷ xs) end h =
    record { answer = answer; rest = xs; asks = called at now asked (add_job_asked s) answer xs h.0 h.1 }
asks_first now k s put next (Looked read reply ∷ xs) end h = absurd h

after_free : (b : Bool) (now k : ℕ) (s : Schedule) (put : Schedule → List Schedule) (next : Schedule → Interaction) (xs : List Exchange) (end : List Schedule)
    → b ≡ true → Reaches (if b then adds_job now k s put next else next s) xs (Ends end) → AsksForJob now s xs
after_free true now k s put next xs end e h = asks_first now k s put next xs end h
after_free false now k s put next xs end e h = cc

zero_is : (n : ℕ) → true ≡ nat_eq n 0 → n ≡ 0
zero_is n e = grind (arith, nat_tests)

by_number : (b : Bool) (now k : ℕ) (s : Schedule) (put : Schedule → List Schedule) (next : Schedule → Interaction) (xs : List Exchange) (end : List Schedule)
    → b ≡ nat_eq s.number 0
    → Reaches (if b then adds_job now k s put next else Looks (put s) (job_read s) (λ shown. after_look now k s shown put next)) xs (Ends end)
    → ((s.number ≡ 0) × AsksForJob now s xs) ⊎ LooksBefore now s xs
by_number true now k s put next xs end b h = inl (zero_is s.number b, asks_first now k s put next xs end h)
by_number false now k s put next [] end b h = cc
by_number false now k s put next (Called at asked answer ∷ xs) end b h = absurd h
by_number false now k s put next (Looked read reply ∷ xs) end b h = inr (record {
  reply = reply;
  rest = xs;
  looks = ap (λ r. Looked r reply ∷ xs) h.0;
  follows = λ free. after_free (is_free reply) now k s put next xs end free h.1;
})

pub fires_when_due : (now k : ℕ) (s last : Schedule) (xs : List Exchange) → Reaches (turns now [] (s ∷ [])) xs (Ends (last ∷ [])) → s.stage ≡ Idle
    → firing_at now s ≡ Some k → ((s.number ≡ 0) × AsksForJob now s xs) ⊎ LooksBefore now s xs
fires_when_due now k s last xs h idle due =
    let put : Schedule → List Schedule = λ row. [] ++ row ∷ [] in
    let next : Schedule → Interaction = λ row. turns now ([] ++ row ∷ []) [] in
    let ending : Schedule → Interaction = λ row. ends_turn now row put next in
    let firing : Schedule → Interaction = λ row. fires now row put ending in
    let turn : Reaches (retries_stage now s.stage s put firing) xs (Ends (last ∷ [])) = past (put s) (retries_and_fires now s put ending) xs (last ∷ []) h in
    let fire : Reaches (fires_for now s (firing_at now s) put ending) xs (Ends (last ∷ [])) =
    subst (λ t. Reaches (retries_stage now t s put firing) xs (Ends (last ∷ []))) idle turn in
    let job : Reaches (adds_job_if_free now k s put ending) xs (Ends (last ∷ [])) =
    subst (λ o. Reaches (fires_for now s o put ending) xs (Ends (last ∷ []))) due fire in
    by_number (nat_eq s.number 0) now k s put ending xs (last ∷ []) refl job
