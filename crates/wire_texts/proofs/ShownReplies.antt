-- Replies whose texts were written by hand, computed.
use Rattle.std.proofs.Common.{◌≡◌, List, [], ◌∷◌, ◌++◌, map, refl}
use Rattle.std.specs.Fmt.{digits}
use Rattle.std.specs.Prelude.{codes, None}
use Rattle.bt_rows.specs.Names.{member_text}
use Rattle.bt_rows.specs.declared.job.JobState.TheVariants as jobs
use Rattle.bt_rows.specs.declared.member.Member.TheVariants as members
use Rattle.bt_rows.specs.declared.refusal.Refusal.{Refusal}
use Rattle.bt_rows.specs.declared.refusal.Table.TheVariants as limited
use Rattle.bt_base.specs.declared.formula_fault.FormulaFault.TheVariants as faults
use Rattle.bt_rows.specs.declared.refusal.Refusal.TheVariants as refusals
use Rattle.bt_rows.specs.declared.reply.Element.TheVariants.{Added, NotAdded}
use Rattle.bt_rows.specs.declared.reply.Reply.TheVariants as replies
use Rattle.wire_texts.specs.Lines.{numbered}
use Rattle.wire_json.specs.Replies.{reply_json}
use Rattle.wire_words.specs.Words.{job_state_word}
use Rattle.wire_texts.specs.Refusals.{refusal_text}
use Rattle.wire_words.specs.Refusals.{refusal_number, refusal_name, table_word}
use Rattle.wire_texts.specs.Replies.{shown_text, reply_text}

-- in the order of their numbers
abbrev all_refusals : List Refusal
all_refusals =
    refusals.UnreadableBody ∷
    (refusals.InvalidPropertyValue members.MaxTaskRetryCount) ∷
    refusals.PoolNotFound ∷
    refusals.PoolExists ∷
    refusals.PoolBeingDeleted ∷
    refusals.PoolBeingResized ∷
    refusals.PoolScalesAutomatically ∷
    refusals.PoolDoesNotScale ∷
    (refusals.AutoscaleTooSoon 29999) ∷
    (refusals.FormulaRefused (faults.TooDeep 68)) ∷
    refusals.NodeNotFound ∷
    refusals.PoolNotResizing ∷
    refusals.JobNotFound ∷
    refusals.JobExists ∷
    (refusals.JobStateRefuses jobs.Terminating) ∷
    refusals.TaskNotFound ∷
    refusals.TaskExists ∷
    refusals.TaskCompleted ∷
    refusals.TaskNotReactivable ∷
    refusals.DependenciesOff ∷
    refusals.DependencyListTooLong ∷
    refusals.JobActionOff ∷
    refusals.InstanceSlots ∷
    refusals.CollectionTooLong ∷
    refusals.RunNotFound ∷
    refusals.RunAlreadyEnded ∷
    refusals.RunAlreadyTaken ∷
    refusals.RunNotTaken ∷
    refusals.RunWithdrawn ∷
    (refusals.TableFull limited.Pools 64) ∷
    (refusals.SampleTooOld 0) ∷
    refusals.RunWaiting ∷
    refusals.TerminationEngaged ∷
    []

their_numbers : map refusal_number all_refusals ≡ 1 ∷ 2 ∷ 3 ∷ 4 ∷ 5 ∷ 6 ∷ 7 ∷ 8 ∷ 9 ∷ 10 ∷ 11 ∷ 12 ∷ 13 ∷ 14 ∷ 15 ∷ 16 ∷ 17 ∷ 18 ∷ 19 ∷ 20 ∷ 21 ∷ 22 ∷ 23 ∷ 24 ∷ 25 ∷ 26 ∷ 27 ∷ 28 ∷ 29 ∷ 30 ∷ 31 ∷ 32 ∷ 38 ∷ []
their_numbers = refl

their_texts : map refusal_text all_refusals ≡
    codes "400 UnreadableBody" ∷
    codes "400 InvalidPropertyValue maxTaskRetryCount" ∷
    codes "404 PoolNotFound" ∷
    codes "409 PoolExists" ∷
    codes "409 PoolBeingDeleted" ∷
    codes "409 PoolBeingResized" ∷
    codes "409 PoolScalesAutomatically" ∷
    codes "409 PoolDoesNotScale" ∷
    codes "409 AutoscaleTooSoon 29999" ∷
    codes "400 FormulaRefused TooDeep 68" ∷
    codes "404 NodeNotFound" ∷
    codes "409 PoolNotResizing" ∷
    codes "404 JobNotFound" ∷
    codes "409 JobExists" ∷
    codes "409 JobStateRefuses terminating" ∷
    codes "404 TaskNotFound" ∷
    codes "409 TaskExists" ∷
    codes "409 TaskCompleted" ∷
    codes "409 TaskNotReactivable" ∷
    codes "400 DependenciesOff" ∷
    codes "400 DependencyListTooLong" ∷
    codes "400 JobActionOff" ∷
    codes "400 InstanceSlots" ∷
    codes "400 CollectionTooLong" ∷
    codes "404 RunNotFound" ∷
    codes "409 RunAlreadyEnded" ∷
    codes "409 RunAlreadyTaken" ∷
    codes "409 RunNotTaken" ∷
    codes "409 RunWithdrawn" ∷
    codes "409 TableFull pools 64" ∷
    codes "409 SampleTooOld 0" ∷
    codes "409 RunWaiting" ∷
    codes "400 TerminationEngaged" ∷
    []
unfolding refusal_name member_text job_state_word table_word digits
their_texts = refl

created : reply_text (replies.Status 201) ≡ codes "201"
unfolding reply_text digits
created = refl

refused : reply_text (replies.Refused (refusals.TableFull limited.Tasks 1000000)) ≡ codes "409 TableFull tasks 1000000"
unfolding reply_text refusal_name table_word digits
refused = refl

collection : reply_text (replies.Elements (Added (codes "a") ∷ NotAdded (codes "A") refusals.TaskExists ∷ NotAdded (codes "b") refusals.DependenciesOff ∷ Added (codes "c") ∷ [])) ≡ codes "200 201 409 400 201"
unfolding reply_text digits
collection = refl

all_added : numbered 3 (reply_text (replies.Elements (Added (codes "a") ∷ Added (codes "b") ∷ Added (codes "c") ∷ Added (codes "d") ∷ []))) ≡ codes "3 200 201 201 201 201\n"
unfolding reply_text digits numbered
all_added = refl

none_added : reply_text (replies.Elements []) ≡ codes "200"
unfolding reply_text digits
none_added = refl

evaluated : reply_text (replies.Results (codes "error BadCharacter 4")) ≡ codes "200 error BadCharacter 4"
unfolding reply_text digits
evaluated = refl

a_page : reply_text (replies.Page [] None) ≡ codes "200 " ++ reply_json (replies.Page [] None)
unfolding reply_text shown_text
a_page = refl
