-- What a closed desk returns.
use Rattle.std.proofs.Common.{◌≡◌, List, ◌∙◌}
use Rattle.batch_desk.specs.declared.journal.Journal.{Journal}
use Rattle.batch_desk.specs.Kept.{Desk}
use Rattle.counted_lock.specs.Closing.{IsShared}
use Rattle.shared_desk.specs.Sharing.{Caller, IsSharedJournal}

-- the journal of a desk that leaves the lock
pub shared_journal : {K : Type 0} (d : Desk K) (journal : Journal) (passes : List Caller) → IsShared (λ (x : Desk K). x.entries) d passes →
    journal.entries ≡ d.entries → IsSharedJournal journal passes
shared_journal d journal passes shared same = record {
  history = shared.history;
  journal = same ∙ shared.journal;
  seen = shared.seen;
  placed = shared.placed;
  opened = shared.opened;
  distinct = shared.distinct;
  others = shared.others;
}
