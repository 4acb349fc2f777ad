-- A desk that has just been opened is in order.
use Rattle.std.proofs.Common.{◌≡◌, ◌<◌, ◌^◌, ℕ, List, [], Option, arith}
use Rattle.batch_model.specs.Sound.{IsSound}
use Rattle.batch_model.specs.Variants.{State}
use Rattle.batch_desk.specs.declared.entry.Entry.{Entry}
use Rattle.batch_desk.specs.Answers.{IsInOrder}
use Rattle.batch_desk.specs.History.{IsLegal}
use Rattle.batch_desk.specs.Kept.{SavedMachine, Tells}
use Rattle.batch_desk.proofs.LawsHold.{laws_kept}

-- without entries, over sound tables that its keeper tells
pub in_order_opened : {K : Type 0} (told : K → Option State) (faults : K → ℕ) (saved : SavedMachine K) (start : State) (count most : ℕ)
    (journal : List Entry) → saved.seats ≡ count → saved.state ≡ start → journal ≡ [] → IsSound count start → Tells (told saved.keeper) start →
    most < 2 ^ 32 → IsInOrder told faults (record {
      keeper = saved.keeper;
      state = saved.state;
      opened = start;
      seats = saved.seats;
      limit = most;
      entries =
          journal;
    })
in_order_opened told faults saved start count most journal seats_are state_is none sound kept small =
    let begun : IsSound saved.seats start = rw seats_are sound in
    let legal : IsLegal saved.seats start journal = rw none tt in
    record {
      begun = begun;
      legal = legal;
      laws = laws_kept saved.seats start journal begun legal;
      state = rw none state_is;
      kept = rw state_is kept;
      counted = rw none (omega arith);
      within = rw none (omega arith);
      limit = small;
    }
