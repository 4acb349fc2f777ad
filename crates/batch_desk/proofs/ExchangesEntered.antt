-- A desk's journal over exchanges.
use Rattle.std.proofs.Common.{◌≡◌, ℕ, List, [], ◌∷◌, ◌++◌, Option, append_assoc, append-nil, refl, sym, ap, ◌∙◌, subst, arith}
use Rattle.std.specs.List.{flat_map}
use Rattle.bt_rows.specs.declared.event.EventKind.{EventKind}
use Rattle.batch_model.specs.Variants.{State}
use Rattle.batch_desk.specs.declared.answer.Answer.{Answer}
use Rattle.batch_desk.specs.declared.answer.Answer.TheVariants.{Done, KeeperFault, JournalFull, Memory}
use Rattle.batch_desk.specs.Kept.{Desk}
use Rattle.batch_desk.specs.Answers.{AnswersCall, HasSameOpening, IsInOrder}
use Rattle.batch_desk.specs.Exchanges.{Exchange, Called, Looked, Leads}
use Rattle.batch_desk.specs.Desks.{IsExchange, call_entries, entries_of, LeavesDesk}

module _ {K : Type 0} (told : K → Option State) (faults : K → ℕ) where
  -- a call adds its entries
  call_adds : (old new : Desk K) (moment : ℕ) (event : EventKind) (answer : Answer) → AnswersCall faults old new moment event answer → new.entries ≡ old.entries ++ call_entries moment event answer
  call_adds old new moment event (Done reply dues stop) a = a.0.entries
  call_adds old new moment event KeeperFault a = a.0.entries
  call_adds old new moment event JournalFull a = ap (λ d. d.entries) a.1 ∙ sym (append-nil old.entries)
  call_adds old new moment event Memory a = a.1.entries ∙ sym (append-nil old.entries)

  same_opening : (d : Desk K) → HasSameOpening d d
  same_opening d = record { opened = refl; seats = refl; limit = refl }

  nothing : (d : Desk K) → IsInOrder told faults d → LeavesDesk told faults d d []
  nothing d order = record { entries = sym (append-nil d.entries); same = same_opening d; in_order = order; later = omega arith }

  one : (old new : Desk K) (x : Exchange) → IsInOrder told faults old → IsExchange told faults old x new → LeavesDesk told faults old new (x ∷ [])
  one old new (Called moment event answer) order e = record {
    entries = call_adds old new moment event answer e.answers ∙ ap (λ w. old.entries ++ w) (sym (append-nil (call_entries moment event answer)));
    same = e.same;
    in_order = e.in_order;
    later = e.later;
  }
  one old new (Looked read reply) order e = subst (λ d. LeavesDesk told faults old d (Looked read reply ∷ [])) (sym e.same)
      (record { entries = sym (append-nil old.entries); same = same_opening old; in_order = order; later = omega arith })

  more : (old middle new : Desk K) (x : Exchange) (xs : List Exchange) → LeavesDesk told faults old middle (x ∷ []) → LeavesDesk told faults middle new xs → LeavesDesk told faults old new (x ∷ xs)
  more old middle new x xs first rest = record {
    entries = rest.entries
        ∙ (ap (λ w. w ++ flat_map entries_of xs) (first.entries ∙ ap (λ w. old.entries ++ w) (append-nil (entries_of x)))
        ∙ append_assoc old.entries (entries_of x) (flat_map entries_of xs));
    same = record {
      opened = rest.same.opened ∙ first.same.opened;
      seats = rest.same.seats ∙ first.same.seats;
      limit = rest.same.limit ∙ first.same.limit;
    };
    in_order = rest.in_order;
    later = omega (arith, first.later, rest.later);
  }

  pub leaves_desk : (old new : Desk K) (exchanges : List Exchange) → IsInOrder told faults old → Leads (IsExchange told faults) old exchanges new → LeavesDesk told faults old new exchanges
  leaves_desk old new [] order same = subst (λ d. LeavesDesk told faults old d []) (sym same) (nothing old order)
  leaves_desk old new (x ∷ xs) order (middle, first, rest) =
      let begun = one old middle x order first in
      more old middle new x xs begun (leaves_desk middle new xs begun.in_order rest)
