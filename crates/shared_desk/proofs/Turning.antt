-- What a pass sees in its turn.
use Rattle.std.proofs.Common.{◌≡◌, ℕ, List, [], ◌∷◌, ◌++◌, Option, length, refl, ap, sym, ◌∙◌, subst, eq-eqb}
use Rattle.std.specs.Prelude.{Some, Result, IfOk}
use mathlib.Core.List.{IsPrefix, map-append}
use Rattle.bt_base.specs.declared.memory.NoMemory.{NoMemory}
use Rattle.bt_rows.specs.declared.reply.Reply.{Reply}
use Rattle.bt_rows.specs.declared.reply.QueuedRun.{QueuedRun}
use Rattle.batch_model.specs.Variants.{State}
use Rattle.table_reads.specs.declared.request.Read.{Read}
use Rattle.table_reads.specs.Reads.{read_reply}
use Rattle.run_index.specs.Seats.{asked_runs}
use Rattle.child_words.specs.Queued.{queued_at}
use Rattle.batch_desk.specs.declared.answer.Answer.{Answer}
use Rattle.batch_desk.specs.declared.entry.Entry.{Entry}
use Rattle.batch_desk.specs.Kept.{Desk}
use Rattle.batch_desk.specs.History.{IsLegal, after_all}
use Rattle.batch_desk.specs.Answers.{entry_answer, Enters, HasSameOpening, IsInOrder}
use Rattle.counted_lock.specs.declared.views.Stamped.{Stamped}
use Rattle.counted_lock.specs.Views.{places_of, unnumbered, entry_of, stamped}
use Rattle.counted_lock.proofs.Places.{places_last, unnumbered_same}
use Rattle.shared_desk.specs.Openings.{Opening, opening_of}
use Rattle.shared_desk.specs.Sharing.{Caller, calls_of, tables_after, IsLegalFrom, Extends, SeesLegal, Looks, LooksAt, LooksAsked}
use Rattle.shared_desk.specs.Turns.{HasTurn}

module _ {K : Type 0} (told : K → Option State) (faults : K → ℕ) (o : Opening) where
  -- the journal of a desk is a legal history
  legal_seen : (d : Desk K) (h : List (Stamped Entry)) → IsInOrder told faults d → opening_of d ≡ o → d.entries ≡ calls_of h → IsLegalFrom o h
  legal_seen d h order from is = subst (λ (z : List Entry). IsLegal o.seats o.opened z) is
      (subst (λ (z : Opening). IsLegal z.seats z.opened d.entries) from order.legal)

  -- its tables are those after it
  tables_seen : (d : Desk K) (h : List (Stamped Entry)) → IsInOrder told faults d → opening_of d ≡ o → d.entries ≡ calls_of h →
      d.state ≡ tables_after o h
  tables_seen d h order from is = order.state ∙ (ap (λ (z : Opening). after_all z.seats z.opened d.entries) from ∙ ap (after_all o.seats o.opened) is)

  -- a pass that has the turn of a desk in order
  pub has_turn : (p h : Caller) (d : Desk K) → h.number ≡ p.number → IsPrefix p.seen h.seen → places_of p.number h.seen ≡ places_of p.number p.seen →
      unnumbered h.seen ≡ unnumbered p.seen → d.entries ≡ calls_of h.seen → opening_of d ≡ o → IsInOrder told faults d → HasTurn told faults o p h d
  has_turn p h d same begins placed opened journal from order = record {
    number = same;
    sees = record { more = record { number = same; begins = begins; places = placed; opened = opened }; legal = legal_seen d h.seen order from journal };
    journal = journal;
    opening = from;
    state = tables_seen d h.seen order from journal;
    in_order = order;
  }

  -- the journal after a call that was entered in the turn
  pub journal_after : (p h : Caller) (d after : Desk K) (e : Entry) (answer : Answer) → HasTurn told faults o p h d → Enters d after e answer →
      after.entries ≡ calls_of h.seen ++ e ∷ []
  journal_after p h d after e answer turn enters = enters.entries ∙ ap (λ (z : List Entry). z ++ e ∷ []) turn.journal

  -- a call that was entered in the turn
  pub extends : (p h q : Caller) (d after : Desk K) (e : Entry) (answer : Answer) → HasTurn told faults o p h d → Enters d after e answer →
      HasSameOpening d after → IsInOrder told faults after → q.number ≡ h.number →
      ((x : Entry) → after.entries ≡ calls_of h.seen ++ x ∷ [] → q.seen ≡ h.seen ++ stamped (Some h.number) x ∷ []) → Extends o p q e answer
  extends p h q d after e answer turn enters same order numbered entered =
      let journal = journal_after p h d after e answer turn enters in
      let now : q.seen ≡ h.seen ++ stamped (Some p.number) e ∷ [] =
      entered e journal ∙ ap (λ (n : ℕ). h.seen ++ stamped (Some n) e ∷ []) turn.number in
      let calls : calls_of q.seen ≡ calls_of h.seen ++ e ∷ [] = ap calls_of now ∙ map-append entry_of h.seen (stamped (Some p.number) e ∷ []) in
      let opening : opening_of after ≡ o = same_opening same ∙ turn.opening in
      record {
        number = numbered ∙ turn.number;
        before = h.seen;
        begins = turn.sees.more.begins;
        seen = now;
        legal = legal_seen after q.seen order opening (journal ∙ sym calls);
        shown = enters.shown ∙ (ap (λ (z : Opening). entry_answer z.seats d.state e) turn.opening ∙ ap (λ (s : State). entry_answer o.seats s e) turn.state);
        places = ap (places_of p.number) now
            ∙ (places_last p.number h.seen (stamped (Some p.number) e) (eq-eqb p.number p.number refl)
            ∙ ap (λ (z : List ℕ). z ++ length h.seen ∷ []) turn.sees.more.places);
        opened = ap unnumbered now ∙ (unnumbered_same h.seen (stamped (Some p.number) e) p.number refl ∙ turn.sees.more.opened);
      }
    where
      same_opening : HasSameOpening d after → opening_of after ≡ opening_of d
      same_opening s = ap (λ (z : State). opening z after.seats after.limit) s.opened
          ∙ (ap (λ (z : ℕ). opening d.opened z after.limit) s.seats ∙ ap (λ (z : ℕ). opening d.opened d.seats z) s.limit)
        where
          opening : State → ℕ → ℕ → Opening
          opening a b c = record { opened = a; seats = b; limit = c }

  -- a pass whose turn ended without a call
  pub sees_same : (p h q : Caller) → SeesLegal o p h → q.number ≡ h.number → q.seen ≡ h.seen → SeesLegal o p q
  sees_same p h q sees numbered same = record {
    more = record {
      number = numbered ∙ sees.more.number;
      begins = subst (λ xs. IsPrefix p.seen xs) (sym same) sees.more.begins;
      places = ap (places_of p.number) same ∙ sees.more.places;
      opened = ap unnumbered same ∙ sees.more.opened;
    };
    legal = subst (IsLegalFrom o) (sym same) sees.legal;
  }

  -- a read of the tables in the turn
  pub looks : (p h q : Caller) (d : Desk K) (s : State) (read : Read) (reply : Result Reply NoMemory) → HasTurn told faults o p h d →
      q.number ≡ h.number → q.seen ≡ h.seen → s ≡ d.state → IfOk reply (λ shows. shows ≡ read_reply s read) → Looks o p q read reply
  looks p h q d s read reply turn numbered same state shown = record {
    sees = sees_same p h q turn.sees numbered same;
    shown = subst (λ (z : State). IfOk reply (λ shows. shows ≡ read_reply z read)) (state ∙ (turn.state ∙ sym (ap (tables_after o) same))) shown;
  }

  -- the tables in the turn are those after what is then seen
  pub state_seen : (p h q : Caller) (d : Desk K) (s : State) → HasTurn told faults o p h d → q.seen ≡ h.seen → s ≡ d.state → s ≡ tables_after o q.seen
  state_seen p h q d s turn same state = state ∙ (turn.state ∙ sym (ap (tables_after o) same))

  -- a look at a seat in the turn
  pub looks_at : (p h q : Caller) (d : Desk K) (s : State) (seat : ℕ) (run : Result (Option QueuedRun) NoMemory) → HasTurn told faults o p h d →
      q.number ≡ h.number → q.seen ≡ h.seen → s ≡ d.state → IfOk run (λ shows. shows ≡ queued_at s seat) → LooksAt o p q seat run
  looks_at p h q d s seat run turn numbered same state shown = record {
    sees = sees_same p h q turn.sees numbered same;
    shown = subst (λ (z : State). IfOk run (λ shows. shows ≡ queued_at z seat)) (state_seen p h q d s turn same state) shown;
  }

  -- a look at the runs that are asked to stop, in the turn
  pub looks_asked : (p h q : Caller) (d : Desk K) (s : State) (numbers : Result (List ℕ) NoMemory) → HasTurn told faults o p h d →
      q.number ≡ h.number → q.seen ≡ h.seen → s ≡ d.state → IfOk numbers (λ shows. shows ≡ asked_runs s) → LooksAsked o p q numbers
  looks_asked p h q d s numbers turn numbered same state shown = record {
    sees = sees_same p h q turn.sees numbered same;
    shown = subst (λ (z : State). IfOk numbers (λ shows. shows ≡ asked_runs z)) (state_seen p h q d s turn same state) shown;
  }
