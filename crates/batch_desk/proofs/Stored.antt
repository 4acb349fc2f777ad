-- A call that is pushed is the last entry, and those before it stay.
use Rattle.std.proofs.Common.{◌≡◌, ◌+◌, ◌<◌, ℕ, suc, List, [], ◌∷◌, ◌++◌, length, get_or, Some, None, refl, ap, ◌∙◌, arith}
use Rattle.std.proofs.lemmas.List.{get_or_append_left, map-append}
use Rattle.bt_rows.specs.declared.refusal.Refusal.{Refusal}
use Rattle.bt_rows.specs.declared.refusal.Refusal.TheVariants.{UnreadableBody}
use Rattle.batch_desk.specs.declared.entries.Outcome.{Outcome}
use Rattle.batch_desk.specs.declared.entries.Outcome.TheVariants.{Made, Refused, KeeperFault as LeftUndone}
use Rattle.batch_desk.specs.declared.entries.StoredCall.{StoredCall}
use Rattle.batch_desk.specs.declared.entry.Entry.{Entry}
use Rattle.batch_desk.specs.declared.entry.Mark.{Mark}
use Rattle.batch_desk.specs.declared.entry.Mark.TheVariants.{Done, KeeperFault as NotKept}
use Rattle.batch_desk.specs.History.{fault_count}
use Rattle.batch_desk.specs.Entries.{HasRefusal, HaveRefusals, entries_of, faults_at, faults_in, mark_of, outcome_of, refusals_in, stored_entry}

-- the call that the entry is stored as, after so many refusals
abbrev pub call_of : ℕ → Entry → StoredCall
call_of count e = record { moment = e.moment; event = e.event; dues = e.dues; refusal = count; outcome = outcome_of e.mark; stop = e.stop }

-- what became of a call does not change with more refusals
mark_more : (refusals more : List Refusal) (outcome : Outcome) (at : ℕ) → (outcome ≡ Refused → at < length refusals) →
    mark_of outcome (get_or (refusals ++ more) at UnreadableBody) ≡ mark_of outcome (get_or refusals at UnreadableBody)
mark_more refusals more Made at there = refl
mark_more refusals more Refused at there = ap (λ r. Done (Some r)) (get_or_append_left refusals more UnreadableBody at (there refl))
mark_more refusals more LeftUndone at there = refl

entry_more : (refusals more : List Refusal) (call : StoredCall) → HasRefusal (length refusals) call →
    stored_entry (refusals ++ more) call ≡ stored_entry refusals call
entry_more refusals more call has =
    ap (λ (m : Mark). record { moment = call.moment; event = call.event; mark = m; dues = call.dues; stop = call.stop })
    (mark_more refusals more call.outcome call.refusal has.there)

entries_more : (refusals more : List Refusal) (calls : List StoredCall) → HaveRefusals refusals calls →
    entries_of (refusals ++ more) calls ≡ entries_of refusals calls
entries_more refusals more [] have = refl
entries_more refusals more (call ∷ calls) have =
    rw (entry_more refusals more call (have 0 call (omega arith)), entries_more refusals more calls (λ k d lt. have (suc k) d (omega (arith, lt)))) refl

-- the mark of the call that is pushed
mark_pushed : (refusals : List Refusal) (mark : Mark) →
    mark_of (outcome_of mark) (get_or (refusals ++ refusals_in mark) (length refusals) UnreadableBody) ≡ mark
mark_pushed refusals (Done None) = refl
mark_pushed refusals (Done (Some refusal)) = ap (λ r. Done (Some r)) (get_or-pushed refusals refusal)
  where
    get_or-pushed : (rs : List Refusal) (r : Refusal) → get_or (rs ++ r ∷ []) (length rs) UnreadableBody ≡ r
    get_or-pushed [] r = refl
    get_or-pushed (x ∷ rs) r = get_or-pushed rs r
mark_pushed refusals NotKept = refl

entry_pushed : (refusals : List Refusal) (e : Entry) → stored_entry (refusals ++ refusals_in e.mark) (call_of (length refusals) e) ≡ e
entry_pushed refusals e = ap (λ (m : Mark). record { moment = e.moment; event = e.event; mark = m; dues = e.dues; stop = e.stop })
    (mark_pushed refusals e.mark)

-- the entry is the last one
pub entries_pushed : (refusals : List Refusal) (calls : List StoredCall) (count : ℕ) (e : Entry) → count ≡ length refusals →
    HaveRefusals refusals calls →
    entries_of (refusals ++ refusals_in e.mark) (calls ++ call_of count e ∷ []) ≡ entries_of refusals calls ++ e ∷ []
entries_pushed refusals calls count e is have =
    rw is (map-append (stored_entry (refusals ++ refusals_in e.mark)) calls (call_of (length refusals) e ∷ [])
    ∙ rw (entries_more refusals (refusals_in e.mark) calls have, entry_pushed refusals e) refl)

-- the faults of the entries are those of the stored calls
pub faults_stored : (refusals : List Refusal) (calls : List StoredCall) → fault_count (entries_of refusals calls) ≡ faults_in calls
faults_stored refusals [] = refl
faults_stored refusals (call ∷ calls) = ap (λ n. faults_at call + n) (faults_stored refusals calls)
