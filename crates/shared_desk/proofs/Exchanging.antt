-- What exchanges leave of an asker.
use Rattle.std.proofs.Common.{◌≡◌, ℕ, ◌<◌, List, [], ◌∷◌, ◌++◌, length, append_assoc, append-nil, length-append, refl, sym, ap, ◌∙◌, subst, arith}
use Rattle.std.proofs.Math.ListN.{get_or-append}
use Rattle.std.proofs.Math.Seq.{get_or-append_seam}
use Rattle.std.proofs.lemmas.Option.{slice_get_within, get_or_from_slice_get, slice_get-get_or}
use Rattle.std.specs.Prelude.{Some, slice_get}
use Rattle.std.specs.List.{flat_map}
use mathlib.Core.List.{IsPrefix}
use Rattle.bt_rows.specs.declared.event.EventKind.{EventKind}
use Rattle.batch_desk.specs.declared.answer.Answer.{Answer}
use Rattle.batch_desk.specs.declared.answer.Answer.TheVariants.{Done, KeeperFault, JournalFull, Memory}
use Rattle.batch_desk.specs.declared.entry.Entry.{Entry}
use Rattle.batch_desk.specs.History.{done_entry, fault_entry}
use Rattle.batch_desk.specs.Exchanges.{Exchange, Called, Looked, Leads}
use Rattle.batch_desk.specs.Desks.{entries_of, call_entries}
use Rattle.counted_lock.specs.declared.views.Stamped.{Stamped}
use Rattle.counted_lock.specs.Views.{places_of, stamped}
use Rattle.counted_lock.proofs.Prefixes.{prefix_self, prefix_trans, prefix_more}
use Rattle.shared_desk.specs.Sharing.{Asked, SeesMore, Extends}
use Rattle.shared_desk.specs.Askers.{AskerState, IsSameAsker, IsSharedExchange, StandAt, LeavesAsker}

-- an element of a list stays where it is as the list grows
get_more : {A : Type 0} (xs ys : List A) (k : ℕ) (x : A) → IsPrefix xs ys → slice_get xs k ≡ Some x → slice_get ys k ≡ Some x
get_more xs ys k x p at =
    let inside = slice_get_within xs k x at in
    let longer : k < length (xs ++ p.0) = omega (arith, length-append xs p.0) in
    subst (λ zs. slice_get zs k ≡ Some x) p.1
    (slice_get-get_or (xs ++ p.0) k x longer ∙ ap Some (get_or-append xs p.0 x k inside ∙ get_or_from_slice_get xs k x x at))

-- the last element of a list
get_last : {A : Type 0} (xs : List A) (x : A) → slice_get (xs ++ x ∷ []) (length xs) ≡ Some x
get_last xs x =
    let inside : length xs < length (xs ++ x ∷ []) = omega (arith, length-append xs (x ∷ [])) in
    slice_get-get_or (xs ++ x ∷ []) (length xs) x inside ∙ ap Some (get_or-append_seam xs x [] x)

-- calls stay at their places as the history grows
stand_more : (n : ℕ) (h later : List (Stamped Entry)) (ks : List ℕ) (es : List Entry) → IsPrefix h later → StandAt n h ks es → StandAt n later ks es
stand_more n h later [] [] p s = tt
stand_more n h later [] (e ∷ es) p s = s
stand_more n h later (k ∷ ks) [] p s = s
stand_more n h later (k ∷ ks) (e ∷ es) p s = (get_more h later k (stamped (Some n) e) p s.0, stand_more n h later ks es p s.1)

-- calls at some places, and calls at others
stand_append : (n : ℕ) (h : List (Stamped Entry)) (ks ls : List ℕ) (es fs : List Entry) → StandAt n h ks es → StandAt n h ls fs →
    StandAt n h (ks ++ ls) (es ++ fs)
stand_append n h [] ls [] fs s t = t
stand_append n h [] ls (e ∷ es) fs s t = absurd s
stand_append n h (k ∷ ks) ls [] fs s t = absurd s
stand_append n h (k ∷ ks) ls (e ∷ es) fs s t = (s.0, stand_append n h ks ls es fs s.1 t)

-- an exchange that adds no call
adds_none : (old new : AskerState) (x : Exchange) → entries_of x ≡ [] → IsSameAsker old new → SeesMore old.pass new.pass → LeavesAsker old new (x ∷ [])
adds_none old new x none same more = record {
  same = same;
  begins = more.begins;
  added = [];
  places = more.places ∙ sym (append-nil (places_of old.pass.number old.pass.seen));
  calls = subst (λ es. StandAt old.pass.number new.pass.seen [] (es ++ [])) (sym none) tt;
  opened = more.opened;
}

-- a call that adds its entry
adds_one : (old new : AskerState) (moment : ℕ) (event : EventKind) (answer : Answer) (e : Entry) → call_entries moment event answer ≡ e ∷ [] →
    IsSameAsker old new → Extends old.desk.origin old.pass new.pass e answer → LeavesAsker old new (Called moment event answer ∷ [])
adds_one old new moment event answer e one same extends = record {
  same = same;
  begins = subst (λ h. IsPrefix old.pass.seen h) (sym extends.seen)
      (prefix_more old.pass.seen extends.before (stamped (Some old.pass.number) e ∷ []) extends.begins);
  added = length extends.before ∷ [];
  places = extends.places;
  calls = subst (λ es. StandAt old.pass.number new.pass.seen (length extends.before ∷ []) (es ++ [])) (sym one) (
    subst (λ h. slice_get h (length extends.before) ≡ Some (stamped (Some old.pass.number) e)) (sym extends.seen)
        (get_last extends.before (stamped (Some old.pass.number) e)),
    tt,
  );
  opened = extends.opened;
}

-- a call
called : (old new : AskerState) (moment : ℕ) (event : EventKind) (answer : Answer) → IsSameAsker old new →
    Asked old.desk.origin old.pass new.pass moment event answer → LeavesAsker old new (Called moment event answer ∷ [])
called old new moment event (Done reply dues stop) same a =
    adds_one old new moment event (Done reply dues stop) (done_entry moment event reply (length dues) stop) refl same a
called old new moment event KeeperFault same a = adds_one old new moment event KeeperFault (fault_entry moment event) refl same a
called old new moment event JournalFull same a = adds_none old new (Called moment event JournalFull) refl same a.0
called old new moment event Memory same a = adds_none old new (Called moment event Memory) refl same a

-- one exchange
one : (old new : AskerState) (x : Exchange) → IsSharedExchange old x new → LeavesAsker old new (x ∷ [])
one old new (Called moment event answer) e = called old new moment event answer e.0 e.1
one old new (Looked read reply) e = adds_none old new (Looked read reply) refl e.0 e.1.sees.more

-- no exchange
nothing : (a : AskerState) → LeavesAsker a a []
nothing a = record {
  same = record { desk = refl; number = refl };
  begins = prefix_self a.pass.seen;
  added = [];
  places = sym (append-nil (places_of a.pass.number a.pass.seen));
  calls = tt;
  opened = refl;
}

-- an exchange, and then others
more : (old middle new : AskerState) (x : Exchange) (xs : List Exchange) → LeavesAsker old middle (x ∷ []) → LeavesAsker middle new xs →
    LeavesAsker old new (x ∷ xs)
more old middle new x xs first rest =
    let n = old.pass.number in
    let calls : StandAt n middle.pass.seen first.added (entries_of x) =
    subst (λ es. StandAt n middle.pass.seen first.added es) (append-nil (entries_of x)) first.calls in
    let later : StandAt n new.pass.seen rest.added (flat_map entries_of xs) =
    subst (λ k. StandAt k new.pass.seen rest.added (flat_map entries_of xs)) first.same.number rest.calls in
    let places : places_of n new.pass.seen ≡ places_of n middle.pass.seen ++ rest.added =
    subst (λ k. places_of k new.pass.seen ≡ places_of k middle.pass.seen ++ rest.added) first.same.number rest.places in
    record {
      same = record { desk = rest.same.desk ∙ first.same.desk; number = rest.same.number ∙ first.same.number };
      begins = prefix_trans old.pass.seen middle.pass.seen new.pass.seen first.begins rest.begins;
      added = first.added ++ rest.added;
      places = places ∙ (ap (λ z. z ++ rest.added) first.places ∙ append_assoc (places_of n old.pass.seen) first.added rest.added);
      calls = stand_append n new.pass.seen first.added rest.added (entries_of x) (flat_map entries_of xs)
          (stand_more n middle.pass.seen new.pass.seen first.added (entries_of x) rest.begins calls) later;
      opened = rest.opened ∙ first.opened;
    }

-- all exchanges
pub leaves_asker : (old new : AskerState) (exchanges : List Exchange) → Leads IsSharedExchange old exchanges new → LeavesAsker old new exchanges
leaves_asker old new [] same = subst (λ a. LeavesAsker old a []) (sym same) (nothing old)
leaves_asker old new (x ∷ xs) (middle, first, rest) = more old middle new x xs (one old middle x first) (leaves_asker middle new xs rest)
