-- Workers from their passes to the journal.
use Rattle.std.proofs.Common.{◌≡◌, ◌≢◌, ℕ, zero, suc, ◌+◌, ◌<◌, false, List, [], ◌∷◌, length, map, get_or, nat_eq, refl, ap, sym, ◌∙◌, subst, arith}
use Rattle.std.proofs.lemmas.Bool.{or_parts, eqb-false, ne_eqb}
use Rattle.std.specs.List.{list_any}
use mathlib.Core.Logic.{dite}
use native.Mathlib.Decide.{ℕ_discrete}
use Rattle.std.specs.Prelude.{All}
use mathlib.Core.List.{IsPrefix, map-append}
use Rattle.bt_rows.specs.Lists.{AreDistinct}
use Rattle.batch_desk.specs.declared.entry.Entry.{Entry}
use Rattle.batch_desk.specs.declared.journal.Journal.{Journal}
use Rattle.counted_lock.specs.declared.views.Stamped.{Stamped}
use Rattle.counted_lock.specs.Passes.{LockIdentity, IsPassOf, numbers_of}
use Rattle.counted_lock.specs.Views.{places_of, unnumbered, one_if, times_in}
use Rattle.shared_desk.specs.Openings.{Opening}
use Rattle.shared_desk.specs.Sharing.{Caller, calls_of, IsSharedJournal}
use Rattle.batch_serve.specs.declared.worker.Worker.{Worker}
use Rattle.batch_serve.specs.Passes.{AtEach, IsGiven, CanWork, IsSameKind, WorksWithPass, AllServe}

-- what stands of each element stands of each image
all_map : {A B : Type 0} (f : A → B) (P : B → Type 0) (xs : List A) → ((k : ℕ) (d : A) → k < length xs → P (f (get_or xs k d))) → (k : ℕ) (e : B) → k < length (map f xs)
    → P (get_or (map f xs) k e)
all_map f P [] h k e lt = absurd (omega arith)
all_map f P (x ∷ xs) h zero e lt = h 0 x (omega arith)
all_map f P (x ∷ xs) h (suc k) e lt = all_map f P xs (λ j d l. h (suc j) d (omega arith)) k e (omega arith)

-- an image at a place
at_map : {A B : Type 0} (f : A → B) (xs : List A) (k : ℕ) (d : A) (e : B) → k < length xs → get_or (map f xs) k e ≡ f (get_or xs k d)
at_map f [] k d e lt = absurd (omega arith)
at_map f (x ∷ xs) zero d e lt = refl
at_map f (x ∷ xs) (suc k) d e lt = at_map f xs k d e (omega arith)

length_map : {A B : Type 0} (f : A → B) (xs : List A) → length (map f xs) ≡ length xs
length_map f [] = refl
length_map f (x ∷ xs) = ap (λ (n : ℕ). suc n) (length_map f xs)

prefix_map : {A B : Type 0} (f : A → B) (xs ys : List A) → IsPrefix xs ys → IsPrefix (map f xs) (map f ys)
prefix_map f xs ys p = (map f p.0, sym (map-append f xs p.0) ∙ ap (map f) p.1)

-- what begins a history without numbers, if it begins the history
pub stands_in : (seen history : List (Stamped Entry)) (entries : List Entry) → entries ≡ calls_of history → IsPrefix seen history
    → IsPrefix (calls_of seen) entries
stands_in seen history entries is begins = subst (λ (es : List Entry). IsPrefix (calls_of seen) es) (sym is) (prefix_map _ seen history begins)

-- a number that no place of a list has is not in it
not_in : (n : ℕ) (ms : List ℕ) → ((k e : ℕ) → k < length ms → get_or ms k e ≢ n) → times_in n ms ≡ 0
not_in n [] differ = refl
not_in n (m ∷ ms) differ = let first : m ≢ n = differ 0 m (omega arith) in
    ap (λ b. one_if b + times_in n ms) (ne_eqb m n first)
    ∙ ap (λ (t : ℕ). 0 + t) (not_in n ms (λ k e lt. differ (suc k) e (omega arith)))

-- a number that is none of a list is at no place of it
differs : (n : ℕ) (ms : List ℕ) → list_any (nat_eq n) ms ≡ false → (k e : ℕ) → k < length ms → get_or ms k e ≢ n
differs n [] none k e lt = absurd (omega arith)
differs n (m ∷ ms) none zero e lt = λ (s : m ≡ n). eqb-false n m ((or_parts (nat_eq n m) (list_any (nat_eq n) ms) none).0) (sym s)
differs n (m ∷ ms) none (suc k) e lt = differs n ms ((or_parts (nat_eq n m) (list_any (nat_eq n) ms) none).1) k e (omega arith)

module _ {W : Type 0} (desk : LockIdentity Opening) where
  -- workers that were given passes can work, if they could before
  pub can_all : (can : W → Type 0) (old given : List (Worker W)) → AtEach (IsGiven desk) old given → All (λ w. can w.kind) old → All (CanWork can desk) given
  can_all can old given gives ready k d lt =
      let count = gives.count in let inside : k < length old = omega arith in let one = gives.each k d inside in
      record { pass = one.pass; ready = subst can (sym one.kind) (ready k d inside) }

  -- the next pass and those of the workers are passes of the desk
  pub passes_all : (next : Caller) (workers : List (Worker W)) → IsPassOf desk next → ((k : ℕ) (d : Worker W) → k < length workers → IsPassOf desk (get_or workers k d).pass)
      → All (IsPassOf desk) (next ∷ map (λ w. w.pass) workers)
  passes_all next workers p ps zero d lt = p
  passes_all next workers p ps (suc k) d lt = all_map (λ (w : Worker W). w.pass) (IsPassOf desk) workers ps k d (omega arith)

  module _ (worked : LockIdentity Opening → Caller → W → Caller → W → Type 0) (journal : Journal) (next : Caller) (old given ended new : List (Worker W)) where
    -- a number that no worker had is the number of no pass but the next one
    no_other : length ended ≡ length given
        → ((k : ℕ) (d : Worker W) → k < length given → WorksWithPass worked desk (get_or given k d) (get_or ended k d))
        → (n : ℕ) → list_any (nat_eq n) (map (λ w. w.pass.number) given) ≡ false → next.number ≢ n → times_in n (numbers_of (next ∷ map (λ w. w.pass) ended)) ≡ 0
    no_other same works n none ne =
        let far = length_map (λ (w : Worker W). w.pass.number) given in
        let workers = (λ (k : ℕ) (d : Worker W) (lt : k < length ended) (s : (get_or ended k d).pass.number ≡ n).
        let inside : k < length given = omega arith in
        differs n (map (λ w. w.pass.number) given) none k 0 (omega arith)
        (at_map (λ (w : Worker W). w.pass.number) given k d 0 inside ∙ (sym (works k d inside).number ∙ s))) in
        let passes = map (λ (w : Worker W). w.pass) ended in
        let each = all_map (λ (w : Worker W). w.pass) (λ (p : Caller). p.number ≢ n) ended workers in
        let rest = not_in n (numbers_of passes) (all_map (λ (p : Caller). p.number) (λ (m : ℕ). m ≢ n) passes each) in
        ap (λ b. one_if b + times_in n (numbers_of passes)) (ne_eqb next.number n ne) ∙ ap (λ (t : ℕ). 0 + t) rest

    -- what each worker did stands in the journal
    pub serves_all : AtEach (IsGiven desk) old given → AreDistinct nat_eq (map (λ w. w.pass.number) given) → length ended ≡ length given
        → ((k : ℕ) (d : Worker W) → k < length given → WorksWithPass worked desk (get_or given k d) (get_or ended k d))
        → AtEach IsSameKind ended new → places_of next.number next.seen ≡ [] → unnumbered next.seen ≡ [] → IsSharedJournal journal (next ∷ map (λ w. w.pass) ended)
        → AllServe worked desk journal.entries old new
    serves_all gives distinct same works takes unused none_opened shared = record {
      history = shared.history;
      journal = shared.journal;
      numbers = map (λ w. w.pass.number) given;
      distinct = distinct;
      numbered = length_map (λ (w : Worker W). w.pass.number) given ∙ gives.count;
      count = takes.count ∙ (same ∙ gives.count);
      each = λ k d lt.
          let few = gives.count in let inside : k < length given = omega arith in let within : k < length ended = omega arith in
          let one = gives.each k d lt in let work = works k d inside in let took = takes.each k d within in
          let before = (get_or given k d).pass in let after = (get_or ended k d).pass in
          let long = length_map (λ (w : Worker W). w.pass) ended in
          let is = at_map (λ (w : Worker W). w.pass) ended k d next within in
          let seen = subst (λ (p : Caller). IsPrefix p.seen shared.history) is (shared.seen (suc k) next (omega arith)) in
          let placed = subst (λ (p : Caller). places_of p.number shared.history ≡ places_of p.number p.seen) is (shared.placed (suc k) next (omega arith)) in
          let numbered = sym (at_map (λ (w : Worker W). w.pass.number) given k d 0 inside) in
          record {
            before = before;
            after = after;
            given = one.pass;
            numbered = numbered;
            same = work.number ∙ numbered;
            fresh = one.fresh;
            work = subst (λ v. worked desk before v after (get_or new k d).kind) one.kind
                (subst (λ v. worked desk before (get_or given k d).kind after v) (sym took) work.work);
            stands = seen;
            placed = subst (λ (n : ℕ). places_of n shared.history ≡ places_of n after.seen) (work.number ∙ numbered) placed;
          };
      others = λ n none. dite (ℕ_discrete next.number n)
          (λ (s : next.number ≡ n). subst (λ (m : ℕ). places_of m shared.history ≡ []) s (shared.placed 0 next (omega arith) ∙ unused))
          (λ (ne : next.number ≢ n). shared.others n (no_other same works n none ne));
      opened = shared.opened 0 next (omega arith) ∙ none_opened;
    }
