-- What a call adds to what its pass has seen.
use Rattle.std.proofs.Common.{◌≡◌, List, [], ◌∷◌, ◌++◌, sym, ap, ◌∙◌, append_assoc}
use Rattle.std.specs.Prelude.{Some}
use mathlib.Core.List.{IsPrefix, map-append}
use Rattle.batch_desk.specs.declared.answer.Answer.{Answer}
use Rattle.batch_desk.specs.declared.entry.Entry.{Entry}
use Rattle.counted_lock.specs.declared.views.Stamped.{Stamped}
use Rattle.counted_lock.specs.Views.{entry_of, stamped}
use Rattle.shared_desk.specs.Openings.{Opening}
use Rattle.shared_desk.specs.Sharing.{Caller, calls_of, Extends}

pub calls_begin : (h g : List (Stamped Entry)) → IsPrefix h g → IsPrefix (calls_of h) (calls_of g)
calls_begin h g p = (calls_of p.0, sym (map-append entry_of h p.0) ∙ ap calls_of p.1)

-- what is then seen is what was seen, other calls, and this call
pub record Adds (p q : Caller) (entry : Entry) : Type 0 where
  pub others : List Entry
  pub place : calls_of q.seen ≡ calls_of p.seen ++ others ++ entry ∷ []

pub adds_later : (p m q : Caller) (entry : Entry) → IsPrefix p.seen m.seen → Adds m q entry → Adds p q entry
adds_later p m q entry begins a = let calls = calls_begin p.seen m.seen begins in record {
  others = calls.0 ++ a.others;
  place = a.place ∙ ap (λ es. es ++ entry ∷ []) (ap (λ es. es ++ a.others) (sym calls.1) ∙ append_assoc (calls_of p.seen) calls.0 a.others);
}

pub adds_entry : (o : Opening) (p q : Caller) (entry : Entry) (answer : Answer) → Extends o p q entry answer → Adds p q entry
adds_entry o p q entry answer x = let calls = calls_begin p.seen x.before x.begins in record {
  others = calls.0;
  place = ap calls_of x.seen ∙ (map-append entry_of x.before (stamped (Some p.number) entry ∷ []) ∙ ap (λ es. es ++ entry ∷ []) (sym calls.1));
}
