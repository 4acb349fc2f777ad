-- A buffer grows by what a link gives.
use Rattle.std.proofs.Common.{◌≡◌, ◌<◌, ◌≤◌, ℕ, List, [], ◌++◌, length, Option, None, Some, append_assoc, refl, sym, ap, ◌∙◌, subst, IsTrue, IsFalse, Bool, true, false, cond, arith}
use Rattle.std.proofs.lemmas.List.{append-nil, length-append}
use Rattle.std.specs.Io.KnownBytes.{Consumes, IsAtEnd}
use Rattle.http_link.specs.Filling.{Fills, Loses}
use Rattle.http_head.specs.Heads.{NeverHasHead, HasLongHead, IsOpen}
use Rattle.http_serving.specs.declared.end.End.{End}
use Rattle.http_serving.specs.declared.end.End.TheVariants.{Closed, Asked, Spent, Truncated, BadHead, BadFraming, OriginRefused, HeadTooLong, BodyTooLong, LinkFault, Memory}
use Rattle.http_serving.specs.Reading.{Grows, FillsLine, Stops, AllowsEnd, IsFault, unread}

pub consumes_none : (a : Option (List ℕ)) → Consumes a a []
consumes_none None = tt
consumes_none (Some xs) = refl

pub consumes_more : (a b c : Option (List ℕ)) (x y : List ℕ) → Consumes a b x → Consumes b c y → Consumes a c (x ++ y)
consumes_more None b c x y f g = tt
consumes_more (Some xs) None c x y f g = absurd f
consumes_more (Some xs) (Some ys) None x y f g = absurd g
consumes_more (Some xs) (Some ys) (Some zs) x y f g = f ∙ ap (λ w. x ++ w) g ∙ sym (append_assoc x y zs)

nothing_unread : (now : Option (List ℕ)) → IsAtEnd now → unread now ≡ []
nothing_unread None e = refl
nothing_unread (Some xs) e = e

pub grows_none : (a : Option (List ℕ)) (buffer : List ℕ) → Grows a a buffer buffer
grows_none a buffer = record { piece = []; buffer = sym (append-nil buffer); given = consumes_none a }

pub grows_more : {a b c : Option (List ℕ)} {old mid new : List ℕ} → Grows a b old mid → Grows b c mid new → Grows a c old new
grows_more {a} {b} {c} {old} {mid} {new} g f = record {
  piece = g.piece ++ f.piece;
  buffer = f.buffer ∙ ap (λ w. w ++ f.piece) g.buffer ∙ append_assoc old g.piece f.piece;
  given = consumes_more a b c g.piece f.piece g.given f.given;
}

pub grows_fill : {a b c : Option (List ℕ)} {old mid new : List ℕ} {more : Bool} → Grows a b old mid → Fills b c mid new more → Grows a c old new
grows_fill g f = grows_more g (record { piece = f.piece; buffer = f.buffer; given = f.given })

not_false : IsFalse true → ⊥
not_false h = let same : ◌≡◌ {A = ℕ} 1 0 = ap (λ b. cond {A = ℕ} b 1 0) h in omega (arith, same)

not_true : IsTrue false → ⊥
not_true h = let same : ◌≡◌ {A = ℕ} 0 1 = ap (λ b. cond {A = ℕ} b 1 0) h in omega (arith, same)

-- what a fill adds
pub fill_adds : {b c : Option (List ℕ)} {mid new : List ℕ} {more : Bool} → Fills b c mid new more → IsTrue more → length mid < length new
fill_adds {b} {c} {mid} {new} {more} f some = omega (arith, f.some some, ap length f.buffer, length-append mid f.piece)

-- a line was filled, or the end met
pub line_filled : {a b c : Option (List ℕ)} {old mid new : List ℕ} → Grows a b old mid → length old ≤ length mid → Fills b c mid new true → FillsLine a c old new true
line_filled {a} {b} {c} {old} {mid} {new} g le f = record {
  grows = grows_fill g f;
  some = λ _. omega (arith, le, fill_adds f refl);
  none = λ h. absurd (not_false h);
}

pub line_at_end : {a b c : Option (List ℕ)} {old mid new : List ℕ} → Grows a b old mid → Fills b c mid new false → FillsLine a c old new false
line_at_end {a} {b} {c} {old} {mid} {new} g f = record {
  grows = grows_fill g f;
  some = λ h. absurd (not_true h);
  none = λ h. (f.none h).0;
}

pub line_full : {a b : Option (List ℕ)} {old mid : List ℕ} → Grows a b old mid → length old < length mid → FillsLine a b old mid true
line_full {a} {b} {old} {mid} g less = record { grows = g; some = λ _. less; none = λ h. absurd (not_false h) }

-- reading stops at what the buffer has
pub stops_here : {a b : Option (List ℕ)} {old new : List ℕ} (e : End) → Grows a b old new → AllowsEnd (new ++ unread b) e → Stops a b old e
stops_here {a} {b} {old} {new} e g s = record {
  piece = g.piece;
  given = g.given;
  allows = subst (λ w. AllowsEnd (w ++ unread b) e) g.buffer s;
}

-- it stops at the end of the bytes
pub stops_end : {a b : Option (List ℕ)} {old new : List ℕ} (e : End) → Grows a b old new → IsAtEnd b → AllowsEnd new e → Stops a b old e
stops_end {a} {b} {old} {new} e g end s =
    stops_here e g (subst (λ w. AllowsEnd w e) (sym (ap (λ w. new ++ w) (nothing_unread b end) ∙ append-nil new)) s)

-- a fault is allowed at any bytes
pub allows_fault : (e : End) (bytes : List ℕ) → IsFault e → AllowsEnd bytes e
allows_fault Closed bytes h = absurd h
allows_fault Truncated bytes h = absurd h
allows_fault BadHead bytes h = absurd h
allows_fault HeadTooLong bytes h = absurd h
allows_fault BadFraming bytes h = absurd h
allows_fault OriginRefused bytes h = absurd h
allows_fault BodyTooLong bytes h = absurd h
allows_fault LinkFault bytes h = tt
allows_fault Memory bytes h = tt
allows_fault Asked bytes h = h
allows_fault Spent bytes h = h

pub loses_more : {a b c : Option (List ℕ)} {old mid : List ℕ} → Grows a b old mid → Loses b c → Loses a c
loses_more {a} {b} {c} {old} {mid} g lost = record {
  piece = g.piece ++ lost.piece;
  given = consumes_more a b c g.piece lost.piece g.given lost.given;
}

pub stops_fault : {a b c : Option (List ℕ)} {old mid : List ℕ} (e : End) → Grows a b old mid → Loses b c × IsFault e → Stops a c old e
stops_fault {a} {b} {c} {old} {mid} e g (lost, fault) = record {
  piece = g.piece ++ lost.piece;
  given = consumes_more a b c g.piece lost.piece g.given lost.given;
  allows = allows_fault e ((old ++ (g.piece ++ lost.piece)) ++ unread c) fault;
}

-- no byte came, so all that is left is in the buffer
pub same_at_end : {b c : Option (List ℕ)} {mid new : List ℕ} → Fills b c mid new false → new ≡ mid
same_at_end {b} {c} {mid} {new} f = f.buffer ∙ ap (λ w. mid ++ w) (f.none refl).1 ∙ append-nil mid
