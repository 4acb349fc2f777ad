-- What the table has no fault of is read as one list of statements, and that is what the parser has.
use Rattle.std.proofs.Common.{◌≡◌, ℕ, Bool, true, false, List, [], ◌∷◌, ◌++◌, Option, Some, None, Result, Ok, Err, cond, refl, sym, ap, ◌∙◌, subst}
use Rattle.std.proofs.Common.{append_assoc, append-nil}
use Rattle.std.specs.Prelude.{nat_lt}
use Rattle.std.proofs.lemmas.Option.{same_Some}
use Rattle.formula_trees.specs.Spans.{span_of}
use Rattle.formula_trees.specs.declared.token.Token.{Token}
use Rattle.formula_trees.specs.declared.fault.TheConstants.{DEEPEST}
use Rattle.formula_trees.specs.declared.fault.SyntaxFault.{SyntaxFault}
use Rattle.formula_trees.specs.Formula.{StatementTree}
use Rattle.formula_trees.specs.TheFormula.{IsTheFormula, fault_in}
use Rattle.formula_syntax.specs.Whole.{Whole, Between, finished, step_whole, depth_in, at_end, on_token, parsed, and_run_whole, run_whole}
use Rattle.formula_syntax.proofs.ReachesFormula.{ReachesFormula, reaches_formula}
use Rattle.formula_syntax.proofs.StandsFormula.{HoldsWhole, between, no_steps, whole_as, holds_step_whole, read_formula}
use Rattle.formula_syntax.proofs.Agrees.{fault_of, fault_same}

record Runs (xs : List Token) (w : Whole) (ss : List StatementTree) : Type 0 where
  whole : Whole
  runs : run_whole xs w ≡ Some whole
  ends : finished whole ≡ Some ss

at_end_ok : (end : ℕ) (o : Option (List StatementTree)) (ss : List StatementTree) → at_end end o ≡ Ok ss → o ≡ Some ss
at_end_ok end None ss e = cc
at_end_ok end (Some x) ss e = cc

cond_ok : (b : Bool) (f : SyntaxFault) (r : Result (List StatementTree) SyntaxFault) (ss : List StatementTree) → cond b (Err f) r ≡ Ok ss → r ≡ Ok ss
cond_ok true f r ss e = cc
cond_ok false f r ss e = e

record Takes (o : Option Whole) (xs : List Token) (ss : List StatementTree) : Type 0 where
  whole : Whole
  runs : and_run_whole o (run_whole xs) ≡ Some whole
  ends : finished whole ≡ Some ss

taken_ok : (o : Option Whole) (p end : ℕ) (xs : List Token) (ss : List StatementTree) → ((w : Whole) → parsed end xs w ≡ Ok ss → Runs xs w ss) →
    on_token p (parsed end xs) o ≡ Ok ss → Takes o xs ss
taken_ok None p end xs ss h e = cc
taken_ok (Some w) p end xs ss h e = let a = h w (cond_ok (nat_lt DEEPEST (depth_in w)) _ _ ss e) in record { whole = a.whole; runs = a.runs; ends = a.ends }

parsed_ok : (xs : List Token) (end : ℕ) (w : Whole) (ss : List StatementTree) → parsed end xs w ≡ Ok ss → Runs xs w ss
parsed_ok [] end w ss e = record { whole = w; runs = refl; ends = at_end_ok end (finished w) ss e }
parsed_ok (x ∷ xs) end w ss e = let a = taken_ok (step_whole w x.kind (span_of x)) x.from end xs ss (λ v f. parsed_ok xs end v ss f) e in
    record { whole = a.whole; runs = a.runs; ends = a.ends }

holds_by : (o : Option Whole) (xs ts : List Token) (r : Whole) → ((w : Whole) → o ≡ Some w → run_whole xs w ≡ Some r → HoldsWhole r ts) →
    and_run_whole o (run_whole xs) ≡ Some r → HoldsWhole r ts
holds_by None xs ts r h e = cc
holds_by (Some w) xs ts r h e = h w refl e

holds_run_whole : (xs ts : List Token) (w r : Whole) → HoldsWhole w ts → run_whole xs w ≡ Some r → HoldsWhole r (ts ++ xs)
holds_run_whole [] ts w r h e = whole_as r ts _ (sym (append-nil ts)) (subst (λ (v : Whole). HoldsWhole v ts) (same_Some _ _ e) h)
holds_run_whole (x ∷ xs) ts w r h e =
    holds_by (step_whole w x.kind (span_of x)) xs _ r
    (λ v f g. whole_as r ((ts ++ x ∷ []) ++ xs) _ (append_assoc ts (x ∷ []) xs)
    (holds_run_whole xs (ts ++ x ∷ []) v r (holds_step_whole h x.kind (span_of x) v f) g))
    e

only_by : (xs : List Token) (ss other : List StatementTree) → Runs xs (Between []) ss → ReachesFormula xs other [] → other ≡ ss
only_by xs ss other a b =
    let e : a.whole ≡ b.whole = same_Some _ _ (sym a.runs ∙ b.runs) in
    same_Some _ _ (sym b.ends ∙ ap finished (sym e) ∙ a.ends)

-- what the parser has is the one reading of the tokens
pub the_formula : (xs : List Token) (end : ℕ) (ss : List StatementTree) → parsed end xs (Between []) ≡ Ok ss → IsTheFormula xs ss
the_formula xs end ss e =
    let a = parsed_ok xs end (Between []) ss e in
    record {
      reads = read_formula (holds_run_whole xs [] (Between []) a.whole (between no_steps) a.runs) ss a.ends;
      only =
          λ other r. only_by xs ss other a (reaches_formula r []);
    }

pub fault_of_parsed : (xs : List Token) (end : ℕ) → fault_in xs end ≡ fault_of (parsed end xs (Between []))
fault_of_parsed xs end = fault_same xs [] end (Between []) (between no_steps)

-- exactly one reading if the table has no fault
none_ok : (r : Result (List StatementTree) SyntaxFault) → fault_of r ≡ None → (ss : List StatementTree) × (r ≡ Ok ss)
none_ok (Ok ss) e = (ss, refl)
none_ok (Err f) e = cc

pub one_reading : (xs : List Token) (end : ℕ) → fault_in xs end ≡ None → (ss : List StatementTree) × IsTheFormula xs ss
one_reading xs end e =
    let r = none_ok (parsed end xs (Between [])) (sym (fault_of_parsed xs end) ∙ e) in
    (r.0, the_formula xs end r.0 r.1)
