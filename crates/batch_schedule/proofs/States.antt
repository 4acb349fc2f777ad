-- Schedules that are changed one after the other.
use Rattle.std.proofs.Common.{◌≡◌, ℕ, suc, ◌+◌, ◌<◌, ◌≤◌, List, [], ◌∷◌, ◌++◌, length, take, drop, set, get_or, map, drop-cons, add-one, refl, sym}
use Rattle.std.proofs.Common.{ap, ◌∙◌, arith}
use Rattle.std.proofs.lemmas.List.{length-set, take_more, take_more_set, take_all, drop-set-lt, map-append}
use Rattle.schedule_rows.specs.Rows.{Schedule}

-- the first rows were changed, and the others were not
pub record PutSoFar (f : Schedule → Schedule) (at : ℕ) (old rows : List Schedule) : Type 0 where
  pub same : length rows ≡ length old
  pub front : take at rows ≡ map f (take at old)
  pub back : drop at rows ≡ drop at old

pub put_none : (f : Schedule → Schedule) (rows : List Schedule) → PutSoFar f 0 rows rows
put_none f rows = record { same = refl; front = refl; back = refl }

pub put_more : (f : Schedule → Schedule) (at : ℕ) (old rows : List Schedule) (s d last : Schedule) → at < length rows → s ≡ get_or rows at d → last ≡ f s
    → PutSoFar f at old rows → PutSoFar f (at + 1) old (set rows at last)
put_more f at old rows s d last lt there put so_far =
    let within : at < length old = omega (arith, so_far.same) in
    let head_now : drop at rows ≡ get_or rows at d ∷ drop (suc at) rows = drop-cons rows at d lt in
    let head_old : drop at old ≡ get_or old at d ∷ drop (suc at) old = drop-cons old at d within in
    let back = so_far.back in
    let both : get_or rows at d ∷ drop (suc at) rows ≡ get_or old at d ∷ drop (suc at) old = sym head_now ∙ back ∙ head_old in
    let first : get_or old at d ≡ s = cc in
    let rest : drop (suc at) rows ≡ drop (suc at) old = cc in
    record {
      same = length-set rows at last ∙ so_far.same;
      front = take_more_set rows at last lt ∙ ap (λ w. w ++ last ∷ []) so_far.front ∙ ap (λ w. map f (take at old) ++ w ∷ []) (put ∙ ap f (sym first))
          ∙ sym (map-append f (take at old) (get_or old at d ∷ [])) ∙ ap (map f) (sym (take_more old at d within));
      back = drop-set-lt (at + 1) rows at last (omega arith) ∙ ap (λ n. drop n rows) (add-one at) ∙ rest ∙ ap (λ n. drop n old) (sym (add-one at));
    }

pub put_all : (f : Schedule → Schedule) (at : ℕ) (old rows : List Schedule) → length rows ≤ at → PutSoFar f at old rows → rows ≡ map f old
put_all f at old rows le so_far =
    let same = so_far.same in
    let le_old : length old ≤ at = omega (arith, same) in
    sym (take_all at rows le) ∙ so_far.front ∙ ap (map f) (take_all at old le_old)
