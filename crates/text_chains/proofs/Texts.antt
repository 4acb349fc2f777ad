-- The texts of links, and those after a link is added.
use Rattle.std.proofs.Common.{◌≡◌, ℕ, zero, suc, ◌+◌, ◌-◌, ◌<◌, ◌≤◌, List, [], ◌∷◌, ◌++◌, length, take, drop, slice_get, slice_range, Option, Some}
use Rattle.std.proofs.Common.{refl, sym, ap, ◌∙◌, ⊎_elim, arith, length-append, length-drop}
use Rattle.std.proofs.Math.Seq.{take-length, drop-append_seam}
use Rattle.std.proofs.lemmas.List.{take-append-le, drop-append-le}
use Rattle.std.proofs.lemmas.Bool.{cases_eq}
use Rattle.text_chains.specs.declared.links.Link.{Link}
use Rattle.text_chains.specs.Chains.{end_in, place_in, place_at, text_end, text_start, text_at, chains_below, chains_of, AreWithin}

module _ {X : Type 0} where
  -- what a list has at an index after a push
  get_before : (xs : List X) (x : X) (k : ℕ) → k < length xs → slice_get (xs ++ x ∷ []) k ≡ slice_get xs k
  get_before [] x k l = absurd (omega arith)
  get_before (y ∷ xs) x zero l = refl
  get_before (y ∷ xs) x (suc k) l = get_before xs x k (omega arith)

  get_pushed : (xs : List X) (x : X) → slice_get (xs ++ x ∷ []) (length xs) ≡ Some x
  get_pushed [] x = refl
  get_pushed (y ∷ xs) x = get_pushed xs x

  pub length_push : (xs : List X) (x : X) → length (xs ++ x ∷ []) ≡ suc (length xs)
  length_push [] x = refl
  length_push (y ∷ xs) x = ap suc (length_push xs x)

range_before : (xs more : List ℕ) (start end : ℕ) → start ≤ end → end ≤ length xs → slice_range (xs ++ more) start end ≡ slice_range xs start end
range_before xs more start end l m =
    let long = length-drop start xs in
    ap (take (end - start)) (drop-append-le start xs more (omega (arith, l, m)))
    ∙ take-append-le (end - start) (drop start xs) more (omega (arith, l, m, long))

range_new : (xs more : List ℕ) (end : ℕ) → end ≡ length xs + length more → slice_range (xs ++ more) (length xs) end ≡ more
range_new xs more end e =
    ap (take (end - length xs)) (drop-append_seam xs more)
    ∙ ap (λ (n : ℕ). take n more) (omega (arith, e))
    ∙ take-length more

module _ (links : List Link) (texts : List ℕ) (new : Link) (more : List ℕ) where
  end_before : (number : ℕ) → number < length links → text_end (links ++ new ∷ []) number ≡ text_end links number
  end_before number l = ap end_in (get_before links new number l)

  start_before : (number : ℕ) → number ≤ length links → text_start (links ++ new ∷ []) number ≡ text_start links number
  start_before zero l = refl
  start_before (suc before) l = end_before before (omega arith)

  end_new : text_end (links ++ new ∷ []) (length links) ≡ new.text_end
  end_new = ap end_in (get_pushed links new)

  module _ (within : AreWithin links texts) where
    pub text_before : (number : ℕ) → number < length links → text_at (links ++ new ∷ []) (texts ++ more) number ≡ text_at links texts number
    text_before number l =
        ap (λ (start : ℕ). slice_range (texts ++ more) start (text_end (links ++ new ∷ []) number)) (start_before number (omega (arith, l)))
        ∙ ap (slice_range (texts ++ more) (text_start links number)) (end_before number l)
        ∙ range_before texts more (text_start links number) (text_end links number) (within.ordered number l) (within.within number l)

    chains_before : (number : ℕ) → number ≤ length links → chains_below number (links ++ new ∷ []) (texts ++ more) ≡ chains_below number links texts
    chains_before zero l = refl
    chains_before (suc number) l =
        ap (λ (text : List ℕ). (text, place_at (links ++ new ∷ []) number) ∷ chains_below number (links ++ new ∷ []) (texts ++ more))
        (text_before number (omega arith))
        ∙ ap (λ (o : Option Link). (text_at links texts number, place_in o) ∷ chains_below number (links ++ new ∷ []) (texts ++ more))
        (get_before links new number (omega arith))
        ∙ ap (λ (rest : List (List ℕ × ℕ)). (text_at links texts number, place_at links number) ∷ rest) (chains_before number (omega arith))

    module _ (ended : text_start links (length links) ≡ length texts) (long : new.text_end ≡ length texts + length more) where
      pub text_new : text_at (links ++ new ∷ []) (texts ++ more) (length links) ≡ more
      text_new =
          ap (λ (start : ℕ). slice_range (texts ++ more) start (text_end (links ++ new ∷ []) (length links)))
          (start_before (length links) (omega arith) ∙ ended)
          ∙ range_new texts more (text_end (links ++ new ∷ []) (length links)) (end_new ∙ long)

      -- the text that is added stands before the others
      pub chains_push : chains_of (links ++ new ∷ []) (texts ++ more) ≡ (more, new.place) ∷ chains_of links texts
      chains_push =
          ap (λ (n : ℕ). chains_below n (links ++ new ∷ []) (texts ++ more)) (length_push links new)
          ∙ ap (λ (text : List ℕ). (text, place_at (links ++ new ∷ []) (length links)) ∷ chains_below (length links) (links ++ new ∷ []) (texts ++ more))
          text_new
          ∙ ap (λ (o : Option Link). (more, place_in o) ∷ chains_below (length links) (links ++ new ∷ []) (texts ++ more)) (get_pushed links new)
          ∙ ap (λ (rest : List (List ℕ × ℕ)). (more, new.place) ∷ rest) (chains_before (length links) (omega arith))

      pub ended_push : text_start (links ++ new ∷ []) (length (links ++ new ∷ [])) ≡ length (texts ++ more)
      ended_push = ap (text_start (links ++ new ∷ [])) (length_push links new) ∙ end_new ∙ long ∙ sym (length-append texts more)

      pub within_push : AreWithin (links ++ new ∷ []) (texts ++ more)
      within_push = record { ordered = ordered; within = inside }
        where
          ordered : (number : ℕ) → number < length (links ++ new ∷ []) → text_start (links ++ new ∷ []) number ≤ text_end (links ++ new ∷ []) number
          ordered number l =
              let count = length_push links new in
              ⊎_elim
              (λ (e : number ≡ length links).
              rw e
              (let a = start_before (length links) (omega arith) in let b = end_new in omega (arith, a, b, ended, long)))
              (λ (e : number ≡ length links → ⊥).
              let old : number < length links = omega (arith, l, count, e) in
              let a = start_before number (omega (arith, old)) in let b = end_before number old in let c = within.ordered number old in
              omega (arith, a, b, c))
              (cases_eq number (length links))

          inside : (number : ℕ) → number < length (links ++ new ∷ []) → text_end (links ++ new ∷ []) number ≤ length (texts ++ more)
          inside number l =
              let count = length_push links new in
              let sum = length-append texts more in
              ⊎_elim
              (λ (e : number ≡ length links). rw e (let b = end_new in omega (arith, b, long, sum)))
              (λ (e : number ≡ length links → ⊥).
              let old : number < length links = omega (arith, l, count, e) in
              let b = end_before number old in let c = within.within number old in
              omega (arith, b, c, sum))
              (cases_eq number (length links))
