-- A history to which samples are pushed one by one holds the last of those that are taken.
use Rattle.std.proofs.Common.{
  ◌≡◌,
  ℕ,
  zero,
  suc,
  ◌+◌,
  ◌-◌,
  ◌<◌,
  ◌≤◌,
  Bool,
  true,
  false,
  cond,
  ◌&&◌,
  List,
  [],
  ◌∷◌,
  ◌++◌,
  length,
  drop,
  Option,
  Some,
  None,
  refl,
  sym,
  ap,
  ◌∙◌,
  arith,
  append_assoc,
  append-nil,
  length-append,
  ◌⊎◌,
  inl,
  inr,
}
use Rattle.std.specs.Prelude.{nat_lt, nat_le, slice_get, option_map}
use Rattle.std.specs.List.{list_all}
use Rattle.std.proofs.lemmas.Grind.{common_steps}
use Rattle.std.proofs.lemmas.List.{drop-append-le, length-drop}
use Rattle.std.proofs.lemmas.List.Folds.{list_all-append}
use Rattle.std.proofs.lemmas.Bool.{cases_lt}
use Rattle.std.proofs.lemmas.Option.{slice_get_read}
use Rattle.std.proofs.Math.Seq.{get_or-append_seam}
use Rattle.bt_samples.specs.declared.history.Sample.{Sample}
use Rattle.bt_samples.specs.declared.history.SampleTooOld.{SampleTooOld}
use Rattle.bt_samples.specs.Histories.{last_kept, newest, refused, unless_refused, pushed}
use Rattle.bt_samples.specs.KeptSamples.{pushed_all, taken_after, is_before}

-- a sample with this label is taken where the newest has that one
abbrev is_free : ℕ → Option ℕ → Bool
is_free label None = true
is_free label (Some last) = nat_lt last label

not_refused : (label : ℕ) (last : Option ℕ) → is_free label last ≡ true → refused label last ≡ None
not_refused label None h = refl
not_refused label (Some last) h = grind (arith, common_steps)

is_refused : (label : ℕ) (last : Option ℕ) → is_free label last ≡ false → (why : SampleTooOld) × (refused label last ≡ Some why)
is_refused label None h = absurd (cc)
is_refused label (Some last) h = (record { 0 = last }, grind (arith, common_steps))

-- the newest of a list that ends with this sample
newest_of : (samples : List Sample) (sample : Sample) → newest (samples ++ (sample ∷ [])) ≡ Some sample.label
newest_of samples sample =
    let last : length (samples ++ (sample ∷ [])) - 1 ≡ length samples = rw length-append (omega arith) in
    rw last
    (ap (option_map (λ (s : Sample). s.label)) (slice_get_read (samples ++ (sample ∷ [])) (length (samples ++ (sample ∷ []))) (length samples) sample
    refl (rw length-append (omega arith)) (sym (get_or-append_seam samples sample [] sample))))

newest_last : (samples : List Sample) (sample : Sample) → newest (last_kept (samples ++ (sample ∷ []))) ≡ Some sample.label
newest_last samples sample =
    let few : length (samples ++ (sample ∷ [])) - 2880 ≤ length samples = rw length-append (omega arith) in
    ap newest (drop-append-le (length (samples ++ (sample ∷ [])) - 2880) samples (sample ∷ []) few)
    ∙ newest_of (drop (length (samples ++ (sample ∷ [])) - 2880) samples) sample

drop_one_more : (n : ℕ) (samples : List Sample) → drop 1 (drop n samples) ≡ drop (suc n) samples
drop_one_more zero samples = refl
drop_one_more (suc n) [] = refl
drop_one_more (suc n) (sample ∷ samples) = drop_one_more n samples

-- the last of a list and one more sample, by the last of the list
last_more : (samples : List Sample) (sample : Sample) → last_kept (last_kept samples ++ (sample ∷ [])) ≡ last_kept (samples ++ (sample ∷ []))
last_more samples sample = by_length (cases_lt (length samples) 2880)
  where
    by_length : (length samples < 2880) ⊎ (2880 ≤ length samples) → last_kept (last_kept samples ++ (sample ∷ [])) ≡ last_kept (samples ++ (sample ∷ []))
    by_length (inl few) =
        let none : length samples - 2880 ≡ 0 = omega (arith, few) in rw none refl
    by_length (inr many) =
        let past = length samples - 2880 in
        let held : length (drop past samples ++ (sample ∷ [])) - 2880 ≡ 1 = rw (length-append, length-drop) (omega (arith, many)) in
        let all : length (samples ++ (sample ∷ [])) - 2880 ≡ suc past = rw length-append (omega (arith, many)) in
        rw (held, all)
        (drop-append-le 1 (drop past samples) (sample ∷ []) (rw length-drop (omega (arith, many)))
        ∙ ap (λ rest. rest ++ (sample ∷ [])) (drop_one_more past samples)
        ∙ sym (drop-append-le (suc past) samples (sample ∷ []) (omega (arith, many))))

-- which labels are free after a sample that was taken, and after one that was refused
free_after : (last : Option ℕ) (taken label : ℕ) → is_free taken last ≡ true → nat_lt taken label ≡ (is_free label last && (nat_lt taken label && true))
free_after None taken label h = grind (arith, common_steps)
free_after (Some last) taken label h = grind (arith, common_steps)

free_still : (last : Option ℕ) (old label : ℕ) → is_free old last ≡ false → is_free label last ≡ (is_free label last && (nat_lt old label && true))
free_still None old label h = absurd (cc)
free_still (Some last) old label h = grind (arith, common_steps)

-- the newest of a history stands for all labels of earlier samples
abbrev IsLike : List Sample → List Sample → Type 0
IsLike history earlier = (label : ℕ) → is_free label (newest history) ≡ list_all (is_before label) earlier

split : (earlier : List Sample) (sample : Sample) (label : ℕ) →
    list_all (is_before label) (earlier ++ (sample ∷ [])) ≡ (list_all (is_before label) earlier && (nat_lt sample.label label && true))
split earlier sample label = list_all-append (is_before label) earlier (sample ∷ [])

like_taken : (history earlier : List Sample) (sample : Sample) → IsLike history earlier → is_free sample.label (newest history) ≡ true →
    IsLike (last_kept (history ++ (sample ∷ []))) (earlier ++ (sample ∷ []))
like_taken history earlier sample like free label =
    ap (is_free label) (newest_last history sample) ∙ free_after (newest history) sample.label label free
    ∙ ap (λ b. b && (nat_lt sample.label label && true)) (like label) ∙ sym (split earlier sample label)

like_refused : (history earlier : List Sample) (sample : Sample) → IsLike history earlier → is_free sample.label (newest history) ≡ false →
    IsLike history (earlier ++ (sample ∷ []))
like_refused history earlier sample like old label =
    free_still (newest history) sample.label label old
    ∙ ap (λ b. b && (nat_lt sample.label label && true)) (like label) ∙ sym (split earlier sample label)

push_taken : (history : List Sample) (sample : Sample) → is_free sample.label (newest history) ≡ true →
    pushed history sample ≡ last_kept (history ++ (sample ∷ []))
push_taken history sample free = ap (λ why. unless_refused why history sample) (not_refused sample.label (newest history) free)

push_refused : (history : List Sample) (sample : Sample) → is_free sample.label (newest history) ≡ false → pushed history sample ≡ history
push_refused history sample old = ap (λ why. unless_refused why history sample) (is_refused sample.label (newest history) old).1

-- what one more sample and those after it leave, by what those after it leave
module _ (history taken earlier : List Sample) (sample : Sample) (samples : List Sample) where
  abbrev next : List Sample
  next = earlier ++ (sample ∷ [])

  abbrev now : List Sample
  now = last_kept (history ++ (sample ∷ []))

  abbrev Goal : Bool → Type 0
  Goal b = pushed_all (pushed history sample) samples ≡ last_kept (taken ++ cond b (sample ∷ taken_after next samples) (taken_after next samples))

  one_more :
      history ≡ last_kept taken → IsLike history earlier →
      (now ≡ last_kept (taken ++ (sample ∷ [])) → IsLike now next → pushed_all now samples ≡ last_kept ((taken ++ (sample ∷ [])) ++ taken_after next samples)) →
      (IsLike history next → pushed_all history samples ≡ last_kept (taken ++ taken_after next samples)) →
      (b : Bool) → is_free sample.label (newest history) ≡ b → Goal b
  one_more e like more same true free =
      let kept : now ≡ last_kept (taken ++ (sample ∷ [])) = ap (λ h. last_kept (h ++ (sample ∷ []))) e ∙ last_more taken sample in
      ap (λ h. pushed_all h samples) (push_taken history sample free)
      ∙ more kept (like_taken history earlier sample like free)
      ∙ ap last_kept (append_assoc taken (sample ∷ []) (taken_after next samples))
  one_more e like more same false old =
      ap (λ h. pushed_all h samples) (push_refused history sample old) ∙ same (like_refused history earlier sample like old)

held : (history taken earlier samples : List Sample) → history ≡ last_kept taken → IsLike history earlier →
    pushed_all history samples ≡ last_kept (taken ++ taken_after earlier samples)
held history taken earlier [] e like = e ∙ ap last_kept (sym (append-nil taken))
held history taken earlier (sample ∷ samples) e like =
    one_more history taken earlier sample samples e like
    (λ kept told. held (last_kept (history ++ (sample ∷ []))) (taken ++ (sample ∷ [])) (earlier ++ (sample ∷ [])) samples kept told)
    (λ told. held history taken (earlier ++ (sample ∷ [])) samples e told)
    (list_all (is_before sample.label) earlier) (like sample.label)

pub holds_the_last_taken : (samples : List Sample) → pushed_all [] samples ≡ last_kept (taken_after [] samples)
holds_the_last_taken samples = held [] [] [] samples refl (λ label. refl)
