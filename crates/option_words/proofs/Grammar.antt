-- The options that words have, read word by word, and a word as clap cuts it.
use Rattle.std.proofs.Common.{◌≡◌, ◌⊎◌, inl, inr, ⊎_elim, ◌∙◌, ℕ, suc, zero, ◌+◌, ◌<◌, ◌==◌, Bool, true, false, cond, not, ◌&&◌, ◌||◌, List, [], ◌∷◌}
use Rattle.std.proofs.Common.{◌++◌, Option, Some, None, refl, sym, ap, ap₂, arith, length, take, drop, true≢false, option_map, option_and_then}
use Rattle.std.proofs.Common.{lt-ltb, le-ltb}
use Rattle.std.specs.List.{list_all, list_any, position, position_or_len}
use Rattle.std.specs.Option.{is_some, option_map_or}
use Rattle.std.specs.Prelude.{slice_get}
use Rattle.std.specs.Char.{encode_utf8}
use Rattle.std.specs.Str.{bytes_eq, chars, encode_utf8_all, is_utf8}
use Rattle.std.proofs.lemmas.List.{take_all}
use Rattle.std.proofs.lemmas.Bool.Decides.{nat_tests}
use Rattle.clap.specs.Lexer.{has_byte, long_of, name_and_value, short_of}
use Rattle.clap.proofs.WalkLemmas.{both}
use Rattle.option_words.specs.Options.{Text, Setting, are_names, begins_with_hyphen, is_given, is_name, joined_in, option_in}
use Rattle.option_words.specs.Clap.{is_dashes, is_readable}
use Rattle.option_words.proofs.Rules.{is_known, same_text, self_text}

-- the settings and one more; None if its option was given before
abbrev pub with_setting : List Setting → Setting → Option (List Setting)
with_setting done s = cond (is_given s.0 done) None (Some (done ++ s ∷ []))

-- the settings after these words, from the settings before them and the option, if any, that waits for its value
abbrev pub read : List Text → List Setting → Option Text → List Text → Option (List Setting)
read names done None [] = Some done
read names done (Some name) [] = None
read names done None (word ∷ rest) = option_map_or (λ (s : Setting). option_and_then (λ (d : List Setting). read names d None rest) (with_setting done s))
    (joined_in names word)
    (option_and_then (λ (name : Text). read names done (Some name) rest) (option_in names word))
read names done (Some name) (word ∷ rest) =
    cond (begins_with_hyphen word) None (option_and_then (λ (d : List Setting). read names d None rest) (with_setting done (name, word)))

-- ---- small facts

and_false : (b : Bool) → (b && false) ≡ false
and_false true = refl
and_false false = refl

pub eq_sym : (a b : Text) → bytes_eq a b ≡ bytes_eq b a
eq_sym a b = go (bytes_eq a b) (bytes_eq b a) refl refl
  where
    go : (x y : Bool) → bytes_eq a b ≡ x → bytes_eq b a ≡ y → x ≡ y
    go true true e f = refl
    go false false e f = refl
    go true false e f = absurd (true≢false (sym (ap (λ t. bytes_eq t a) (sym (same_text a b e)) ∙ self_text a) ∙ f))
    go false true e f = absurd (true≢false (sym (ap (λ t. bytes_eq t b) (sym (same_text b a f)) ∙ self_text b) ∙ e))

-- ---- a word that does not begin with `--`

abbrev dashes : Text → Bool
dashes [] = false
dashes (x ∷ []) = false
dashes (x ∷ y ∷ ys) = (x == 45) && (y == 45)

no_option : (names : List Text) (u : Text) → dashes u ≡ false → option_in names u ≡ None
no_option [] u e = refl
no_option (n ∷ rest) u e = go (bytes_eq u (45 ∷ 45 ∷ n)) refl (no_option rest u e)
  where
    go : (b : Bool) → bytes_eq u (45 ∷ 45 ∷ n) ≡ b → option_in rest u ≡ None → option_in (n ∷ rest) u ≡ None
    go true f more = absurd (true≢false (sym (ap dashes (same_text u (45 ∷ 45 ∷ n) f)) ∙ e))
    go false f more = rw f more

take_dashes : (i : ℕ) (u : Text) → dashes u ≡ false → dashes (take i u) ≡ false
take_dashes zero [] e = refl
take_dashes zero (x ∷ xs) e = refl
take_dashes (suc i) [] e = refl
take_dashes (suc zero) (x ∷ []) e = refl
take_dashes (suc (suc i)) (x ∷ []) e = refl
take_dashes (suc zero) (x ∷ y ∷ ys) e = refl
take_dashes (suc (suc i)) (x ∷ y ∷ ys) e = e

no_joined : (names : List Text) (u : Text) → dashes u ≡ false → joined_in names u ≡ None
no_joined names u e = go (position (λ b. b == 61) u)
  where
    go : (o : Option ℕ) → option_and_then {U = Setting} (λ i. option_map {U = Setting} (λ (name : Text). (name, drop (suc i) u))
        (option_in names (take i u))) o ≡ None
    go None = refl
    go (Some i) = ap (option_map {U = Setting} (λ (name : Text). (name, drop (suc i) u))) (no_option names (take i u) (take_dashes i u e))

no_long : (u : Text) → dashes u ≡ false → long_of u ≡ None
no_long [] e = refl
no_long (x ∷ []) e = go (x == 45) refl
  where
    go : (a : Bool) → (x == 45) ≡ a → long_of (x ∷ []) ≡ None
    go true f = rw f refl
    go false f = rw f refl
no_long (x ∷ y ∷ ys) e = go (x == 45) (y == 45) refl refl
  where
    go : (a b : Bool) → (x == 45) ≡ a → (y == 45) ≡ b → long_of (x ∷ y ∷ ys) ≡ None
    go true true f g = absurd (true≢false (sym (ap₂ ◌&&◌ f g) ∙ e))
    go true false f g = rw (f, g) refl
    go false b f g = rw f refl

-- ---- a word that begins with `--`

named : (names : List Text) (t : Text) → option_in names (45 ∷ 45 ∷ t) ≡ cond (is_known names t) (Some t) None
named [] t = refl
named (n ∷ rest) t = go (bytes_eq n t) refl (named rest t)
  where
    go : (b : Bool) → bytes_eq n t ≡ b → option_in rest (45 ∷ 45 ∷ t) ≡ cond (is_known rest t) (Some t) None
        → option_in (n ∷ rest) (45 ∷ 45 ∷ t) ≡ cond (is_known (n ∷ rest) t) (Some t) None
    go true e more = rw (eq_sym t n, e) (ap Some (same_text n t e))
    go false e more = rw (eq_sym t n, e) more

abbrev first_equals : Text → ℕ
first_equals = position_or_len (λ b. b == 61)

first_within : (t : Text) → has_byte 61 t ≡ true → first_equals t < length t
first_within [] e = absurd (true≢false (sym e))
first_within (x ∷ xs) e = go (x == 61) refl (first_within xs)
  where
    go : (b : Bool) → (x == 61) ≡ b → (has_byte 61 xs ≡ true → first_equals xs < length xs) → first_equals (x ∷ xs) < length (x ∷ xs)
    go true f more = rw f (omega arith)
    go false f more = let inner : has_byte 61 xs ≡ true = sym (ap (λ b. b || has_byte 61 xs) f) ∙ e in let lt = more inner in rw f (omega arith)

first_past : (t : Text) → has_byte 61 t ≡ false → first_equals t ≡ length t
first_past [] e = refl
first_past (x ∷ xs) e = go (x == 61) refl (first_past xs)
  where
    go : (b : Bool) → (x == 61) ≡ b → (has_byte 61 xs ≡ false → first_equals xs ≡ length xs) → first_equals (x ∷ xs) ≡ length (x ∷ xs)
    go true f more = absurd (true≢false (sym (ap (λ b. b || has_byte 61 xs) f) ∙ e))
    go false f more = let inner : has_byte 61 xs ≡ false = sym (ap (λ b. b || has_byte 61 xs) f) ∙ e in let eq = more inner in rw f (omega arith)

known_lacks : (names : List Text) (t : Text) → are_names names ≡ true → has_byte 61 t ≡ true → is_known names t ≡ false
known_lacks [] t ok has = refl
known_lacks (n ∷ rest) t ok has = go (bytes_eq n t) refl (is_name n) refl ok (known_lacks rest t)
  where
    go : (b : Bool) → bytes_eq n t ≡ b → (c : Bool) → is_name n ≡ c → (c && are_names rest) ≡ true
        → (are_names rest ≡ true → has_byte 61 t ≡ true → is_known rest t ≡ false) → is_known (n ∷ rest) t ≡ false
    go b e false f none more = absurd (true≢false (sym none))
    go true e true f all more =
        let bad : has_byte 61 n ≡ true = ap (has_byte 61) (same_text n t e) ∙ has in
        absurd (true≢false (sym f ∙ ap (λ x. not (length n == 0) && not x) bad ∙ and_false (not (length n == 0))))
    go false e true f all more = rw e (more all has)

-- the place of the first `=`
cut_at : (t : Text) → position (λ b. b == 61) (45 ∷ 45 ∷ t) ≡ cond (has_byte 61 t) (Some (suc (suc (first_equals t)))) None
cut_at t = go (has_byte 61 t) refl
  where
    two : first_equals (45 ∷ 45 ∷ t) ≡ suc (suc (first_equals t))
    two = omega arith

    go : (b : Bool) → has_byte 61 t ≡ b → position (λ b. b == 61) (45 ∷ 45 ∷ t) ≡ cond b (Some (suc (suc (first_equals t)))) None
    go true f =
        let lt = first_within t f in
        rw (two, lt-ltb (suc (suc (first_equals t))) (length (45 ∷ 45 ∷ t)) (omega arith)) refl
    go false f =
        let eq = first_past t f in
        rw (two, le-ltb (suc (suc (first_equals t))) (length (45 ∷ 45 ∷ t)) (omega arith)) refl

-- what a word is, as clap cuts it: an option with its value, or an option alone
abbrev pub joined_by : List Text → Option (Text × Option Text) → Option Setting
joined_by names None = None
joined_by names (Some p) = option_and_then {U = Setting} (λ (v : Text). cond (is_known names p.0) (Some (p.0, v)) None) p.1

abbrev pub alone_by : List Text → Option (Text × Option Text) → Option Text
alone_by names None = None
alone_by names (Some p) = cond (is_some p.1) None (cond (is_known names p.0) (Some p.0) None)

each : (b : Bool) (u v : Text) → option_map {U = Setting} (λ (name : Text). (name, v)) (cond b (Some u) None) ≡ cond b (Some (u, v)) None
each true u v = refl
each false u v = refl

module _ (names : List Text) (ok : are_names names ≡ true) where
  pub joined_long : (t : Text) → joined_in names (45 ∷ 45 ∷ t) ≡ joined_by names (Some (name_and_value t))
  joined_long t = go (has_byte 61 t) refl
    where
      go : (b : Bool) → has_byte 61 t ≡ b → joined_in names (45 ∷ 45 ∷ t) ≡ joined_by names (Some (name_and_value t))
      go true f =
          let k = first_equals t in
          let next : k + 1 ≡ suc k = omega arith in
          rw (cut_at t, f, named names (take k t), next) (each (is_known names (take k t)) (take k t) (drop (suc k) t))
      go false f = rw (cut_at t, f) refl

  pub alone_long : (t : Text) → option_in names (45 ∷ 45 ∷ t) ≡ alone_by names (Some (name_and_value t))
  alone_long t = go (has_byte 61 t) refl
    where
      go : (b : Bool) → has_byte 61 t ≡ b → option_in names (45 ∷ 45 ∷ t) ≡ alone_by names (Some (name_and_value t))
      go true f = rw (named names t, f, known_lacks names t ok f) refl
      go false f = rw (named names t, f, first_past t f, take_all (length t) t (omega arith)) refl

-- ---- words that may be options or values, and other words

-- whether the word may be an option or a value: it does not begin with `-`, or it begins with `--` and is longer
abbrev pub is_sound : Text → Bool
is_sound word = not (begins_with_hyphen word) || is_some (long_of word)

abbrev pub are_sound : List Text → Bool
are_sound = list_all is_sound

begins_so : (x : ℕ) → (x == 45) ≡ true → x ≡ 45
begins_so x e = grind (arith, nat_tests)

refused_test : (w : Text) → long_of w ≡ None → begins_with_hyphen w ≡ true → is_sound w ≡ false
refused_test w long first = rw (long, first) refl

-- a word that begins with one `-` and is longer, with its second character
pub record IsShort (w : Text) : Type 0 where
  pub long : long_of w ≡ None
  pub unsound : is_sound w ≡ false
  pub first : ℕ
  pub rest : Text
  pub char : ℕ
  pub short : short_of w ≡ Some (first ∷ rest)
  pub chars : slice_get (chars (first ∷ rest)) 0 ≡ Some char

-- a text that begins with `-` and is longer has a second character
second_char : (y : ℕ) (ys : Text) → is_utf8 (45 ∷ y ∷ ys) ≡ true → (x : ℕ) × (slice_get (chars (y ∷ ys)) 0 ≡ Some x)
unfolding is_utf8 chars encode_utf8
second_char y ys e = go (chars (y ∷ ys)) refl
  where
    go : (cs : List ℕ) → chars (y ∷ ys) ≡ cs → (x : ℕ) × (slice_get (chars (y ∷ ys)) 0 ≡ Some x)
    go [] f = absurd (true≢false (sym (both _ _ e).1 ∙ ap (λ cs. bytes_eq (encode_utf8_all (45 ∷ cs)) (45 ∷ y ∷ ys)) f))
    go (x ∷ cs) f = (x, ap (λ cs. slice_get cs 0) f)

abbrev Sorts : Text → Type 0
Sorts w = (begins_with_hyphen w ≡ false) ⊎ (((z : ℕ) × (zs : Text) × (w ≡ 45 ∷ 45 ∷ z ∷ zs)) ⊎ IsShort w)

is_short : (x y : ℕ) (ys : Text) → (x == 45) ≡ true → (y == 45) ≡ false → is_utf8 (x ∷ y ∷ ys) ≡ true → IsShort (x ∷ y ∷ ys)
is_short x y ys f g utf8 =
    let text : is_utf8 (45 ∷ y ∷ ys) ≡ true = ap (λ a. is_utf8 (a ∷ y ∷ ys)) (sym (begins_so x f)) ∙ utf8 in
    let second = second_char y ys text in
    record {
      long = no_long (x ∷ y ∷ ys) (ap₂ ◌&&◌ f g);
      unsound = refused_test (x ∷ y ∷ ys) (no_long (x ∷ y ∷ ys) (ap₂ ◌&&◌ f g)) f;
      first = y;
      rest = ys;
      char = second.0;
      short = rw (f, g) refl;
      chars = second.1;
    }

-- the three sorts of words that clap reads
pub sorts : (w : Text) → is_readable w ≡ true → Sorts w
sorts [] e = inl refl
sorts (x ∷ []) e = go (x == 45) refl
  where
    go : (a : Bool) → (x == 45) ≡ a → Sorts (x ∷ [])
    go true f = absurd (true≢false (sym e ∙ ap (λ a. is_readable (a ∷ [])) (begins_so x f)))
    go false f = inl f
sorts (x ∷ y ∷ []) e = go (x == 45) (y == 45) refl refl
  where
    go : (a b : Bool) → (x == 45) ≡ a → (y == 45) ≡ b → Sorts (x ∷ y ∷ [])
    go true true f g = absurd (true≢false (sym e ∙ ap₂ (λ a b. is_readable (a ∷ b ∷ [])) (begins_so x f) (begins_so y g)))
    go true false f g = inr (inr (is_short x y [] f g (both (not (is_dashes (x ∷ y ∷ []))) _ e).1))
    go false b f g = inl f
sorts (x ∷ y ∷ z ∷ zs) e = go (x == 45) (y == 45) refl refl
  where
    go : (a b : Bool) → (x == 45) ≡ a → (y == 45) ≡ b → Sorts (x ∷ y ∷ z ∷ zs)
    go true true f g = inr (inl (z, zs, ap₂ (λ a b. a ∷ b ∷ z ∷ zs) (begins_so x f) (begins_so y g)))
    go true false f g = inr (inr (is_short x y (z ∷ zs) f g (both (not (is_dashes (x ∷ y ∷ z ∷ zs))) _ e).1))
    go false b f g = inl f

pub undashed : (w : Text) → is_readable w ≡ true → bytes_eq w (45 ∷ 45 ∷ []) ≡ false
undashed w e = go (bytes_eq w (45 ∷ [])) (bytes_eq w (45 ∷ 45 ∷ [])) e refl
  where
    go : (a b : Bool) → (not (a || b) && is_utf8 w) ≡ true → bytes_eq w (45 ∷ 45 ∷ []) ≡ b → b ≡ false
    go a false e f = refl
    go true true e f = absurd (true≢false (sym e))
    go false true e f = absurd (true≢false (sym e))

plain_dashes : (w : Text) → begins_with_hyphen w ≡ false → dashes w ≡ false
plain_dashes [] e = refl
plain_dashes (x ∷ []) e = refl
plain_dashes (x ∷ y ∷ ys) e = ap (λ a. a && (y == 45)) e

pub plain_long : (w : Text) → begins_with_hyphen w ≡ false → long_of w ≡ None
plain_long w e = no_long w (plain_dashes w e)

pub plain_short : (w : Text) → begins_with_hyphen w ≡ false → short_of w ≡ None
plain_short [] e = refl
plain_short (x ∷ xs) e = rw e refl

pub plain_joined : (names : List Text) (w : Text) → begins_with_hyphen w ≡ false → joined_in names w ≡ None
plain_joined names w e = no_joined names w (plain_dashes w e)

pub plain_alone : (names : List Text) (w : Text) → begins_with_hyphen w ≡ false → option_in names w ≡ None
plain_alone names w e = no_option names w (plain_dashes w e)

-- `--` alone is not an option
no_dashes : (names : List Text) → are_names names ≡ true → is_known names [] ≡ false
no_dashes [] ok = refl
no_dashes ([] ∷ rest) ok = absurd (true≢false (sym ok))
no_dashes ((x ∷ xs) ∷ rest) ok = no_dashes rest (both (is_name (x ∷ xs)) _ ok).1

-- a word that may be neither is not an option
unsound_dashes : (names : List Text) → are_names names ≡ true → (w : Text) → is_sound w ≡ false → (dashes w ≡ false) ⊎ (w ≡ 45 ∷ 45 ∷ [])
unsound_dashes names ok [] e = inl refl
unsound_dashes names ok (x ∷ []) e = inl refl
unsound_dashes names ok (x ∷ y ∷ ys) e = go (x == 45) (y == 45) refl refl ys e
  where
    go : (a b : Bool) → (x == 45) ≡ a → (y == 45) ≡ b → (zs : Text) → is_sound (x ∷ y ∷ zs) ≡ false
        → (dashes (x ∷ y ∷ zs) ≡ false) ⊎ (x ∷ y ∷ zs ≡ 45 ∷ 45 ∷ [])
    go true true f g [] e = inr (ap₂ (λ a b. a ∷ b ∷ []) (begins_so x f) (begins_so y g))
    go true true f g (z ∷ zs) e = absurd (true≢false (sym (rw (f, g) refl) ∙ e))
    go true false f g zs e = inl (ap₂ ◌&&◌ f g)
    go false b f g zs e = inl (ap (λ a. a && (y == 45)) f)

pub unsound_alone : (names : List Text) → are_names names ≡ true → (w : Text) → is_sound w ≡ false → option_in names w ≡ None
unsound_alone names ok w e = ⊎_elim (λ d. no_option names w d) (λ is. ap (option_in names) is ∙ named names []
    ∙ ap (λ b. cond b (Some []) None) (no_dashes names ok)) (unsound_dashes names ok w e)

pub unsound_joined : (names : List Text) → are_names names ≡ true → (w : Text) → is_sound w ≡ false → joined_in names w ≡ None
unsound_joined names ok w e = ⊎_elim (λ d. no_joined names w d) (λ is. ap (joined_in names) is) (unsound_dashes names ok w e)

pub unsound_first : (w : Text) → is_sound w ≡ false → begins_with_hyphen w ≡ true
unsound_first w e = go (begins_with_hyphen w) refl
  where
    go : (b : Bool) → begins_with_hyphen w ≡ b → b ≡ true
    go true f = refl
    go false f = absurd (true≢false (sym (ap (λ b. not b || is_some (long_of w)) f) ∙ e))

none_then : (f : List Setting → Option (List Setting)) → ((d : List Setting) → f d ≡ None) → (o : Option (List Setting)) → option_and_then f o ≡ None
none_then f none None = refl
none_then f none (Some d) = none d

-- words with one that may be neither have no reading
pub unsound_none : (names : List Text) → are_names names ≡ true → (words : List Text) → are_sound words ≡ false → (done : List Setting) (p : Option Text)
    → read names done p words ≡ None
unsound_none names ok [] e done p = absurd (true≢false e)
unsound_none names ok (w ∷ rest) e done p = go (is_sound w) refl p e (λ f d q. unsound_none names ok rest f d q)
  where
    go : (b : Bool) → is_sound w ≡ b → (p : Option Text) → (is_sound w && are_sound rest) ≡ false
        → (are_sound rest ≡ false → (d : List Setting) (q : Option Text) → read names d q rest ≡ None)
        → read names done p (w ∷ rest) ≡ None
    go false f None all more = rw (unsound_joined names ok w f, unsound_alone names ok w f) refl
    go false f (Some name) all more = rw (unsound_first w f) refl
    go true f (Some name) all more =
        let later : are_sound rest ≡ false = sym (ap (λ b. b && are_sound rest) f) ∙ all in
        ap (cond (begins_with_hyphen w) None) (none_then _ (λ d. more later d None) (with_setting done (name, w))) ∙ either (begins_with_hyphen w)
      where
        either : (b : Bool) → cond {A = Option (List Setting)} b None None ≡ None
        either true = refl
        either false = refl
    go true f None all more =
        let later : are_sound rest ≡ false = sym (ap (λ b. b && are_sound rest) f) ∙ all in
        pick later (joined_in names w) (option_in names w)
      where
        pick : are_sound rest ≡ false → (o : Option Setting) (a : Option Text)
            → option_map_or (λ (s : Setting). option_and_then (λ (d : List Setting). read names d None rest) (with_setting done s)) o
            (option_and_then (λ (name : Text). read names done (Some name) rest) a) ≡ None
        pick later (Some s) a = none_then _ (λ d. more later d None) (with_setting done s)
        pick later None (Some name) = more later done (Some name)
        pick later None None = refl

-- words with `-` or `--` have no reading
pub dashes_none : (names : List Text) → are_names names ≡ true → (words : List Text) → list_any is_dashes words ≡ true → read names [] None words ≡ None
dashes_none names ok words e = unsound_none names ok words (unsound words e) [] None
  where
    one : (w : Text) → is_dashes w ≡ true → is_sound w ≡ false
    one w e = go (bytes_eq w (45 ∷ [])) (bytes_eq w (45 ∷ 45 ∷ [])) refl refl
      where
        go : (a b : Bool) → bytes_eq w (45 ∷ []) ≡ a → bytes_eq w (45 ∷ 45 ∷ []) ≡ b → is_sound w ≡ false
        go true b f g = ap is_sound (same_text w (45 ∷ []) f)
        go false true f g = ap is_sound (same_text w (45 ∷ 45 ∷ []) g)
        go false false f g = absurd (true≢false (sym e ∙ ap₂ ◌||◌ f g))

    unsound : (words : List Text) → list_any is_dashes words ≡ true → are_sound words ≡ false
    unsound [] e = absurd (true≢false (sym e))
    unsound (w ∷ rest) e = go (is_dashes w) refl (unsound rest)
      where
        go : (b : Bool) → is_dashes w ≡ b → (list_any is_dashes rest ≡ true → are_sound rest ≡ false) → are_sound (w ∷ rest) ≡ false
        go true f more = ap (λ b. b && are_sound rest) (one w f)
        go false f more = ap (λ b. is_sound w && b) (more (sym (ap (λ b. b || list_any is_dashes rest) f) ∙ e)) ∙ and_false (is_sound w)
