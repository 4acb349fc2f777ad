-- Options that are read word by word are those of the grammar, if none is given twice.
use Rattle.std.proofs.Common.{◌≡◌, ◌∙◌, Bool, true, false, cond, not, ◌&&◌, ◌||◌, List, [], ◌∷◌, ◌++◌, Option, Some, None, refl, sym, ap, ap₂}
use Rattle.std.proofs.Common.{option_map, option_and_then, append-nil, append_assoc}
use Rattle.std.specs.List.{list_all}
use Rattle.std.specs.Option.{option_map_or}
use Rattle.std.specs.Str.{bytes_eq}
use Rattle.option_words.specs.Options.{Text, Setting, all_in, are_distinct, begins_with_hyphen, if_distinct, is_given, joined_in, option_in, settings_in}
use Rattle.option_words.proofs.Grammar.{eq_sym, read, with_setting}

abbrev Settings : Type 0
Settings = List Setting

-- the settings and these; None if an option is given twice
abbrev add_all : Settings → Settings → Option Settings
add_all done [] = Some done
add_all done (s ∷ more) = option_and_then (λ (d : Settings). add_all d more) (with_setting done s)

add_first : (done : Settings) (s : Setting) (o : Option Settings)
    → option_and_then (λ (d : Settings). option_and_then (add_all d) o) (with_setting done s) ≡ option_and_then (add_all done) (option_map (λ more. s ∷ more) o)
add_first done s None = go (with_setting done s)
  where
    go : (w : Option Settings) → option_and_then (λ (d : Settings). option_and_then (add_all d) None) w ≡ None
    go None = refl
    go (Some d) = refl
add_first done s (Some more) = refl

single : (done : Settings) (s : Setting) → option_and_then (λ (d : Settings). Some d) (with_setting done s) ≡ option_and_then (add_all done) (Some (s ∷ []))
single done s = refl

module _ (names : List Text) where
  -- the words after a setting
  after : (rest : List Text) → ((d : Settings) → read names d None rest ≡ option_and_then (add_all d) (all_in names rest)) → (done : Settings) (s : Setting)
      → option_and_then (λ (d : Settings). read names d None rest) (with_setting done s)
      ≡ option_and_then (add_all done) (option_map (λ more. s ∷ more) (all_in names rest))
  after rest more done s = (λ i. option_and_then (λ (d : Settings). more d i) (with_setting done s)) ∙ add_first done s (all_in names rest)

  read_all : (words : List Text) (done : Settings) → read names done None words ≡ option_and_then (add_all done) (all_in names words)
  read_all [] done = refl
  read_all (w ∷ []) done = go (joined_in names w) (option_in names w)
    where
      go : (o : Option Setting) (a : Option Text) → option_map_or (λ (s : Setting). option_and_then (λ (d : Settings). read names d None [])
          (with_setting done s)) o
          (option_and_then (λ (name : Text). read names done (Some name) []) a) ≡ option_and_then (add_all done) (option_map (λ s. s ∷ []) o)
      go (Some s) a = refl
      go None None = refl
      go None (Some name) = refl
  read_all (w ∷ next ∷ rest) done = go (joined_in names w) (option_in names w) (begins_with_hyphen next)
      (after (next ∷ rest) (λ d. read_all (next ∷ rest) d) done) (after rest (λ d. read_all rest d) done)
    where
      go : (o : Option Setting) (a : Option Text) (b : Bool)
          → ((s : Setting) → option_and_then (λ (d : Settings). read names d None (next ∷ rest)) (with_setting done s)
          ≡ option_and_then (add_all done) (option_map (λ more. s ∷ more) (all_in names (next ∷ rest))))
          → ((s : Setting) → option_and_then (λ (d : Settings). read names d None rest) (with_setting done s)
          ≡ option_and_then (add_all done) (option_map (λ more. s ∷ more) (all_in names rest)))
          → option_map_or (λ (s : Setting). option_and_then (λ (d : Settings). read names d None (next ∷ rest)) (with_setting done s)) o
          (option_and_then (λ (name : Text). cond b None (option_and_then (λ (d : Settings). read names d None rest) (with_setting done (name, next)))) a)
          ≡ option_and_then (add_all done) (option_map_or (λ (s : Setting). option_map (λ more. s ∷ more) (all_in names (next ∷ rest))) o
          (option_and_then (λ (s : Setting). option_map (λ more. s ∷ more) (all_in names rest))
          (cond b None (option_map {U = Setting} (λ name. (name, next)) a))))
      go (Some s) a b joined separate = joined s
      go None None true joined separate = refl
      go None None false joined separate = refl
      go None (Some name) true joined separate = refl
      go None (Some name) false joined separate = separate (name, next)

-- ---- no option is given twice

given_more : (name : Text) (done : Settings) (s : Setting) → is_given name (done ++ s ∷ []) ≡ (is_given name done || bytes_eq name s.0)
given_more name [] s = last (bytes_eq s.0 name) ∙ eq_sym s.0 name
  where
    last : (b : Bool) → (b || false) ≡ b
    last true = refl
    last false = refl
given_more name (d ∷ rest) s = ap (λ b. bytes_eq d.0 name || b) (given_more name rest s) ∙ assoc (bytes_eq d.0 name) (is_given name rest) (bytes_eq name s.0)
  where
    assoc : (a b c : Bool) → (a || (b || c)) ≡ ((a || b) || c)
    assoc true b c = refl
    assoc false b c = refl

abbrev all_new : Settings → Settings → Bool
all_new done = list_all (λ (s : Setting). not (is_given s.0 done))

new_more : (done : Settings) (s : Setting) (more : Settings) → all_new (done ++ s ∷ []) more ≡ (all_new done more && not (is_given s.0 more))
new_more done s [] = refl
new_more done s (t ∷ more) =
    ap₂ (λ a b. not a && b) (given_more t.0 done s) (new_more done s more)
    ∙ regroup (is_given t.0 done) (bytes_eq t.0 s.0) (all_new done more) (is_given s.0 more)
  where
    regroup : (a b c d : Bool) → (not (a || b) && (c && not d)) ≡ ((not a && c) && not (b || d))
    regroup true b c d = refl
    regroup false true true d = refl
    regroup false true false d = refl
    regroup false false c d = refl

add_all_is : (more done : Settings) → add_all done more ≡ cond (are_distinct more && all_new done more) (Some (done ++ more)) None
add_all_is [] done = ap Some (sym (append-nil done))
add_all_is (s ∷ more) done = go (is_given s.0 done) (add_all_is more (done ++ s ∷ []))
  where
    swapped : (d g a : Bool) → (d && (a && not g)) ≡ ((not g && d) && a)
    swapped true true true = refl
    swapped true true false = refl
    swapped true false a = last a
      where
        last : (a : Bool) → (a && true) ≡ a
        last true = refl
        last false = refl
    swapped false true a = refl
    swapped false false a = refl

    no : (b : Bool) → (b && false) ≡ false
    no true = refl
    no false = refl

    go : (g : Bool) → add_all (done ++ s ∷ []) more ≡ cond (are_distinct more && all_new (done ++ s ∷ []) more) (Some ((done ++ s ∷ []) ++ more)) None
        → option_and_then (λ (d : Settings). add_all d more) (cond g None (Some (done ++ s ∷ [])))
        ≡ cond ((not (is_given s.0 more) && are_distinct more) && (not g && all_new done more)) (Some (done ++ s ∷ more)) None
    go true next = ap (λ b. cond b (Some (done ++ s ∷ more)) None) (sym (no (not (is_given s.0 more) && are_distinct more)))
    go false next =
        next ∙ ap₂ (λ b l. cond b (Some l) None)
        (ap (λ b. are_distinct more && b) (new_more done s more) ∙ swapped (are_distinct more) (is_given s.0 more) (all_new done more))
        (append_assoc done (s ∷ []) more)

all_new_of_none : (more : Settings) → all_new [] more ≡ true
all_new_of_none [] = refl
all_new_of_none (s ∷ more) = all_new_of_none more

pub read_is : (names words : List Text) → read names [] None words ≡ settings_in names words
read_is names words = read_all names words [] ∙ go (all_in names words)
  where
    keep : (b : Bool) → (b && true) ≡ b
    keep true = refl
    keep false = refl

    go : (o : Option Settings) → option_and_then (add_all []) o ≡ option_and_then if_distinct o
    go None = refl
    go (Some more) = add_all_is more [] ∙ ap (λ b. cond b (Some more) None) (ap (λ b. are_distinct more && b) (all_new_of_none more) ∙ keep (are_distinct more))
