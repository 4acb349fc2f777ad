-- What clap builds of a command with long options, and which rule a word names.
use Rattle.std.proofs.Common.{◌≡◌, ◌∙◌, ℕ, Bool, true, false, cond, not, ◌&&◌, ◌||◌, List, [], ◌∷◌, Option, Some, None, refl, ap, map}
use Rattle.std.specs.List.{count_by, fold, list_all, list_any}
use Rattle.std.specs.Option.{is_some}
use Rattle.std.specs.Str.{bytes_eq}
use Rattle.std.proofs.lemmas.Slice.Eq.{bytes_eq-Decides}
use Rattle.clap.specs.Walk.{Row, Rule, Walk, arg_by_id, arg_by_index, arg_by_long, arg_by_short, finished, has_row, is_early_multiple, nothing_held}
use Rattle.clap.specs.Walk.{rows_after, settled, walk, walk_from, walked, with_default}
use Rattle.clap.specs.Simple.{App, Shape, built, entered, filled, filled_from, is_simple, matches_of, names_of}
use Rattle.clap.specs.Takes.{built_takes, default_passes, entered_passes, is_given, level_passes, settle_passes, takes, walk_passes}
use Rattle.option_words.specs.Options.{Text}
use Rattle.option_words.specs.Clap.{option_rule, options_app, options_shape}

-- the rule as building fills it in
abbrev pub full : Text → Rule
full name = filled (option_rule name)

abbrev pub fulls : List Text → List Rule
fulls = map full

pub filled_is : (names : List Text) → filled_from 1 (map option_rule names) ≡ fulls names
filled_is [] = refl
filled_is (n ∷ rest) = ap (λ rs. full n ∷ rs) (filled_is rest)

-- whether the text is one of the names
abbrev pub is_known : List Text → Text → Bool
is_known names t = list_any (λ n. bytes_eq n t) names

pub same_text : (a b : Text) → bytes_eq a b ≡ true → a ≡ b
same_text a b e = (bytes_eq-Decides a b).0 e

pub self_text : (a : Text) → bytes_eq a a ≡ true
self_text a = (bytes_eq-Decides a a).1 refl

abbrev if_known : Bool → Text → Option Rule
if_known known t = cond known (Some (full t)) None

pub by_long : (names : List Text) (t : Text) → arg_by_long (fulls names) t ≡ cond (is_known names t) (Some (full t)) None
by_long [] t = refl
by_long (n ∷ rest) t = go (bytes_eq n t) refl (by_long rest t)
  where
    go : (b : Bool) → bytes_eq n t ≡ b → arg_by_long (fulls rest) t ≡ cond (is_known rest t) (Some (full t)) None
        → arg_by_long (fulls (n ∷ rest)) t ≡ cond (is_known (n ∷ rest) t) (Some (full t)) None
    go true e more = rw e (ap (λ x. Some (full x)) (same_text n t e))
    go false e more = rw e more

pub by_id : (names : List Text) (t : Text) → arg_by_id (fulls names) t ≡ cond (is_known names t) (Some (full t)) None
by_id [] t = refl
by_id (n ∷ rest) t = go (bytes_eq n t) refl (by_id rest t)
  where
    go : (b : Bool) → bytes_eq n t ≡ b → arg_by_id (fulls rest) t ≡ cond (is_known rest t) (Some (full t)) None
        → arg_by_id (fulls (n ∷ rest)) t ≡ cond (is_known (n ∷ rest) t) (Some (full t)) None
    go true e more = rw e (ap (λ x. Some (full x)) (same_text n t e))
    go false e more = rw e more

pub by_index : (names : List Text) (i : ℕ) → arg_by_index (fulls names) i ≡ None
by_index [] i = refl
by_index (n ∷ rest) i = by_index rest i

pub by_short : (names : List Text) (x : ℕ) → arg_by_short (fulls names) x ≡ None
by_short [] x = refl
by_short (n ∷ rest) x = by_short rest x

pub defaults_pass : (names : List Text) → list_all default_passes (fulls names) ≡ true
defaults_pass [] = refl
defaults_pass (n ∷ rest) = defaults_pass rest

all_simple : (names : List Text) → list_all (λ (a : Rule). a.is_simple) (map option_rule names) ≡ true
all_simple [] = refl
all_simple (n ∷ rest) = all_simple rest

all_full_simple : (names : List Text) → list_all (λ (a : Rule). a.is_simple) (fulls names) ≡ true
all_full_simple [] = refl
all_full_simple (n ∷ rest) = all_full_simple rest

none_early : (k : ℕ) (names : List Text) → list_any (is_early_multiple k) (fulls names) ≡ false
none_early k [] = refl
none_early k (n ∷ rest) = none_early k rest

pub all_free : (names : List Text) → list_all (λ (a : Rule). a.is_free) (fulls names) ≡ true
all_free [] = refl
all_free (n ∷ rest) = all_free rest

pub none_wanted : (rows : List Row) (names : List Text) → list_all (λ (a : Rule). not a.required || is_given a.id rows) (fulls names) ≡ true
none_wanted rows [] = refl
none_wanted rows (n ∷ rest) = none_wanted rows rest

pub is_simple_app : (name : Text) (names : List Text) → is_simple (options_app name names) ≡ true
is_simple_app name names =
    rw (all_simple names, filled_is names, all_full_simple names, none_early (count_by (λ (a : Rule). is_some a.index) (fulls names)) names) refl

-- no option has a default
no_default : (rows : List Row) (n : Text) → with_default rows (full n) ≡ rows
no_default rows n = go (has_row n rows) refl
  where
    go : (b : Bool) → has_row n rows ≡ b → with_default rows (full n) ≡ rows
    go true e = rw e refl
    go false e = rw e refl

pub nothing_more : (rows : List Row) (names : List Text) → fold with_default rows (fulls names) ≡ rows
nothing_more rows [] = refl
nothing_more rows (n ∷ rest) = ap (λ r. fold with_default r (fulls rest)) (no_default rows n) ∙ nothing_more rows rest

-- the command as clap builds it
abbrev pub built_shape : Text → List Text → Shape
built_shape name names = record (options_shape name (fulls names)) { disable_help_subcommand = true; is_built = true }

pub built_is : (name : Text) (names : List Text) → built (options_app name names) ≡ record { top = built_shape name names; subs = [] }
built_is name names = ap (λ rs. record { top = record (built_shape name names) { rules = rs }; subs = [] }) (filled_is names)

-- a command without subcommands takes the words that its own level takes
pub leaf_is : (s : Shape) (words : List Text) → built_takes (record { top = s; subs = [] }) nothing_held words ≡ level_passes s [] nothing_held words false
leaf_is s words = go (walk s.rules [] nothing_held words).stopped
  where
    go : (stop : Option (Text × List Text))
        → (entered_passes (record { top = s; subs = [] }) stop && level_passes s [] nothing_held words
        (is_some (entered (record { top = s; subs = [] }) stop))) ≡ level_passes s [] nothing_held words false
    go None = refl
    go (Some p) = refl

-- the walk passes, and its last option has its value
abbrev pub walk_ends : List Text → Text → Walk → List Text → Bool
walk_ends names name w words = walk_passes (built_shape name names) [] w words && settle_passes (fulls names) false
    (fold (walked (fulls names) []) w words).held

and_true : (b : Bool) → (b && true) ≡ b
and_true true = refl
and_true false = refl

pub takes_is : (name : Text) (names words : List Text) → takes (options_app name names) words ≡ walk_ends names name (walk_from nothing_held) words
takes_is name names words =
    rw (is_simple_app name names) (ap (λ a. built_takes a nothing_held words) (built_is name names) ∙ leaf_is (built_shape name names) words ∙ after)
  where
    after : level_passes (built_shape name names) [] nothing_held words false ≡ walk_ends names name (walk_from nothing_held) words
    after = rw (defaults_pass names, all_free names, none_wanted (finished (fulls names) (walk (fulls names) [] nothing_held words).held) names)
        (ap (λ b. walk_passes (built_shape name names) [] (walk_from nothing_held) words && b) (and_true _))

pub matches_are : (name : Text) (names words : List Text)
    → matches_of (options_app name names) words ≡ (settled (fulls names) (fold (walked (fulls names) []) (walk_from nothing_held) words).held).rows
matches_are name names words =
    ap (λ (a : App). rows_after a.top.rules (names_of a) words) (built_is name names) ∙ nothing_more _ names
