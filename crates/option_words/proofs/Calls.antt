-- What clap returns for a command with long options.
use Rattle.std.proofs.Common.{◌≡◌, ℕ, suc, ◌+◌, ◌<◌, length, get_or, arith, ◌∙◌, Bool, true, false, cond, ◌&&◌, ◌||◌, List, [], ◌∷◌, ◌++◌, Some, None}
use Rattle.std.proofs.Common.{refl, sym, ap, map, option_map, true≢false, take}
use Rattle.std.proofs.lemmas.List.{map-append}
use Rattle.std.proofs.Math.Seq.{take-suc}
use Rattle.std.specs.Borrow.{Bor}
use Rattle.std.specs.List.{list_all, list_any}
use Rattle.std.specs.Str.{bytes_eq, is_utf8}
use Rattle.clap.specs.Faults.{fault_of, is_simple_and_free}
use Rattle.clap.specs.Simple.{App, is_simple, matches_of, with_rule}
use Rattle.clap.specs.Takes.{takes}
use Rattle.clap.specs.Walk.{Row, first_of}
use Rattle.option_words.specs.Options.{Setting, Text, are_names, settings_in, value_for}
use Rattle.option_words.specs.Clap.{are_readable, is_dashes, option_rule, options_app, options_shape, rows_for}
use Rattle.option_words.proofs.Rules.{is_simple_app}
use Rattle.option_words.proofs.Grammar.{dashes_none}
use Rattle.option_words.proofs.Distinct.{read_is}
use Rattle.option_words.proofs.Walks.{takes_settings}
use Rattle.option_words.proofs.Faults.{clear_takes, is_free}

-- the command with one option more
pub more_options : (name : Text) (names : List Text) (t : Text) → with_rule (options_app name names) (option_rule t) ≡ options_app name (names ++ t ∷ [])
more_options name names t = ap (λ rs. record { top = options_shape name rs; subs = [] }) (sym (map-append option_rule names (t ∷ [])))

pub next_options : (name : Text) (xs : List (Bor Text)) (i : ℕ) (d : Bor Text) → i < length xs
    → with_rule (options_app name (map (λ (x : Bor Text). x.now) (take i xs))) (option_rule (get_or xs i d).now)
    ≡ options_app name (map (λ (x : Bor Text). x.now) (take (i + 1) xs))
next_options name xs i d lt =
    let next : suc i ≡ i + 1 = omega arith in
    more_options name (map (λ (x : Bor Text). x.now) (take i xs)) (get_or xs i d).now
    ∙ ap (options_app name) (sym (map-append (λ (x : Bor Text). x.now) (take i xs) (get_or xs i d ∷ []))
    ∙ ap (map (λ (x : Bor Text). x.now)) (sym (take-suc xs i d lt) ∙ ap (λ k. take k xs) next))

readable : (words : List Text) → list_any is_dashes words ≡ false → list_all is_utf8 words ≡ true → are_readable words ≡ true
readable [] none all = refl
readable (w ∷ rest) none all = go (is_dashes w) (is_utf8 w) refl refl none all (readable rest)
  where
    go : (a b : Bool) → is_dashes w ≡ a → is_utf8 w ≡ b → (a || list_any is_dashes rest) ≡ false → (b && list_all is_utf8 rest) ≡ true
        → (list_any is_dashes rest ≡ false → list_all is_utf8 rest ≡ true → are_readable rest ≡ true) → are_readable (w ∷ rest) ≡ true
    go true b f g none all more = absurd (true≢false none)
    go false false f g none all more = absurd (true≢false (sym all))
    go false true f g none all more = rw (f, g) (more none all)

pub refused_words : (names words : List Text) → are_names names ≡ true → list_any is_dashes words ≡ true → None ≡ option_map rows_for (settings_in names words)
refused_words names words ok some = sym (ap (option_map rows_for) (sym (read_is names words) ∙ dashes_none names ok words some))

module _ (name : Text) (names words : List Text) (ok : are_names names ≡ true) (none : list_any is_dashes words ≡ false)
    (all : list_all is_utf8 words ≡ true) where
  given : cond (takes (options_app name names) words) (Some (matches_of (options_app name names) words)) None ≡ option_map rows_for (settings_in names words)
  given = takes_settings name names ok words (readable words none all)

  pub ok_gives : (a : App) (rows : List Row) → a ≡ options_app name names → (is_simple_and_free a ≡ true → fault_of a words ≡ [])
      → (is_simple a ≡ true → rows ≡ matches_of a words)
      → Some rows ≡ option_map rows_for (settings_in names words)
  ok_gives a rows is clear matches =
      let taken = clear_takes name names words (ap (λ b. fault_of b words) (sym is) ∙ clear (ap is_simple_and_free is ∙ is_free name names)) in
      let same : rows ≡ matches_of (options_app name names) words = matches (ap is_simple is ∙ is_simple_app name names) ∙ ap (λ b. matches_of b words) is in
      ap Some same ∙ sym (ap (λ b. cond b (Some (matches_of (options_app name names) words)) None) taken) ∙ given

  pub err_gives : (a : App) → a ≡ options_app name names → (takes a words ≡ true → ⊥) → None ≡ option_map rows_for (settings_in names words)
  err_gives a is fails = go (takes (options_app name names) words) refl
    where
      go : (b : Bool) → takes (options_app name names) words ≡ b → None ≡ option_map rows_for (settings_in names words)
      go true e = absurd (fails (ap (λ x. takes x words) is ∙ e))
      go false e = sym (ap (λ b. cond b (Some (matches_of (options_app name names) words)) None) e) ∙ given

-- the value of an option, from its row
pub value_found : (name : Text) (settings : List Setting) → first_of name (rows_for settings) ≡ value_for name settings
value_found name [] = refl
value_found name (s ∷ rest) = go (bytes_eq s.0 name) refl (value_found name rest)
  where
    go : (b : Bool) → bytes_eq s.0 name ≡ b → first_of name (rows_for rest) ≡ value_for name rest
        → first_of name (rows_for (s ∷ rest)) ≡ value_for name (s ∷ rest)
    go true e more = rw e refl
    go false e more = rw e more
