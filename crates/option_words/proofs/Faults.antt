-- A command with long options takes the words at which it has no fault.
use Rattle.std.proofs.Common.{◌≡◌, ◌∙◌, ℕ, suc, zero, ◌==◌, Bool, true, false, cond, ◌&&◌, ◌||◌, List, [], ◌∷◌, Option, Some, None, refl, sym, ap}
use Rattle.std.proofs.Common.{ap₂, arith, length, true≢false}
use Rattle.std.specs.Prelude.{slice_get}
use Rattle.std.specs.Option.{is_some, option_map_or}
use Rattle.std.specs.Str.{bytes_eq, chars}
use Rattle.clap.specs.Kinds.{Kinds, or_else}
use Rattle.clap.specs.Lexer.{long_of, short_of}
use Rattle.clap.specs.Walk.{Held, Row, Rule, Step, Waiting, Walk, arg_by_id, arg_by_long, has_row, idle, next, nothing_held, option, positional}
use Rattle.clap.specs.Walk.{settled, subcommand, trailing, value, walk, walk_from, walked, word_met}
use Rattle.clap.specs.Takes.{bundle_step_passes, flag_word_passes, flags_pass, long_passes, other_passes, settle_passes, step_passes, takes}
use Rattle.clap.specs.Takes.{turn_passes, use_passes, walk_passes, word_passes}
use Rattle.clap.specs.Faults.{bundle_step_fault, fault_of, flag_word_fault, is_free_app, flags_fault, is_simple_and_free, level_fault, long_fault}
use Rattle.clap.specs.Faults.{other_fault, settle_fault, step_fault, turn_fault, use_fault, walk_fault, word_fault, built_fault}
use Rattle.std.proofs.lemmas.Bool.Decides.{nat_tests}
use Rattle.clap.specs.Simple.{App, Shape}
use Rattle.clap.proofs.FaultLemmas.{leaf_fault}
use Rattle.option_words.specs.Options.{Text}
use Rattle.option_words.specs.Clap.{options_app}
use Rattle.option_words.proofs.Rules.{all_free, built_is, built_shape, by_id, by_index, by_long, by_short, full, fulls, is_known, is_simple_app, takes_is}

abbrev is_clear : Kinds → Bool
is_clear [] = true
is_clear (k ∷ ks) = false

halves : (a b : Kinds) → or_else a b ≡ [] → (a ≡ []) × (b ≡ [])
halves [] b e = (refl, e)
halves (k ∷ ks) b e = absurd (true≢false (sym (ap is_clear e)))

never : {X : Type 0} (ks : Kinds) → is_clear ks ≡ false → ks ≡ [] → X
never ks faulty e = absurd (true≢false (sym (ap is_clear e) ∙ faulty))

use_clear : (t : Text) (values : List Text) (rows : List Row) → use_fault false (full t) values rows ≡ [] → use_passes false (full t) values rows ≡ true
use_clear t [] rows e = never _ refl e
use_clear t (v ∷ []) rows e = go (has_row t rows) refl
  where
    go : (b : Bool) → has_row t rows ≡ b → use_passes false (full t) (v ∷ []) rows ≡ true
    go true f = never (use_fault false (full t) (v ∷ []) rows) (rw f refl) e
    go false f = rw f refl
use_clear t (v ∷ w ∷ rest) rows e =
    let some : (length (v ∷ w ∷ rest) == 0) ≡ false = grind (arith, nat_tests) in
    let more : (1 == length (v ∷ w ∷ rest)) ≡ false = grind (arith, nat_tests) in
    never (use_fault false (full t) (v ∷ w ∷ rest) rows) (rw (some, more) refl) e

module _ (name : Text) (names : List Text) where
  abbrev c : List Rule
  c = fulls names

  abbrev shape : Shape
  shape = built_shape name names

  flags_clear : (k : ℕ) (flags : Text) (skip : ℕ) (h : Held) → flags_fault c false k flags skip h ≡ [] → flags_pass c false k flags skip h ≡ true
  unfolding flags_fault flags_pass
  flags_clear zero flags skip h e = refl
  flags_clear (suc k) flags skip h e = go (slice_get (chars flags) 0) skip e (λ f s g. flags_clear k f s h g)
    where
      go : (o : Option ℕ) (skip : ℕ) → bundle_step_fault c false o flags skip h (flags_fault c false k) ≡ []
          → ((f : Text) (s : ℕ) → flags_fault c false k f s h ≡ [] → flags_pass c false k f s h ≡ true)
          → bundle_step_passes c false o flags skip h (flags_pass c false k) ≡ true
      go None skip e more = refl
      go (Some x) zero e more = never (bundle_step_fault c false (Some x) flags 0 h (flags_fault c false k)) (rw (by_short names x) refl) e
      go (Some x) (suc skip) e more = more _ skip e

  settle_clear : (h : Held) → settle_fault c false h ≡ [] → settle_passes c false h ≡ true
  settle_clear h e = go h.pending e
    where
      found : (b : Bool) (t : Text) (values : List Text) → option_map_or (λ (a : Rule). use_fault false a values h.rows) (cond b (Some (full t)) None) [] ≡ []
          → option_map_or (λ (a : Rule). use_passes false a values h.rows) (cond b (Some (full t)) None) true ≡ true
      found true t values e = use_clear t values h.rows e
      found false t values e = refl

      go : (p : Option (Text × List Text)) → option_map_or (λ (p : Text × List Text). option_map_or (λ (a : Rule). use_fault false a p.1 h.rows)
          (arg_by_id c p.0) []) p [] ≡ []
          → option_map_or (λ (p : Text × List Text). option_map_or (λ (a : Rule). use_passes false a p.1 h.rows) (arg_by_id c p.0) true) p true ≡ true
      go None e = refl
      go (Some p) e = rw (by_id names p.0) (found (is_known names p.0) p.0 p.1 (rw (by_id names p.0) at e))

  long_clear : (t : Text) (v : Option Text) (h : Held) → long_fault c false (arg_by_long c t) v h ≡ [] → long_passes c false (arg_by_long c t) v h ≡ true
  long_clear t v h e = rw (by_long names t) (go (is_known names t) v (rw (by_long names t) at e))
    where
      go : (b : Bool) (v : Option Text) → long_fault c false (cond b (Some (full t)) None) v h ≡ []
          → long_passes c false (cond b (Some (full t)) None) v h ≡ true
      go false v e = never _ refl e
      go true None e = settle_clear h e
      go true (Some u) e =
          let parts = halves (settle_fault c false h) (use_fault false (full t) (u ∷ []) (settled c h).rows) e in
          ap₂ ◌&&◌ (settle_clear h parts.0) (use_clear t (u ∷ []) (settled c h).rows parts.1)

  flag_word_clear : (o : Option (Text × Option Text)) (word : Text) (h : Held) → flag_word_fault c false o word h ≡ []
      → flag_word_passes c false o word h ≡ true
  flag_word_clear (Some p) word h e = long_clear p.0 p.1 h e
  flag_word_clear None word h e = go (short_of word) e
    where
      go : (o : Option Text) → option_map_or (λ (flags : Text). flags_fault c false (length flags) flags h.skip (record h { skip = 0 })) o [] ≡ []
          → option_map_or (λ (flags : Text). flags_pass c false (length flags) flags h.skip (record h { skip = 0 })) o true ≡ true
      go None e = refl
      go (Some flags) e = flags_clear (length flags) flags h.skip (record h { skip = 0 }) e

  other_clear : (word : Text) (h : Held) → other_fault shape None word h ≡ [] → other_passes shape None word h ≡ true
  other_clear word h e = go (bytes_eq word (45 ∷ 45 ∷ [])) e
    where
      go : (b : Bool) → cond b [] (flag_word_fault c false (long_of word) word h) ≡ [] → (b || flag_word_passes c false (long_of word) word h) ≡ true
      go true e = refl
      go false e = flag_word_clear (long_of word) word h e

  word_clear : (is_trailing : Bool) (waiting : Waiting) (word : Text) (h : Held) → word_fault shape [] is_trailing waiting word h ≡ []
      → word_passes shape [] is_trailing waiting word h ≡ true
  word_clear true waiting word h e = refl
  word_clear false idle word h e = other_clear word h e
  word_clear false (option id) word h e = other_clear word h e
  word_clear false positional word h e = other_clear word h e

  step_clear : (position : ℕ) (h : Held) (step : Step) → step_fault shape position h step ≡ [] → step_passes shape position h step ≡ true
  step_clear position h value e = never (step_fault shape position h value) (rw (by_index names position) refl) e
  step_clear position h (next w) e = refl
  step_clear position h (trailing p) e = refl
  step_clear position h (subcommand t) e = refl

  turn_clear : (w : Walk) (word : Text) → turn_fault shape [] w word ≡ [] → turn_passes shape [] w word ≡ true
  turn_clear w word e = go (is_some w.stopped) e
    where
      met : Held × Step
      met = word_met c [] w.is_trailing w.waiting w.position word w.held

      go : (b : Bool) → cond b [] (or_else (word_fault shape [] w.is_trailing w.waiting word w.held) (step_fault shape w.position met.0 met.1)) ≡ []
          → (b || (word_passes shape [] w.is_trailing w.waiting word w.held && step_passes shape w.position met.0 met.1)) ≡ true
      go true e = refl
      go false e =
          let parts = halves (word_fault shape [] w.is_trailing w.waiting word w.held) (step_fault shape w.position met.0 met.1) e in
          ap₂ ◌&&◌ (word_clear w.is_trailing w.waiting word w.held parts.0) (step_clear w.position met.0 met.1 parts.1)

  walk_clear : (words : List Text) (w : Walk) → walk_fault shape [] w words ≡ [] → walk_passes shape [] w words ≡ true
  unfolding walk_fault walk_passes
  walk_clear [] w e = refl
  walk_clear (word ∷ rest) w e =
      let parts = halves (turn_fault shape [] w word) (walk_fault shape [] (walked c [] w word) rest) e in
      ap₂ ◌&&◌ (turn_clear w word parts.0) (walk_clear rest (walked c [] w word) parts.1)

  pub is_free : is_simple_and_free (options_app name names) ≡ true
  is_free = rw (is_simple_app name names) (ap is_free_app (built_is name names) ∙ ap (λ b. b && true) (all_free names))

  -- without a fault the words are taken
  pub clear_takes : (words : List Text) → fault_of (options_app name names) words ≡ [] → takes (options_app name names) words ≡ true
  clear_takes words e =
      let built_app : App = record { top = shape; subs = [] } in
      let end = (walk c [] nothing_held words).held in
      let level : level_fault shape [] nothing_held words false [] ≡ [] = sym (leaf_fault built_app nothing_held words refl)
      ∙ ap (λ a. built_fault a nothing_held words) (sym (built_is name names)) ∙ e in
      let first = halves (walk_fault shape [] (walk_from nothing_held) words) _ level in
      let second = halves (settle_fault c false end) _ first.1 in
      takes_is name names words ∙ ap₂ ◌&&◌ (walk_clear words (walk_from nothing_held) first.0) (settle_clear end second.0)
