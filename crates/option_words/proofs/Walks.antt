-- What clap's walk over the words leads to, for a command with long options.
use Rattle.std.proofs.Common.{◌≡◌, ⊎_elim, ◌∙◌, ℕ, Bool, true, false, cond, not, ◌&&◌, ◌||◌, List, [], ◌∷◌, ◌++◌, Option, Some, None, refl, sym, ap}
use Rattle.std.proofs.Common.{ap₂, subst, option_map, option_and_then, true≢false}
use Rattle.std.specs.List.{fold}
use Rattle.std.specs.Option.{is_some, option_map_or}
use Rattle.std.specs.Str.{bytes_eq}
use Rattle.clap.specs.Lexer.{long_of, name_and_value}
use Rattle.std.proofs.lemmas.List.{append-nil, map-append}
use Rattle.clap.specs.Simple.{Shape, matches_of}
use Rattle.clap.proofs.WalkLemmas.{both}
use Rattle.clap.specs.Walk.{Held, Row, Rule, Step, Waiting, Walk, after_flag, after_step, arg_by_id, arg_by_long, at_row, has_row, idle, long_met}
use Rattle.clap.specs.Walk.{long_or_other, more_values, option, plain_word, positional, settled, short_or_plain, trailing, used, walked, with_values}
use Rattle.clap.specs.Takes.{bundle_passes, flag_word_passes, flags_pass, long_passes, settle_passes, step_passes, takes, walk_passes}
use Rattle.clap.specs.declared.builder.value_parser.Reading.TheVariants as reading
use Rattle.clap.specs.declared.parser.matches.ValueSource.TheVariants.{CommandLine}
use Rattle.option_words.specs.Options.{Text, Setting, are_names, begins_with_hyphen, is_given, settings_in}
use Rattle.option_words.specs.Clap.{are_readable, is_readable, options_app, row_for, rows_for}
use Rattle.option_words.proofs.Rules.{built_shape, by_id, by_index, by_long, by_short, full, fulls, is_known, matches_are, self_text, takes_is, walk_ends}
use Rattle.option_words.proofs.Distinct.{read_is}
use Rattle.option_words.proofs.Grammar.{alone_by, joined_by, alone_long, joined_long, plain_alone, plain_joined, plain_long, plain_short, IsShort}
use Rattle.option_words.proofs.Grammar.{read, sorts, undashed, unsound_alone, unsound_first, unsound_joined, with_setting}

abbrev Settings : Type 0
Settings = List Setting

-- the state of the walk: the settings so far, and the option that waits for its value or is not settled yet
abbrev held : Settings → Option (Text × List Text) → Held
held done p = record { rows = rows_for done; pending = p; skip = 0 }

abbrev at : Held → Waiting → Walk
at h waiting = record { held = h; waiting = waiting; position = 1; is_trailing = false; stopped = None }

-- ---- one use of an option

has_row_is : (name : Text) (done : Settings) → has_row name (rows_for done) ≡ is_given name done
has_row_is name [] = refl
has_row_is name (d ∷ rest) = ap (λ b. bytes_eq d.0 name || b) (has_row_is name rest)

at_row_is : (id : Text) (change : Row → List Row) (missing : List Row) (done : Settings) → is_given id done ≡ false
    → at_row id change missing (rows_for done) ≡ rows_for done ++ missing
at_row_is id change missing [] none = refl
at_row_is id change missing (d ∷ rest) none = go (bytes_eq d.0 id) refl (at_row_is id change missing rest)
  where
    go : (b : Bool) → bytes_eq d.0 id ≡ b → (is_given id rest ≡ false → at_row id change missing (rows_for rest) ≡ rows_for rest ++ missing)
        → at_row id change missing (rows_for (d ∷ rest)) ≡ rows_for (d ∷ rest) ++ missing
    go true e more = absurd (true≢false (sym (ap (λ b. b || is_given id rest) e) ∙ none))
    go false e more = rw e (ap (λ rows. row_for d ∷ rows) (more (sym (ap (λ b. b || is_given id rest) e) ∙ none)))

used_is : (s : Setting) (done : Settings) → is_given s.0 done ≡ false → used (full s.0) (s.1 ∷ []) (rows_for done) ≡ rows_for (done ++ s ∷ [])
used_is s done none =
    ap (with_values s.0 reading.AsWritten CommandLine (s.1 ∷ [])) (at_row_is s.0 (λ _. []) [] done none ∙ append-nil (rows_for done))
    ∙ at_row_is s.0 (more_values CommandLine (s.1 ∷ [])) (row_for s ∷ []) done none ∙ sym (map-append row_for done (s ∷ []))

module _ (name : Text) (names : List Text) where
  abbrev c : List Rule
  c = fulls names

  abbrev shape : Shape
  shape = built_shape name names

  -- between two words: an option may wait for its value
  abbrev state : Settings → Option Text → Walk
  state done None = at (held done None) idle
  state done (Some t) = at (held done (Some (t, []))) (option t)

  -- the rows at the end of the walk; None if it fails
  abbrev outcome : Walk → List Text → Option (List Row)
  outcome w words = cond (walk_ends names name w words) (Some (settled c (fold (walked c []) w words).held).rows) None

  abbrev after : Bool → Walk → List Text → Option (List Row)
  after b w rest = cond ((b && walk_passes shape [] w rest) && settle_passes c false (fold (walked c []) w rest).held)
      (Some (settled c (fold (walked c []) w rest).held).rows) None

  abbrev step_to : Bool → Waiting → Text → Held → Held × Step → List Text → Option (List Row)
  step_to b waiting word h met rest = after (b && step_passes shape 1 met.0 met.1) (after_step c word (at h waiting) met.0 met.1) rest

  abbrev after_long : Option Rule → Option Text → Held → Waiting → Text → List Text → Option (List Row)
  after_long found v h waiting word rest = step_to (long_passes c false found v h) waiting word h
      (after_flag c waiting word (long_met c found v h).0 (long_met c found v h).1) rest

  ended : (h : Held) (waiting : Waiting) → outcome (at h waiting) [] ≡ cond (settle_passes c false h) (Some (settled c h).rows) None
  unfolding walk_passes
  ended h waiting = refl

  -- a word that begins with `--`
  long_turn : (h : Held) (waiting : Waiting) (z : ℕ) (zs : Text) (rest : List Text)
      → outcome (at h waiting) ((45 ∷ 45 ∷ z ∷ zs) ∷ rest) ≡ after_long (arg_by_long c (name_and_value (z ∷ zs)).0) (name_and_value (z ∷ zs)).1 h waiting
      (45 ∷ 45 ∷ z ∷ zs) rest
  unfolding walk_passes walked
  long_turn h waiting z zs rest = no_call waiting
    where
      no_call : (waiting : Waiting)
          → outcome (at h waiting) ((45 ∷ 45 ∷ z ∷ zs) ∷ rest) ≡ after_long (arg_by_long c (name_and_value (z ∷ zs)).0)
          (name_and_value (z ∷ zs)).1 h waiting (45 ∷ 45 ∷ z ∷ zs) rest
      no_call idle = refl
      no_call (option id) = refl
      no_call positional = refl

  -- a word that does not begin with `-`
  plain_dash : (w : Text) → begins_with_hyphen w ≡ false → bytes_eq w (45 ∷ 45 ∷ []) ≡ false
  plain_dash [] e = refl
  plain_dash (x ∷ xs) e = rw e refl

  plain_turn : (h : Held) (waiting : Waiting) (w : Text) (rest : List Text) → begins_with_hyphen w ≡ false
      → outcome (at h waiting) (w ∷ rest) ≡ step_to true waiting w h (plain_word c waiting w h) rest
  unfolding walk_passes walked
  plain_turn h waiting w rest e = no_call waiting ∙ ap₂ by_cut (plain_dash w e) (plain_long w e) ∙ ap by_flags (plain_short w e)
    where
      by_cut : Bool → Option (Text × Option Text) → Option (List Row)
      by_cut d o = step_to (d || flag_word_passes c false o w h) waiting w h (cond d (h, trailing 1) (long_or_other c waiting w o h)) rest

      by_flags : Option Text → Option (List Row)
      by_flags o = step_to (option_map_or (λ flags. bundle_passes c false flags h) o true) waiting w h (short_or_plain c waiting w o h) rest

      no_call : (waiting : Waiting)
          → outcome (at h waiting) (w ∷ rest) ≡ step_to (bytes_eq w (45 ∷ 45 ∷ []) || flag_word_passes c false (long_of w) w h) waiting w h
          (cond (bytes_eq w (45 ∷ 45 ∷ [])) (h, trailing 1) (long_or_other c waiting w (long_of w) h)) rest
      no_call idle = refl
      no_call (option id) = refl
      no_call positional = refl

  -- if no option waits, such a word is refused
  idle_plain : (h : Held) (w : Text) (rest : List Text) → begins_with_hyphen w ≡ false → outcome (at h idle) (w ∷ rest) ≡ None
  idle_plain h w rest e = plain_turn h idle w rest e ∙ rw (by_index names 1) refl

  -- a word of short options is refused
  bundle_refused : (w : Text) → (k : IsShort w) → (h : Held) → h.skip ≡ 0 → bundle_passes c false (k.first ∷ k.rest) h ≡ false
  unfolding flags_pass
  bundle_refused w k h none = rw (none, k.chars, by_short names k.char) refl

  short_refused : (done : Settings) (p : Option (Text × List Text)) (waiting : Waiting) (w : Text) (rest : List Text) → is_readable w ≡ true → IsShort w
      → outcome (at (held done p) waiting) (w ∷ rest) ≡ None
  unfolding walk_passes walked
  short_refused done p waiting w rest readable k =
      no_call waiting ∙ ap₂ by_cut (undashed w readable) k.long ∙ ap by_first k.short
      ∙ ap (λ b. step_to b waiting w h (short_or_plain c waiting w (Some (k.first ∷ k.rest)) h) rest) (bundle_refused w k h refl)
    where
      h : Held
      h = held done p

      by_cut : Bool → Option (Text × Option Text) → Option (List Row)
      by_cut d o = step_to (d || flag_word_passes c false o w h) waiting w h (cond d (h, trailing 1) (long_or_other c waiting w o h)) rest

      by_first : Option Text → Option (List Row)
      by_first o = step_to (option_map_or (λ flags. bundle_passes c false flags h) o true) waiting w h (short_or_plain c waiting w o h) rest

      no_call : (waiting : Waiting)
          → outcome (at h waiting) (w ∷ rest) ≡ step_to (bytes_eq w (45 ∷ 45 ∷ []) || flag_word_passes c false (long_of w) w h) waiting w h
          (cond (bytes_eq w (45 ∷ 45 ∷ [])) (h, trailing 1) (long_or_other c waiting w (long_of w) h)) rest
      no_call idle = refl
      no_call (option id) = refl
      no_call positional = refl

  -- ---- an option that has its value and is not settled yet

  abbrev late : Settings → Setting → Held
  late done s = held done (Some (s.0, s.1 ∷ []))

  abbrev rule_if : Bool → Text → Option Rule
  rule_if b t = cond b (Some (full t)) None

  known_rule : (t : Text) → is_known names t ≡ true → arg_by_id c t ≡ Some (full t)
  known_rule t known = by_id names t ∙ ap (λ b. rule_if b t) known

  late_passes : (done : Settings) (s : Setting) → is_known names s.0 ≡ true → settle_passes c false (late done s) ≡ not (is_given s.0 done)
  late_passes done s known = rw (known_rule s.0 known, has_row_is s.0 done) (all_three (is_given s.0 done))
    where
      all_three : (b : Bool) → ((not b || false) && true) ≡ not b
      all_three true = refl
      all_three false = refl

  late_settles : (done : Settings) (s : Setting) → is_known names s.0 ≡ true → is_given s.0 done ≡ false → settled c (late done s) ≡ held (done ++ s ∷ []) None
  late_settles done s known none = rw (known_rule s.0 known) (ap (λ rows. record { rows = rows; pending = None; skip = 0 }) (used_is s done none))

  waiting_fails : (done : Settings) (t : Text) → is_known names t ≡ true → settle_passes c false (held done (Some (t, []))) ≡ false
  waiting_fails done t known = rw (known_rule t known) refl

  -- a use of an option settles the one before it
  settles_first : (h : Held) (t : Text) (v : Option Text) (word : Text) (rest : List Text) (b : Bool) → settle_passes c false h ≡ b
      → after_long (Some (full t)) v h idle word rest ≡ cond b (after_long (Some (full t)) v (settled c h) idle word rest) None
  settles_first h t (Some u) word rest true e = rw e refl
  settles_first h t None word rest true e = rw e refl
  settles_first h t (Some u) word rest false e = rw e refl
  settles_first h t None word rest false e = rw e refl

  -- so the walk is the walk with that option settled, or fails if the option was given before
  abbrev settled_at : Settings → Setting → Walk
  settled_at done s = at (held (done ++ s ∷ []) None) idle

  late_long : (done : Settings) (s : Setting) → is_known names s.0 ≡ true → (found : Bool) (t : Text) (v : Option Text) (word : Text) (rest : List Text)
      → after_long (rule_if found t) v (late done s) idle word rest
      ≡ cond (is_given s.0 done) None (after_long (rule_if found t) v (held (done ++ s ∷ []) None) idle word rest)
  late_long done s known false t v word rest = go (is_given s.0 done)
    where
      go : (b : Bool) → None ≡ cond {A = Option (List Row)} b None None
      go true = refl
      go false = refl
  late_long done s known true t v word rest =
      settles_first (late done s) t v word rest (not (is_given s.0 done)) (late_passes done s known) ∙ go (is_given s.0 done) refl
    where
      go : (b : Bool) → is_given s.0 done ≡ b → cond (not b) (after_long (Some (full t)) v (settled c (late done s)) idle word rest) None
          ≡ cond b None (after_long (Some (full t)) v (held (done ++ s ∷ []) None) idle word rest)
      go true e = refl
      go false e = ap (λ h. after_long (Some (full t)) v h idle word rest) (late_settles done s known e)

  late_is : (done : Settings) (s : Setting) → is_known names s.0 ≡ true → (words : List Text) → are_readable words ≡ true
      → outcome (at (late done s) idle) words ≡ cond (is_given s.0 done) None (outcome (settled_at done s) words)
  late_is done s known [] sound = ended (late done s) idle ∙ ap (λ b. cond b (Some (settled c (late done s)).rows) None) (late_passes done s known)
      ∙ go (is_given s.0 done) refl
      ∙ ap (cond (is_given s.0 done) None) (sym (ended (held (done ++ s ∷ []) None) idle))
    where
      go : (b : Bool) → is_given s.0 done ≡ b → cond (not b) (Some (settled c (late done s)).rows) None ≡ cond b None (Some (rows_for (done ++ s ∷ [])))
      go true e = refl
      go false e = ap (λ (h : Held). Some h.rows) (late_settles done s known e)
  late_is done s known (w ∷ rest) sound = ⊎_elim plain (⊎_elim long short) (sorts w (both (is_readable w) _ sound).0)
    where
      none : (b : Bool) → None ≡ cond {A = Option (List Row)} b None None
      none true = refl
      none false = refl

      plain : begins_with_hyphen w ≡ false → outcome (at (late done s) idle) (w ∷ rest) ≡ cond (is_given s.0 done) None (outcome (settled_at done s) (w ∷ rest))
      plain e = idle_plain (late done s) w rest e ∙ none (is_given s.0 done)
          ∙ ap (cond (is_given s.0 done) None) (sym (idle_plain (held (done ++ s ∷ []) None) w rest e))

      short : IsShort w → outcome (at (late done s) idle) (w ∷ rest) ≡ cond (is_given s.0 done) None (outcome (settled_at done s) (w ∷ rest))
      short k = let r = (both (is_readable w) _ sound).0 in short_refused done (Some (s.0, s.1 ∷ [])) idle w rest r k ∙ none (is_given s.0 done)
          ∙ ap (cond (is_given s.0 done) None) (sym (short_refused (done ++ s ∷ []) None idle w rest r k))

      dashed : (z : ℕ) (zs : Text) → outcome (at (late done s) idle) ((45 ∷ 45 ∷ z ∷ zs) ∷ rest)
          ≡ cond (is_given s.0 done) None (outcome (settled_at done s) ((45 ∷ 45 ∷ z ∷ zs) ∷ rest))
      dashed z zs =
          let p = name_and_value (z ∷ zs) in
          long_turn (late done s) idle z zs rest ∙ ap (λ o. after_long o p.1 (late done s) idle (45 ∷ 45 ∷ z ∷ zs) rest) (by_long names p.0)
          ∙ late_long done s known (is_known names p.0) p.0 p.1 (45 ∷ 45 ∷ z ∷ zs) rest
          ∙ ap (cond (is_given s.0 done) None) (sym (long_turn (held (done ++ s ∷ []) None) idle z zs rest
          ∙ ap (λ o. after_long o p.1 (held (done ++ s ∷ []) None) idle (45 ∷ 45 ∷ z ∷ zs) rest) (by_long names p.0)))

      long : ((z : ℕ) × (zs : Text) × (w ≡ 45 ∷ 45 ∷ z ∷ zs)) → outcome (at (late done s) idle) (w ∷ rest)
          ≡ cond (is_given s.0 done) None (outcome (settled_at done s) (w ∷ rest))
      long p = subst (λ u. outcome (at (late done s) idle) (u ∷ rest) ≡ cond (is_given s.0 done) None (outcome (settled_at done s) (u ∷ rest))) (sym p.2)
          (dashed p.0 p.1)

  -- ---- the walk reads what the grammar reads

  abbrev Gives : List Text → Type 0
  Gives words = (done : Settings) (p : Option Text) → option_map_or (is_known names) p true ≡ true
      → outcome (state done p) words ≡ option_map rows_for (read names done p words)

  fresh_long : (rest : List Text) → Gives rest → (done : Settings) (t : Text) (v : Option Text) (word : Text)
      → after_long (arg_by_long c t) v (held done None) idle word rest
      ≡ option_map rows_for (option_map_or (λ (s : Setting). option_and_then (λ (d : Settings). read names d None rest) (with_setting done s))
      (joined_by names (Some (t, v)))
      (option_and_then (λ (n : Text). read names done (Some n) rest) (alone_by names (Some (t, v)))))
  fresh_long rest more done t v word = ap (λ o. after_long o v (held done None) idle word rest) (by_long names t) ∙ go (is_known names t) refl v
    where
      new : (u : Text) (b : Bool) → is_given t done ≡ b → cond b None
          (outcome (at (record { rows = used (full t) (u ∷ []) (rows_for done); pending = None; skip = 0 }) idle) rest)
          ≡ option_map rows_for (option_and_then (λ (d : Settings). read names d None rest) (cond b None (Some (done ++ (t, u) ∷ []))))
      new u true e = refl
      new u false e = ap (λ rows. outcome (at (record { rows = rows; pending = None; skip = 0 }) idle) rest) (used_is (t, u) done e)
          ∙ more (done ++ (t, u) ∷ []) None refl

      once : (u : Text) (b : Bool) → after (((not b || false) && true) && true)
          (at (record { rows = used (full t) (u ∷ []) (rows_for done); pending = None; skip = 0 }) idle) rest
          ≡ cond b None (outcome (at (record { rows = used (full t) (u ∷ []) (rows_for done); pending = None; skip = 0 }) idle) rest)
      once u true = refl
      once u false = refl

      go : (b : Bool) → is_known names t ≡ b → (v : Option Text) → after_long (rule_if b t) v (held done None) idle word rest
          ≡ option_map rows_for (option_map_or (λ (s : Setting). option_and_then (λ (d : Settings). read names d None rest) (with_setting done s))
          (option_and_then {U = Setting} (λ (u : Text). cond b (Some (t, u)) None) v)
          (option_and_then (λ (n : Text). read names done (Some n) rest) (cond (is_some v) None (cond b (Some t) None))))
      go false e None = refl
      go false e (Some u) = refl
      go true e None = more done (Some t) e
      go true e (Some u) =
          ap (λ b. after (((not b || false) && true) && true) (at (record { rows = used (full t) (u ∷ []) (rows_for done); pending = None; skip = 0 }) idle)
          rest) (has_row_is t done)
          ∙ once u (is_given t done) ∙ new u (is_given t done) refl

  -- a value for the option that waits
  value_turn : (done : Settings) (t w : Text) (rest : List Text) → is_known names t ≡ true → begins_with_hyphen w ≡ false
      → outcome (state done (Some t)) (w ∷ rest) ≡ outcome (at (late done (t, w)) idle) rest
  value_turn done t w rest known e = plain_turn (held done (Some (t, []))) (option t) w rest e ∙ rw (known_rule t known, self_text t) refl

  waiting_long : (done : Settings) (t : Text) (found : Bool) (n : Text) (v : Option Text) (word : Text) (rest : List Text) → is_known names t ≡ true
      → after_long (rule_if found n) v (held done (Some (t, []))) (option t) word rest ≡ None
  waiting_long done t false n v word rest known = refl
  waiting_long done t true n None word rest known = rw (waiting_fails done t known) refl
  waiting_long done t true n (Some u) word rest known = rw (waiting_fails done t known) refl

  -- what the grammar does with a word, by what it is
  abbrev taken : Settings → List Text → Option Setting → Option Text → Option Settings
  taken done rest o a = option_map_or (λ (s : Setting). option_and_then (λ (d : Settings). read names d None rest) (with_setting done s)) o
      (option_and_then (λ (n : Text). read names done (Some n) rest) a)

  new_word : are_names names ≡ true → (w : Text) (rest : List Text) → is_readable w ≡ true → Gives rest → (done : Settings)
      → outcome (state done None) (w ∷ rest) ≡ option_map rows_for (read names done None (w ∷ rest))
  new_word ok w rest sound more done = ⊎_elim plain (⊎_elim long short) (sorts w sound)
    where
      plain : begins_with_hyphen w ≡ false → outcome (state done None) (w ∷ rest) ≡ option_map rows_for (read names done None (w ∷ rest))
      plain e = idle_plain (held done None) w rest e ∙ sym (ap₂ (λ o a. option_map rows_for (taken done rest o a)) (plain_joined names w e)
          (plain_alone names w e))

      short : IsShort w → outcome (state done None) (w ∷ rest) ≡ option_map rows_for (read names done None (w ∷ rest))
      short k = short_refused done None idle w rest sound k
          ∙ sym (ap₂ (λ o a. option_map rows_for (taken done rest o a)) (unsound_joined names ok w k.unsound) (unsound_alone names ok w k.unsound))

      dashed : (z : ℕ) (zs : Text) → outcome (state done None) ((45 ∷ 45 ∷ z ∷ zs) ∷ rest)
          ≡ option_map rows_for (read names done None ((45 ∷ 45 ∷ z ∷ zs) ∷ rest))
      dashed z zs =
          let p = name_and_value (z ∷ zs) in
          long_turn (held done None) idle z zs rest ∙ fresh_long rest more done p.0 p.1 (45 ∷ 45 ∷ z ∷ zs)
          ∙ sym (ap₂ (λ o a. option_map rows_for (taken done rest o a)) (joined_long names ok (z ∷ zs)) (alone_long names ok (z ∷ zs)))

      long : ((z : ℕ) × (zs : Text) × (w ≡ 45 ∷ 45 ∷ z ∷ zs)) → outcome (state done None) (w ∷ rest) ≡ option_map rows_for (read names done None (w ∷ rest))
      long p = subst (λ u. outcome (state done None) (u ∷ rest) ≡ option_map rows_for (read names done None (u ∷ rest))) (sym p.2) (dashed p.0 p.1)

  value_word : (w : Text) (rest : List Text) → is_readable w ≡ true → are_readable rest ≡ true → Gives rest → (done : Settings) (t : Text)
      → is_known names t ≡ true
      → outcome (state done (Some t)) (w ∷ rest) ≡ option_map rows_for (read names done (Some t) (w ∷ rest))
  value_word w rest sound later more done t known = ⊎_elim plain (⊎_elim long short) (sorts w sound)
    where
      new : (b : Bool) → cond b None (outcome (settled_at done (t, w)) rest)
          ≡ option_map rows_for (option_and_then (λ (d : Settings). read names d None rest) (cond b None (Some (done ++ (t, w) ∷ []))))
      new true = refl
      new false = more (done ++ (t, w) ∷ []) None refl

      plain : begins_with_hyphen w ≡ false → outcome (state done (Some t)) (w ∷ rest) ≡ option_map rows_for (read names done (Some t) (w ∷ rest))
      plain e =
          value_turn done t w rest known e ∙ late_is done (t, w) known rest later ∙ new (is_given t done)
          ∙ ap (λ b. option_map rows_for (cond b None (option_and_then (λ (d : Settings). read names d None rest) (with_setting done (t, w))))) (sym e)

      short : IsShort w → outcome (state done (Some t)) (w ∷ rest) ≡ option_map rows_for (read names done (Some t) (w ∷ rest))
      short k = short_refused done (Some (t, [])) (option t) w rest sound k
          ∙ ap (λ b. option_map rows_for (cond b None (option_and_then (λ (d : Settings). read names d None rest) (with_setting done (t, w)))))
          (sym (unsound_first w k.unsound))

      dashed : (z : ℕ) (zs : Text) → outcome (state done (Some t)) ((45 ∷ 45 ∷ z ∷ zs) ∷ rest) ≡ None
      dashed z zs =
          let p = name_and_value (z ∷ zs) in
          long_turn (held done (Some (t, []))) (option t) z zs rest ∙ ap
          (λ o. after_long o p.1 (held done (Some (t, []))) (option t) (45 ∷ 45 ∷ z ∷ zs) rest) (by_long names p.0)
          ∙ waiting_long done t (is_known names p.0) p.0 p.1 (45 ∷ 45 ∷ z ∷ zs) rest known

      long : ((z : ℕ) × (zs : Text) × (w ≡ 45 ∷ 45 ∷ z ∷ zs)) → outcome (state done (Some t)) (w ∷ rest)
          ≡ option_map rows_for (read names done (Some t) (w ∷ rest))
      long p = subst (λ u. outcome (state done (Some t)) (u ∷ rest) ≡ option_map rows_for (read names done (Some t) (u ∷ rest))) (sym p.2) (dashed p.0 p.1)

  gives : are_names names ≡ true → (words : List Text) → are_readable words ≡ true → Gives words
  gives ok [] sound done None known = ended (held done None) idle
  gives ok [] sound done (Some t) known = ended (held done (Some (t, []))) (option t) ∙ rw (waiting_fails done t known) refl
  gives ok (w ∷ rest) sound done None known =
      let parts = both (is_readable w) (are_readable rest) sound in
      new_word ok w rest parts.0 (gives ok rest parts.1) done
  gives ok (w ∷ rest) sound done (Some t) known =
      let parts = both (is_readable w) (are_readable rest) sound in
      value_word w rest parts.0 parts.1 (gives ok rest parts.1) done t known

  -- the theorem: clap takes exactly the words that the grammar reads, with the same options and values
  pub takes_settings : are_names names ≡ true → (words : List Text) → are_readable words ≡ true
      → cond (takes (options_app name names) words) (Some (matches_of (options_app name names) words)) None ≡ option_map rows_for (settings_in names words)
  takes_settings ok words sound =
      ap₂ (λ b rows. cond b (Some rows) None) (takes_is name names words) (matches_are name names words) ∙ gives ok words sound [] None refl
      ∙ ap (option_map rows_for) (read_is names words)
