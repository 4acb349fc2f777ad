-- What clap found, and the settings of the words.
use Rattle.std.proofs.Common.{◌≡◌, ◌∙◌, Bool, true, false, List, [], Option, Some, None, Result, IfOk, ap, ap₂, refl, sym, cond, option_and_then}
use Rattle.std.proofs.Common.{option_map, true≢false}
use Rattle.std.specs.Borrow.{Bor}
use Rattle.std.specs.List.{list_all}
use Rattle.std.specs.Str.{is_utf8}
use Rattle.clap.specs.Walk.{Row}
use Rattle.option_words.specs.Options.{Setting, Text, are_names, settings_in}
use Rattle.option_words.specs.Clap.{rows_for}
use Rattle.cli_words.specs.declared.command.Invocation.{Invocation}
use Rattle.cli_words.specs.declared.command_name.CommandName.{CommandName}
use Rattle.cli_words.specs.declared.command_name.CommandName.TheVariants as names
use Rattle.cli_words.specs.Commands.{invocation_with, options_of, settings_of}
use Rattle.cli_words.proofs.Texts.{texts}

-- the names of options are proper
pub named : (name : CommandName) → are_names (options_of name) ≡ true
unfolding options_of
named names.Replay = refl
named names.Calendar = refl
named names.Formula = refl
named names.Export = refl
named names.Serve = refl

-- the settings of the texts that clap was given are those of the words
pub settings_read : (name : CommandName) (words : List Text) (given made options : List (Bor Text)) → given ≡ made → texts made ≡ words
    → texts options ≡ options_of name → list_all is_utf8 words ≡ true → settings_in (texts options) (texts given) ≡ settings_of name words
settings_read name words given made options is same told all =
    ap₂ settings_in told (ap texts is ∙ same) ∙ sym (ap (λ b. cond b (settings_in (options_of name) words) None) all)

abbrev rows_from : Option (List Row) → List Row
rows_from None = []
rows_from (Some rows) = rows

abbrev is_none : {X : Type 0} → Option X → Bool
is_none None = true
is_none (Some x) = false

-- clap found nothing
pub none_read : (name : CommandName) (settings : Option (List Setting)) → None ≡ option_map rows_for settings
    → None ≡ option_and_then (invocation_with name) settings
none_read name None e = refl
none_read name (Some s) e = absurd (true≢false (ap is_none e))

-- clap found these rows
pub some_read : {E : Type 0} (name : CommandName) (settings : Option (List Setting)) (rows : List Row) (r : Result (Option Invocation) E)
    → Some rows ≡ option_map rows_for settings
    → ((s : List Setting) → rows ≡ rows_for s → IfOk r (λ x. x ≡ invocation_with name s))
    → IfOk r (λ x. x ≡ option_and_then (invocation_with name) settings)
some_read name None rows r e h = absurd (true≢false (sym (ap is_none e)))
some_read name (Some s) rows r e h = h s (ap rows_from e)
