-- The options as a command of `clap`, by the kit's definitions of it, and the words that are not left to it.
use Rattle.std.specs.Prelude.{Bool, true, not, ◌&&◌, ◌||◌, List, [], ◌∷◌, Some, None, codes, map}
use Rattle.std.specs.List.{list_all}
use Rattle.std.specs.Str.{bytes_eq, is_utf8}
use Rattle.clap.specs.Walk.{Row, Rule}
use Rattle.clap.specs.Simple.{App, Shape, new_rule, new_shape}
use Rattle.clap.specs.declared.builder.action.ArgAction.TheVariants.{Set}
use Rattle.clap.specs.declared.builder.value_parser.Reading.TheVariants as reading
use Rattle.clap.specs.declared.parser.matches.ValueSource.TheVariants.{CommandLine}
use Rattle.option_words.specs.Options.{Text, Setting}

-- a long option that takes one value, which may be any text
abbrev pub option_rule : Text → Rule
option_rule name = record (new_rule name) { long = Some name; action = Some Set }

-- a command with these options alone, without help and version, whose words do not begin with the name of a program
abbrev pub options_shape : Text → List Rule → Shape
options_shape name rules = record (new_shape name) { rules = rules; no_binary_name = true; disable_help_flag = true; disable_version_flag = true }

-- the same with these names of options
abbrev pub options_app : Text → List Text → App
options_app name names = record { top = options_shape name (map option_rule names); subs = [] }

-- the row that clap has of an option and its value
abbrev pub row_for : Setting → Row
row_for s = record { id = s.0; values = s.1 ∷ []; count = None; source = Some CommandLine; reading = reading.AsWritten }

abbrev pub rows_for : List Setting → List Row
rows_for = map row_for

-- whether the word is `-` or `--`. Neither is in the grammar, and clap would take both, so they are refused before it reads any word
abbrev pub is_dashes : Text → Bool
is_dashes word = bytes_eq word (codes "-") || bytes_eq word (codes "--")

-- whether clap reads the word: it is UTF-8, and neither `-` nor `--`
abbrev pub is_readable : Text → Bool
is_readable word = not (is_dashes word) && is_utf8 word

abbrev pub are_readable : List Text → Bool
are_readable = list_all is_readable
