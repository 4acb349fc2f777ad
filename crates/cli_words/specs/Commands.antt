-- The words of the command line: a command, and its options in any order, each at most once, as `--name value` or as
-- `--name=value`, or the number of tasks of a drill. The grammar of options stands in option_words.
use Rattle.std.specs.Prelude.{ℕ, Bool, ◌&&◌, List, [], ◌∷◌, Option, Some, None, option_map, option_and_then, codes, length, nat_le, if◌then◌else◌}
use Rattle.std.specs.List.{find, list_all}
use Rattle.std.specs.Str.{bytes_eq, is_utf8}
use Rattle.bt_base.specs.Moments.{last_moment}
use Rattle.option_words.specs.Options.{Setting, Text, settings_in, value_for}
use Rattle.bt_base.specs.Digits.{number_in}
use Rattle.bt_rows.specs.declared.limits.TheConstants.{SEAT_LIMIT, TARGET_LIMIT}
use Rattle.cli_words.specs.declared.command.TheConstants.{DEFAULT_SEATS, DRILL_LIMIT, JOURNAL_LIMIT, DEFAULT_PORT, PORT_LIMIT}
use Rattle.cli_words.specs.declared.command.TheConstants.{DEFAULT_DOORS, DOOR_LIMIT, CONNECTION_LIMIT}
use Rattle.cli_words.specs.declared.number.TheConstants.{DIGIT_LIMIT}
use Rattle.cli_words.specs.declared.command_name.CommandName.{CommandName}
use Rattle.cli_words.specs.declared.command_name.CommandName.TheVariants as names
use Rattle.cli_words.specs.declared.command.Command.{Command}
use Rattle.cli_words.specs.declared.command.Command.TheVariants.{Replay, Calendar, Formula, Export, Drill, Serve}
use Rattle.cli_words.specs.declared.command.Invocation.{Invocation}

-- the name of a command that has options
unfoldable pub command_text : CommandName → Text
command_text names.Replay = codes "replay"
command_text names.Calendar = codes "calendar"
command_text names.Formula = codes "formula"
command_text names.Export = codes "export"
command_text names.Serve = codes "serve"

-- the command with this name
unfoldable pub command_in : Text → Option CommandName
command_in text = find (λ name. bytes_eq text (command_text name)) (names.Replay ∷ names.Calendar ∷ names.Formula ∷ names.Export ∷ names.Serve ∷ [])

-- the names of its options
unfoldable pub options_of : CommandName → List Text
options_of names.Replay = codes "seats" ∷ codes "journal" ∷ codes "store" ∷ []
options_of names.Calendar = codes "seats" ∷ codes "journal" ∷ codes "store" ∷ []
options_of names.Formula = codes "now" ∷ codes "dedicated" ∷ []
options_of names.Export = codes "store" ∷ []
options_of names.Serve = codes "seats" ∷ codes "journal" ∷ codes "store" ∷ codes "port" ∷ codes "doors" ∷ codes "connections" ∷ []

-- whether the word is the name of `drill`, which has no options
unfoldable pub is_drill : Text → Bool
is_drill word = bytes_eq word (codes "drill")

-- a number of 1 to 20 digits from `low` to `high`
abbrev pub number_from_to : ℕ → ℕ → Text → Option ℕ
number_from_to low high text =
    if nat_le (length text) DIGIT_LIMIT then option_and_then (λ n. if nat_le low n && nat_le n high then Some n else None) (number_in text)
    else None

-- the same, or the usual number if no text is given
abbrev pub number_or : ℕ → ℕ → ℕ → Option Text → Option ℕ
number_or usual low high None = Some usual
number_or usual low high (Some text) = number_from_to low high text

-- `replay` with the texts of `--seats`, 1 to 32 and by default 8, and `--journal`, 1 to 4,000,000 and by default that many
abbrev pub replay_with : Option Text → Option Text → Option Command
replay_with seats journal =
    option_and_then (λ count. option_map (λ calls. Replay (record { seats = count; limit = calls }))
    (number_or JOURNAL_LIMIT 1 JOURNAL_LIMIT journal)) (number_or DEFAULT_SEATS 1 SEAT_LIMIT seats)

-- `calendar` with the same texts
abbrev pub calendar_with : Option Text → Option Text → Option Command
calendar_with seats journal =
    option_and_then (λ count. option_map (λ calls. Calendar (record { seats = count; limit = calls }))
    (number_or JOURNAL_LIMIT 1 JOURNAL_LIMIT journal)) (number_or DEFAULT_SEATS 1 SEAT_LIMIT seats)

-- `formula` with the texts of `--now`, a moment up to the year 9999, and `--dedicated`, 0 to 1,000, both by default 0
abbrev pub formula_with : Option Text → Option Text → Option Command
formula_with now dedicated =
    option_and_then (λ moment. option_map (λ nodes. Formula (record { now = moment; dedicated = nodes }))
    (number_or 0 0 TARGET_LIMIT dedicated)) (number_or 0 0 last_moment now)

-- the number of connections that the text of `--connections` is, 1 to 1,000,000; `Some None`, no limit, if no text is given
abbrev pub connections_in : Option Text → Option (Option ℕ)
connections_in None = Some None
connections_in (Some text) = option_map Some (number_from_to 1 CONNECTION_LIMIT text)

-- `serve` with the texts of `--seats` and `--journal` as for `replay`, `--port`, 0 to 65,535 and by default 8,080, `--doors`, 1 to 16
-- and by default 4, and `--connections`
abbrev pub serve_with : Option Text → Option Text → Option Text → Option Text → Option Text → Option Command
serve_with seats journal port doors connections =
    option_and_then (λ count. option_and_then (λ calls. option_and_then (λ socket. option_and_then (λ served.
    option_map (λ most. Serve (record { seats = count; journal = calls; port = socket; doors = served; connections = most }))
    (connections_in connections)) (number_or DEFAULT_DOORS 1 DOOR_LIMIT doors)) (number_or DEFAULT_PORT 0 PORT_LIMIT port))
    (number_or JOURNAL_LIMIT 1 JOURNAL_LIMIT journal)) (number_or DEFAULT_SEATS 1 SEAT_LIMIT seats)

-- the command with the values of the settings
abbrev pub command_with : CommandName → List Setting → Option Command
command_with names.Replay settings = replay_with (value_for (codes "seats") settings) (value_for (codes "journal") settings)
command_with names.Calendar settings = calendar_with (value_for (codes "seats") settings) (value_for (codes "journal") settings)
command_with names.Formula settings = formula_with (value_for (codes "now") settings) (value_for (codes "dedicated") settings)
command_with names.Export settings = Some Export
command_with names.Serve settings =
    serve_with (value_for (codes "seats") settings) (value_for (codes "journal") settings) (value_for (codes "port") settings)
    (value_for (codes "doors") settings) (value_for (codes "connections") settings)

-- the path that a text is, which is not empty; `Some None` if no text is given
abbrev pub path_in : Option Text → Option (Option Text)
path_in None = Some None
path_in (Some []) = None
path_in (Some (b ∷ bs)) = Some (Some (b ∷ bs))

-- the same command, with the path of its store
abbrev pub invocation_with : CommandName → List Setting → Option Invocation
invocation_with name settings =
    option_and_then (λ asked. option_map (λ path. record { command = asked; store = path }) (path_in (value_for (codes "store") settings)))
    (command_with name settings)

-- the settings of the words, if they are UTF-8
abbrev pub settings_of : CommandName → List Text → Option (List Setting)
settings_of name words = if list_all is_utf8 words then settings_in (options_of name) words else None

-- `drill`, whose only word is the number of tasks, 1 to 100,000
abbrev pub drill_of : List Text → Option Invocation
drill_of [] = None
drill_of (word ∷ []) = option_map (λ tasks. record { command = Drill tasks; store = None }) (number_from_to 1 DRILL_LIMIT word)
drill_of (word ∷ next ∷ rest) = None

-- the command that the words are, with its options and the path of its store
abbrev pub command_of : List Text → Option Invocation
command_of [] = None
command_of (word ∷ words) =
    if is_drill word then drill_of words
    else option_and_then (λ name. option_and_then (invocation_with name) (settings_of name words)) (command_in word)
