use Rattle.std.proofs.Common.{◌∙◌, ap, option_map}
use Rattle.clap.specs.Words.{found_of, rows_of}
use Rattle.option_words.specs.Clap.{rows_for}
use Rattle.option_words.specs.Options.{are_names}
use Rattle.cli_words.specs.Commands.{settings_of}
use Rattle.cli_words.proofs.OptionsRead.{named, none_read, settings_read, some_read}
use Rattle.cli_words.proofs.words.with_options.Goals as goal

pub read_options-requires-clause-names : goal.read_options-requires-clause-names
read_options-requires-clause-names c = ap are_names c.options.ensures ∙ named c.args.name

pub returns-in_default-2-clause-invocation : goal.returns-in_default-2-clause-invocation
returns-in_default-2-clause-invocation c =
    let name = c.args.name in
    let words = c.args.words.now in
    let texts = rw c.in-Some.is at c.in_ok-texts.ensures in
    let found = rw c.in_default-2.is at c.in_ok-matches.ensures in
    let read = settings_read name words _ c.in-Some.texts.items _ c.as_slice.ensures.value texts.1 c.options.ensures texts.0 in
    none_read name (settings_of name words) (found ∙ ap (option_map rows_for) read)

pub returns-clause-invocation : goal.returns-clause-invocation
returns-clause-invocation c =
    let name = c.args.name in
    let words = c.args.words.now in
    let texts = rw c.in-Some.is at c.in_ok-texts.ensures in
    let found = rw c.in-Some-2.is at c.in_ok-matches.ensures in
    let read = settings_read name words _ c.in-Some.texts.items _ c.as_slice.ensures.value texts.1 c.options.ensures texts.0 in
    some_read name (settings_of name words) (rows_of (found_of c.in-Some-2.matches)) c.invocation_from.result
    (found ∙ ap (option_map rows_for) read) c.invocation_from.ensures.invocation
