use Rattle.std.proofs.Common.{◌∙◌, ap, sym, false, true}
use Rattle.std.specs.Str.{is_utf8}
use Rattle.std.proofs.lemmas.Str.{is_utf8-from_IsUtf8}
use Rattle.cli_words.proofs.Texts.{next_is, no_text, one_more, texts}
use Rattle.cli_words.proofs.words.texts_of.Goals as goal

pub returns-in-Err : goal.returns-in-Err
returns-in-Err c =
    c.loop-word.invariant.0
    ∙ next_is c.args.words.now c.loop-word.word-index c.word-item.result false c.loop-word-test.true c.word-item.is
    (ap is_utf8 (sym c.as_bytes.ensures) ∙ no_text _ c.in-Err.ensures.cases.0)

pub loop-word-preserved : goal.loop-word-preserved
loop-word-preserved c = (
  c.loop-word.invariant.0
      ∙ next_is c.args.words.now c.loop-word.word-index c.word-item.result true c.loop-word-test.true c.word-item.is
      (ap is_utf8 (sym c.as_bytes.ensures) ∙ is_utf8-from_IsUtf8 _ c.in-Ok.ensures.cases.1),
  ap texts c.in_ok-push-in-Ok.ensures.items
      ∙ one_more c.args.words.now c.loop-word.texts.items c.loop-word.word-index c.word-item.result c.in-Ok.text c.loop-word-test.true c.word-item.is
      (c.in-Ok.ensures.cases.0 ∙ c.as_bytes.ensures) c.loop-word.invariant.1,
)
