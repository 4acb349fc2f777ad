use Rattle.std.proofs.Common.{ap, sym, ◌∙◌}
use Rattle.bt_base.specs.CommandLines.{read_words}
use Rattle.child_words.proofs.Lines.{no_fault, some_read}
use Rattle.child_words.proofs.queued.line_words.Goals as goal

pub unreachable-requires : goal.unreachable-requires
unreachable-requires c =
    no_fault c.args.line.now c.in-Err-Why.field-0-0 c.known.ensures (ap read_words (sym c.as_str.ensures) ∙ (rw c.in-Err-Why.field-0-is at c.in-Err-Why.ensures))

pub returns-in-Ok-clause-some : goal.returns-in-Ok-clause-some
returns-in-Ok-clause-some c = some_read c.args.line.now c.in-Ok.words.items (ap read_words (sym c.as_str.ensures) ∙ c.in-Ok.ensures)
