use Rattle.std.proofs.Common.{sym, ◌∙◌}
use Rattle.std.proofs.lemmas.List.{take_rest}
use Rattle.wire_lines.proofs.FirstLine.{line_at, one_line}
use Rattle.wire_lines.proofs.script.split_line.Goals as goal

pub returns-in-Some-clause-split : goal.returns-in-Some-clause-split
returns-in-Some-clause-split c = rw (take_rest, c.without_return.ensures) (line_at c.args.script.now c.in-Some.at c.in-Some.ensures)

pub returns-else-is_empty-clause-split : goal.returns-else-is_empty-clause-split
returns-else-is_empty-clause-split c = one_line c.args.script.now c.in-None.ensures (sym c.is_empty.ensures ∙ c.if-is_empty.false)
