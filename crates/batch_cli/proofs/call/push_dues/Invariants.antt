use Rattle.std.proofs.Common.{◌≡◌, ◌++◌, drop, string_bytes}
use Rattle.batch_cli.specs.Shown.{due_lines}
use Rattle.batch_cli.proofs.call.push_dues.Given as goal

abbrev pub invariant-loop-due : goal.invariant-loop-due
invariant-loop-due l = string_bytes l.out ++ due_lines l.n (drop l.due-index l.dues) ≡ string_bytes l.fn.out ++ due_lines l.n l.dues
