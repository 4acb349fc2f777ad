use Rattle.std.proofs.Common.{◌≡◌, ◌++◌, drop, string_bytes}
use Rattle.batch_cli.specs.CalendarShown.{fires_text}
use Rattle.batch_cli.proofs.cal_answer.push_fires.Given as goal

abbrev pub invariant-loop-fire : goal.invariant-loop-fire
invariant-loop-fire l = string_bytes l.out ++ fires_text l.n (drop l.fire-index l.fires) ≡ string_bytes l.fn.out ++ fires_text l.n l.fires
