use Rattle.std.proofs.Common.{sym, ◌∙◌, arith}
use Rattle.kept_table.specs.Slots.{rows}
use Rattle.run_index.proofs.HeldSums.{placed_held, unplaced_held}
use Rattle.run_index.proofs.held_slots.HeldSlots.add_task.Goals as goal

pub returns-else-is_placed-clause-sums : goal.returns-else-is_placed-clause-sums
returns-else-is_placed-clause-sums c = λ node.
    let none = unplaced_held (rows c.args.tables.now.run_slots) node c.args.task.now (sym c.is_placed.ensures ∙ c.if-is_placed.false) in
    omega (arith, none)

pub returns-then-is_placed-clause-sums : goal.returns-then-is_placed-clause-sums
returns-then-is_placed-clause-sums c = λ node.
    let all = placed_held (rows c.args.tables.now.run_slots) node c.args.task.now (sym c.is_placed.ensures ∙ c.if-is_placed.true) in
    let sums = c.add_runs.ensures.sums node in
    omega (arith, all, sums)
