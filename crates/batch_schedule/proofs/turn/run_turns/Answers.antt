use Rattle.std.proofs.Common.{◌<◌, ◌≤◌, length, get_or, arith, refl, subst}
use Rattle.schedule_rows.specs.Turns.{turn}
use Rattle.batch_schedule.specs.Runs.{RunsTurn}
use Rattle.batch_schedule.proofs.TurnParts.{no_turns, one_more, stopped_turns, all_turns}
use Rattle.batch_schedule.proofs.turn.run_turns.Goals as goal

pub loop-at-init : goal.loop-at-init
loop-at-init g c = no_turns g.A.Ask.exchanged c.args.now c.args.rows.now c.args.asker.now c.args.fires.now.items

pub loop-at-preserved : goal.loop-at-preserved
loop-at-preserved g c =
    one_more g.A.Ask.exchanged c.args.now c.args.rows.now c.loop-at.rows (get_or c.loop-at.rows c.loop-at.at c.index-rows-at.result) c.index-rows-at.result
    c.run_turn.new.row c.loop-at.at c.args.asker.now c.loop-at.asker
    c.run_turn.new.asker c.args.fires.now.items c.loop-at.fires.items c.run_turn.new.fires.items
    (let lt : c.loop-at.at < length c.loop-at.rows = omega arith in lt)
    refl c.loop-at.invariant (subst (λ w. RunsTurn g.A.Ask.exchanged (turn c.args.now (get_or c.loop-at.rows c.loop-at.at c.index-rows-at.result))
    c.loop-at.asker c.run_turn.new.asker c.run_turn.new.row
    c.loop-at.fires.items c.run_turn.new.fires.items w) c.if-not-run_turn.false c.run_turn.ensures)

pub returns-then-not-run_turn : goal.returns-then-not-run_turn
returns-then-not-run_turn g c =
    stopped_turns g.A.Ask.exchanged c.args.now c.args.rows.now c.loop-at.rows (get_or c.loop-at.rows c.loop-at.at c.index-rows-at.result)
    c.index-rows-at.result c.run_turn.new.row c.loop-at.at c.args.asker.now
    c.loop-at.asker c.run_turn.new.asker c.args.fires.now.items c.loop-at.fires.items c.run_turn.new.fires.items
    (let lt : c.loop-at.at < length c.loop-at.rows = omega arith in lt)
    refl c.loop-at.invariant (subst (λ w. RunsTurn g.A.Ask.exchanged (turn c.args.now (get_or c.loop-at.rows c.loop-at.at c.index-rows-at.result))
    c.loop-at.asker c.run_turn.new.asker c.run_turn.new.row
    c.loop-at.fires.items c.run_turn.new.fires.items w) c.if-not-run_turn.true c.run_turn.ensures)

pub returns : goal.returns
returns g c =
    all_turns g.A.Ask.exchanged c.args.now c.args.rows.now c.loop-at.rows c.loop-at.at c.args.asker.now c.loop-at.asker c.args.fires.now.items
    c.loop-at.fires.items (let le : length c.loop-at.rows ≤ c.loop-at.at = omega arith in le) c.loop-at.invariant
