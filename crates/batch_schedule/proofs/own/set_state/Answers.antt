use Rattle.std.proofs.Common.{◌<◌, ◌≤◌, length, get_or, arith, refl}
use Rattle.schedule_rows.specs.OwnEvents.{put_state}
use Rattle.batch_schedule.proofs.States.{put_none, put_more, put_all}
use Rattle.batch_schedule.proofs.own.set_state.Goals as goal

pub loop-at-init : goal.loop-at-init
loop-at-init c = put_none (put_state c.args.id.now c.args.state) c.args.rows.now

pub loop-at-preserved : goal.loop-at-preserved
loop-at-preserved c =
    put_more (put_state c.args.id.now c.args.state) c.loop-at.at c.args.rows.now c.loop-at.rows (get_or c.loop-at.rows c.loop-at.at c.index-rows-at.result)
    c.index-rows-at.result c.put_state.new.row
    (let lt : c.loop-at.at < length c.loop-at.rows = omega arith in lt) refl c.put_state.ensures c.loop-at.invariant

pub returns : goal.returns
returns c =
    put_all (put_state c.args.id.now c.args.state) c.loop-at.at c.args.rows.now c.loop-at.rows
    (let le : length c.loop-at.rows ≤ c.loop-at.at = omega arith in le) c.loop-at.invariant
