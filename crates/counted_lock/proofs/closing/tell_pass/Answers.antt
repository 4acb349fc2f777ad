use Rattle.counted_lock.proofs.Hears.{told_pass, told_opened}
use Rattle.counted_lock.proofs.closing.tell_pass.Goals as goal

pub returns-clause-placed : goal.returns-clause-placed
returns-clause-placed g c = told_pass c.into_seat-number.result.1.table_id c.args.all.now.me.0.seen c.into_seat-number.result.1.me c.tell.new.hearer.me
    c.into_seat-number.result.0 c.args.pass c.into_seat-number.ensures.number c.tell.ensures.hearer c.into_seat-number.ensures.pass c.requires.begins

pub returns-clause-opened : goal.returns-clause-opened
returns-clause-opened g c = told_opened c.into_seat-number.result.1.table_id c.args.all.now.me.0.seen c.into_seat-number.result.1.me c.tell.new.hearer.me
    c.args.pass c.tell.ensures.hearer c.into_seat-number.ensures.pass c.requires.pass.real c.requires.begins
