use Rattle.std.proofs.Common.{◌≡◌, nat_eq, true, false, arith}
use Rattle.std.proofs.lemmas.Bool.Decides.{nat_tests}
use Rattle.batch_schedule.proofs.Parts.{no_job_before, free_before, busy_before, unknown_before}
use Rattle.batch_schedule.proofs.asking.ask_job_if_free.Goals as goal

pub returns-then-number-eq0 : goal.returns-then-number-eq0
returns-then-number-eq0 g c =
    no_job_before g.A.Ask.exchanged c.args.now c.args.occurrence c.args.row.now c.ask_job.new.row c.args.asker.now c.ask_job.new.asker
    c.args.fires.now.items c.ask_job.new.fires.items c.ask_job.result
    (let z : nat_eq c.args.row.now.number 0 ≡ true = grind (arith, nat_tests, c.number.ensures, c.if-number-eq0.true) in z) c.ask_job.ensures

pub returns-in-Ok-true : goal.returns-in-Ok-true
returns-in-Ok-true g c =
    free_before g.A.Ask.exchanged c.args.now c.args.occurrence c.args.row.now c.ask_job-in-Ok-true.new.row c.args.asker.now c.look_free.new.asker
    c.ask_job-in-Ok-true.new.asker c.args.fires.now.items c.ask_job-in-Ok-true.new.fires.items c.ask_job-in-Ok-true.result
    (let z : nat_eq c.args.row.now.number 0 ≡ false = grind (arith, nat_tests, c.number.ensures, c.if-number-eq0.false) in z)
    (rw c.in-Ok-true.field-0-test at c.in-Ok-true.ensures.shown) c.ask_job-in-Ok-true.ensures

pub returns-in-Ok-false : goal.returns-in-Ok-false
returns-in-Ok-false g c =
    busy_before g.A.Ask.exchanged c.args.now c.args.occurrence c.args.row.now c.args.asker.now c.look_free.new.asker c.args.fires.now.items
    (let z : nat_eq c.args.row.now.number 0 ≡ false = grind (arith, nat_tests, c.number.ensures, c.if-number-eq0.false) in z)
    (rw c.in-Ok-false.field-0-test at c.in-Ok-false.ensures.shown)

pub returns-in-Err : goal.returns-in-Err
returns-in-Err g c =
    unknown_before g.A.Ask.exchanged c.args.now c.args.occurrence c.args.row.now c.args.asker.now c.look_free.new.asker c.in-Err.field-0
    c.args.fires.now.items (let z : nat_eq c.args.row.now.number 0 ≡ false = grind (arith, nat_tests, c.number.ensures, c.if-number-eq0.false) in z)
    c.in-Err.ensures.none
