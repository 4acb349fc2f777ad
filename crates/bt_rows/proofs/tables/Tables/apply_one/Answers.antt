use Rattle.std.proofs.Common.{refl}
use Rattle.bt_rows.proofs.tables.Tables.apply_one.Goals as goal

pub returns-in-PutPool-clause-state : goal.returns-in-PutPool-clause-state
returns-in-PutPool-clause-state c = rw (c.put.ensures.rows, c.in-PutPool.is, ← c.self.view_is) refl

pub returns-in-PutNode-clause-state : goal.returns-in-PutNode-clause-state
returns-in-PutNode-clause-state c = rw (c.put-in-PutNode.ensures.rows, c.in-PutNode.is, ← c.self.view_is) refl

pub returns-in-PutJob-clause-state : goal.returns-in-PutJob-clause-state
returns-in-PutJob-clause-state c = rw (c.put-in-PutJob.ensures.rows, c.in-PutJob.is, ← c.self.view_is) refl

pub returns-in-PutTask-clause-state : goal.returns-in-PutTask-clause-state
returns-in-PutTask-clause-state c = rw (c.put-in-PutTask.ensures.rows, c.in-PutTask.is, ← c.self.view_is) refl

pub returns-in-PutRun-clause-state : goal.returns-in-PutRun-clause-state
returns-in-PutRun-clause-state c = rw (c.put-in-PutRun.ensures.rows, c.in-PutRun.is, ← c.self.view_is) refl

pub returns-in-PutPrep-clause-state : goal.returns-in-PutPrep-clause-state
returns-in-PutPrep-clause-state c = rw (c.put-in-PutPrep.ensures.rows, c.in-PutPrep.is, ← c.self.view_is) refl

pub returns-in-PutSample-clause-state : goal.returns-in-PutSample-clause-state
returns-in-PutSample-clause-state c = rw (c.put-in-PutSample.ensures.rows, c.in-PutSample.is, ← c.self.view_is) refl

pub returns-in-PutScale-clause-state : goal.returns-in-PutScale-clause-state
returns-in-PutScale-clause-state c = rw (c.put-in-PutScale.ensures.rows, c.in-PutScale.is, ← c.self.view_is) refl

pub returns-in-PutTask-clause-tasks : goal.returns-in-PutTask-clause-tasks
returns-in-PutTask-clause-tasks c = rw (c.put-in-PutTask.ensures.slots, c.in-PutTask.is, ← c.self.view_is) refl

pub returns-in-PutRun-clause-runs : goal.returns-in-PutRun-clause-runs
returns-in-PutRun-clause-runs c = rw (c.put-in-PutRun.ensures.slots, c.in-PutRun.is, ← c.self.view_is) refl
