use Rattle.std.proofs.Common.{◌≡◌, ◌++◌, string_bytes}
use Rattle.std.specs.Prelude.{flat_map}
use Rattle.wire_texts.specs.Rows.{job_line}
use Rattle.wire_texts.proofs.tables.push_jobs.Given as goal

abbrev pub invariant-loop-job : goal.invariant-loop-job
invariant-loop-job l = string_bytes l.out ++ flat_map job_line l.job-iterator ≡ string_bytes l.fn.out ++ flat_map job_line l.tables.state.jobs
