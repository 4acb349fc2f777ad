use Rattle.std.proofs.Common.{refl}
use Rattle.matchit.proofs.OnLiterals.{matchit_on_literals}
use Rattle.http_routes.specs.Table.{pool_rows, job_rows, route_rows}
use Rattle.http_routes.proofs.table.add_task_routes.Goals as goal

pub returns : goal.returns
unfolding matchit_on_literals pool_rows job_rows route_rows
returns c = rw (c.in_ok-insert-3.ensures.1, c.in_ok-insert-2.ensures.1, c.in_ok-insert.ensures.1, c.requires) refl
