use Rattle.std.proofs.Common.{rules, max, replicate}
use Rattle.std.specs.List.{repeat}
use Rattle.batch.specs.Crew.{DoorRole, role_of, lanes_to, lanes_per_seat}
use Rattle.batch.proofs.Roles.{crew_made}
use Rattle.batch.proofs.service.workers.workers.Goals as goal

pub returns-clause-crew : goal.returns-clause-crew
returns-clause-crew g c =
    crew_made (λ w. role_of w.kind) (repeat lanes_per_seat (lanes_to c.args.options.seats)) (replicate (max 1 c.args.options.doors) DoorRole)
    c.in_ok-push_all_lanes.ensures.roles c.in_ok-push_worker.ensures.role c.in_ok-timer.ensures.role c.in_ok-push_doors.ensures.roles
    (search rules)
