use Rattle.std.proofs.Common.{rules, ◌≡◌, [], ◌∷◌, ◌-◌, replicate}
use Rattle.std.proofs.lemmas.List.{replicate_more}
use Rattle.batch.specs.Crew.{DoorRole, roles_of}
use Rattle.batch.proofs.Roles.{grown, doors_more}
use Rattle.batch.proofs.service.workers.push_doors.Goals as goal

pub loop-made-preserved : goal.loop-made-preserved
loop-made-preserved g c = record {
  ready = c.in_ok-push_door.ensures.ready;
  roles = grown (roles_of c.args.workers.now.items) (replicate c.loop-made._made DoorRole) (DoorRole ∷ [])
      c.in_ok-push_door.ensures.roles c.loop-made.invariant.roles (replicate_more c.loop-made._made DoorRole);
}

pub returns-clause-roles : goal.returns-clause-roles
returns-clause-roles g c =
    let e : c.loop-made._made ≡ c.args.doors - 1 = search rules in
    grown (roles_of c.args.workers.now.items) (replicate c.loop-made._made DoorRole) (DoorRole ∷ [])
    c.in_ok-push_door-2.ensures.roles c.loop-made.invariant.roles (doors_more c.args.doors c.loop-made._made e)
