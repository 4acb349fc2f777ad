use Rattle.std.proofs.Common.{rules, ◌≡◌, Some, ap, refl, subst, sym, ◌∙◌}
use Rattle.counted_lock.specs.Passes.{IsPassOf}
use Rattle.batch_http.specs.Doors.{ServesAll}
use Rattle.shared_desk.specs.Askers.{IsSharedExchange}
use Rattle.batch_serve.proofs.Askers.{desk_stays, number_stays, service_is}
use Rattle.batch_serve.proofs.kinds.work_door.Goals as goal

pub returns-clause-pass : goal.returns-clause-pass
returns-clause-pass g c =
    let leads = desk_stays _ _ _ c.serve_links-end.ensures.served.leads in
    let after = ap (λ t. t.0.desk) c.into_parts-asker.ensures in
    let before = ap (λ s. s.asker.desk) c.make_service-service.ensures in
    subst (λ l. IsPassOf l c.into_pass.result) (after ∙ (leads ∙ (before ∙ c.asker.ensures.desk))) c.into_pass.ensures.made

pub returns-clause-number : goal.returns-clause-number
returns-clause-number g c =
    let stays = number_stays _ _ _ c.serve_links-end.ensures.served.leads in
    let after = c.into_pass.ensures.pass ∙ ap (λ t. t.0.pass) c.into_parts-asker.ensures in
    let before = ap (λ s. s.asker.pass) c.make_service-service.ensures ∙ c.asker.ensures.pass in
    ap (λ p. p.number) after ∙ (stays ∙ ap (λ p. p.number) before)

pub returns-clause-works : goal.returns-clause-works
returns-clause-works g c =
    let desk = c.args.desk.now in let clock = c.in-Some.clock in let later = c.into_parts-asker.result.1 in
    let had : c.args.door.now.clock ≡ Some clock = search rules in
    let leads = desk_stays _ _ _ c.serve_links-end.ensures.served.leads in
    let before = ap (λ s. s.asker.desk) c.make_service-service.ensures ∙ c.asker.ensures.desk in
    let old = service_is c.make_service-service.result desk c.args.pass clock before
    (ap (λ s. s.asker.pass) c.make_service-service.ensures ∙ c.asker.ensures.pass) (ap (λ s. s.clock) c.make_service-service.ensures) in
    let new = service_is c.serve_links-end.new.service desk c.into_pass.result later (leads ∙ before)
    (sym (c.into_pass.ensures.pass ∙ ap (λ t. t.0.pass) c.into_parts-asker.ensures)) (sym (ap (λ t. t.1) c.into_parts-asker.ensures)) in
    let serves = ServesAll IsSharedExchange g.C.Clock.gives g.N.Listener.accepted g.N.Listener.taken_back g.N.Link.Link.left g.N.Link.Link.taken g.N.Link.Link.faults in
    record {
      end = c.serve_links-end.result;
      told = refl;
      before = clock;
      after = later;
      old_clock = had;
      new_clock = refl;
      none_out = c.serve_links-end.ensures.none_out;
      later = c.serve_links-end.ensures.later;
      ended = c.serve_links-end.ensures.ended;
      failed = c.serve_links-end.ensures.failed;
      serves = subst (λ s. serves (record { service = s; listener = c.args.door.now.listener })
          (record { service = record { asker = record { desk = desk; pass = c.into_pass.result }; clock = later }; listener = c.serve_links-end.new.listener }) c.serve_links-end.result.met_memory) old
          (subst (λ s. serves (record { service = c.make_service-service.result; listener = c.args.door.now.listener })
          (record { service = s; listener = c.serve_links-end.new.listener }) c.serve_links-end.result.met_memory) new c.serve_links-end.ensures.served);
    }
