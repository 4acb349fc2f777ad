use Rattle.std.proofs.Common.{refl, rules}
use Rattle.kept_table.specs.Slots.{rows}
use Rattle.machine_index.proofs.IndexedSteps.{indexed_kept}
use Rattle.machine_index.proofs.indexed_tables.IndexedTables.reserve.Goals as goal

pub invariant_of-self-in_err-reserve-5 : goal.invariant_of-self-in_err-reserve-5
invariant_of-self-in_err-reserve-5 c =
    let s = c.self.inside in (
      indexed_kept s.tables.task_slots c.reserve.new.self.task_slots s.tables.run_slots c.reserve.new.self.run_slots s.runs c.reserve-2.new.self s.active c.reserve-3.new.self s.over c.reserve-4.new.self s.held c.reserve-5.new.self
          s.timed s.timed s.queued s.queued s.asked s.asked s.numbered s.numbered s.nodes s.nodes c.reserve.ensures.tasks c.reserve.ensures.runs
          (c.reserve-2.ensures.runs s.tables.run_slots) c.reserve-3.ensures.items c.reserve-4.ensures.items
          (c.reserve-5.ensures.held (rows s.tables.task_slots) s.tables.run_slots) refl refl refl (λ known. known) (λ known. known) c.self.invariant.0,
      search rules,
    )

pub invariant_of-self-in_err-reserve-6 : goal.invariant_of-self-in_err-reserve-6
invariant_of-self-in_err-reserve-6 c =
    let s = c.self.inside in (
      indexed_kept s.tables.task_slots c.reserve.new.self.task_slots s.tables.run_slots c.reserve.new.self.run_slots s.runs c.reserve-2.new.self s.active c.reserve-3.new.self s.over c.reserve-4.new.self s.held c.reserve-5.new.self
          s.timed c.reserve-6.new.self s.queued s.queued s.asked s.asked s.numbered s.numbered s.nodes s.nodes c.reserve.ensures.tasks c.reserve.ensures.runs
          (c.reserve-2.ensures.runs s.tables.run_slots) c.reserve-3.ensures.items c.reserve-4.ensures.items
          (c.reserve-5.ensures.held (rows s.tables.task_slots) s.tables.run_slots) c.reserve-6.ensures.items refl refl (λ known. known) (λ known. known) c.self.invariant.0,
      search rules,
    )

pub invariant_of-self-in_err-reserve-7 : goal.invariant_of-self-in_err-reserve-7
invariant_of-self-in_err-reserve-7 c =
    let s = c.self.inside in (
      indexed_kept s.tables.task_slots c.reserve.new.self.task_slots s.tables.run_slots c.reserve.new.self.run_slots s.runs c.reserve-2.new.self s.active c.reserve-3.new.self s.over c.reserve-4.new.self s.held c.reserve-5.new.self
          s.timed c.reserve-6.new.self s.queued c.reserve-7.new.self s.asked s.asked s.numbered s.numbered s.nodes s.nodes c.reserve.ensures.tasks c.reserve.ensures.runs
          (c.reserve-2.ensures.runs s.tables.run_slots) c.reserve-3.ensures.items c.reserve-4.ensures.items
          (c.reserve-5.ensures.held (rows s.tables.task_slots) s.tables.run_slots) c.reserve-6.ensures.items c.reserve-7.ensures.items refl (λ known. known) (λ known. known) c.self.invariant.0,
      search rules,
    )

pub invariant_of-self-in_err-reserve-8 : goal.invariant_of-self-in_err-reserve-8
invariant_of-self-in_err-reserve-8 c =
    let s = c.self.inside in (
      indexed_kept s.tables.task_slots c.reserve.new.self.task_slots s.tables.run_slots c.reserve.new.self.run_slots s.runs c.reserve-2.new.self s.active c.reserve-3.new.self s.over c.reserve-4.new.self s.held c.reserve-5.new.self
          s.timed c.reserve-6.new.self s.queued c.reserve-7.new.self s.asked c.reserve-8.new.self s.numbered s.numbered s.nodes s.nodes c.reserve.ensures.tasks c.reserve.ensures.runs
          (c.reserve-2.ensures.runs s.tables.run_slots) c.reserve-3.ensures.items c.reserve-4.ensures.items
          (c.reserve-5.ensures.held (rows s.tables.task_slots) s.tables.run_slots) c.reserve-6.ensures.items c.reserve-7.ensures.items c.reserve-8.ensures.items (λ known. known) (λ known. known) c.self.invariant.0,
      search rules,
    )

pub invariant_of-self-in_err-reserve-9 : goal.invariant_of-self-in_err-reserve-9
invariant_of-self-in_err-reserve-9 c =
    let s = c.self.inside in (
      indexed_kept s.tables.task_slots c.reserve.new.self.task_slots s.tables.run_slots c.reserve.new.self.run_slots s.runs c.reserve-2.new.self s.active c.reserve-3.new.self s.over c.reserve-4.new.self s.held c.reserve-5.new.self
          s.timed c.reserve-6.new.self s.queued c.reserve-7.new.self s.asked c.reserve-8.new.self s.numbered c.reserve-9.new.self s.nodes s.nodes c.reserve.ensures.tasks c.reserve.ensures.runs
          (c.reserve-2.ensures.runs s.tables.run_slots) c.reserve-3.ensures.items c.reserve-4.ensures.items
          (c.reserve-5.ensures.held (rows s.tables.task_slots) s.tables.run_slots) c.reserve-6.ensures.items c.reserve-7.ensures.items c.reserve-8.ensures.items (c.reserve-9.ensures.tasks s.tables.task_slots) (λ known. known) c.self.invariant.0,
      search rules,
    )

pub invariant_of-self-in_err-reserve-10 : goal.invariant_of-self-in_err-reserve-10
invariant_of-self-in_err-reserve-10 c =
    let s = c.self.inside in (
      indexed_kept s.tables.task_slots c.reserve.new.self.task_slots s.tables.run_slots c.reserve.new.self.run_slots s.runs c.reserve-2.new.self s.active c.reserve-3.new.self s.over c.reserve-4.new.self s.held c.reserve-5.new.self
          s.timed c.reserve-6.new.self s.queued c.reserve-7.new.self s.asked c.reserve-8.new.self s.numbered c.reserve-9.new.self s.nodes c.reserve-10.new.self c.reserve.ensures.tasks c.reserve.ensures.runs
          (c.reserve-2.ensures.runs s.tables.run_slots) c.reserve-3.ensures.items c.reserve-4.ensures.items
          (c.reserve-5.ensures.held (rows s.tables.task_slots) s.tables.run_slots) c.reserve-6.ensures.items c.reserve-7.ensures.items c.reserve-8.ensures.items (c.reserve-9.ensures.tasks s.tables.task_slots) (c.reserve-10.ensures.runs s.tables.run_slots) c.self.invariant.0,
      search rules,
    )

pub invariant_of-self-2 : goal.invariant_of-self-2
invariant_of-self-2 c =
    let s = c.self.inside in (
      indexed_kept s.tables.task_slots c.reserve.new.self.task_slots s.tables.run_slots c.reserve.new.self.run_slots s.runs c.reserve-2.new.self s.active c.reserve-3.new.self s.over c.reserve-4.new.self s.held c.reserve-5.new.self
          s.timed c.reserve-6.new.self s.queued c.reserve-7.new.self s.asked c.reserve-8.new.self s.numbered c.reserve-9.new.self s.nodes c.reserve-10.new.self c.reserve.ensures.tasks c.reserve.ensures.runs
          (c.reserve-2.ensures.runs s.tables.run_slots) c.reserve-3.ensures.items c.reserve-4.ensures.items
          (c.reserve-5.ensures.held (rows s.tables.task_slots) s.tables.run_slots) c.reserve-6.ensures.items c.reserve-7.ensures.items c.reserve-8.ensures.items (c.reserve-9.ensures.tasks s.tables.task_slots) (c.reserve-10.ensures.runs s.tables.run_slots) c.self.invariant.0,
      search rules,
    )
