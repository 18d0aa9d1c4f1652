use Rattle.std.proofs.Common.{◌≡◌, ℕ, ◌-◌, ◌<◌, ◌≤◌, length, refl, ◌∙◌, arith}
use Rattle.theory.specs.Sums.{bit}
use Rattle.theory.specs.Lates.{backlog, edl}
use Rattle.table.specs.Workloads.{loads_in, turn_of}
use Rattle.table.specs.declared.workload.Workload.{Workload}
use Rattle.table.proofs.Facts.{cycle_of_lem, fits_of, short_of}
use Rattle.wake.proofs.Lates.{due_bound, due_small, bytes_more, bytes_past, turn}
use Rattle.wake.proofs.Rests.{byte_of}
use Rattle.wake.proofs.edl.calls.write_plan.Goals as goal

pub loop-tick-init : goal.loop-tick-init
unfolding backlog
loop-tick-init c =
    let e : turn_of c.args.workload.now - c.cycle-tick.result ≡ 0 = omega arith in
    (rw e, (λ k h x. absurd (omega arith)), (λ k h. refl))

-- the backlog stays within the load of the cycle
bounded : (f : Workload) (t B : ℕ) → 0 < t → t ≤ turn_of f → B ≡ backlog (loads_in f) (turn_of f) (turn_of f - t) → B ≤ 30000
bounded f t B p l e =
    omega (arith, due_bound (loads_in f) (turn_of f) (cycle_of_lem f).some_period t p l, fits_of f, short_of f)

pub overflow_add-backlog : goal.overflow_add-backlog
overflow_add-backlog c =
    let w = c.args.workload.now in
    let l : c.loop-tick.tick ≤ turn_of w = omega arith in
    let due : c.work_due-backlog.result ≤ 30000 = rw c.work_due-backlog.ensures (due_small w _) in
    omega (arith, bounded w c.loop-tick.tick c.loop-tick.backlog c.loop-tick-test.true l c.loop-tick.invariant.0, due)

pub loop-tick-preserved : goal.loop-tick-preserved
loop-tick-preserved c =
    let T = loads_in c.args.workload.now in
    let H = turn_of c.args.workload.now in
    let t = c.loop-tick.tick in
    let l : t ≤ H = omega arith in
    let m : H ≤ length c.loop-tick.memory = omega arith in
    let w = turn T H t c.loop-tick.backlog c.work_due-backlog.result c.loop-tick-test.true l c.loop-tick.invariant.0 c.work_due-backlog.ensures in
    let byte : c.from.result ≡ bit (edl T H (t - 1)) = c.from.ensures ∙ (byte_of _ ∙ w.1) in (
      c.saturating_sub-backlog.ensures ∙ w.0,
      bytes_more (λ k. bit (edl T H k)) H t c.from.result c.loop-tick.memory c.loop-tick-test.true l m byte c.loop-tick.invariant.1,
      bytes_past H t c.from.result c.loop-tick.memory c.args.memory.now c.loop-tick-test.true l c.loop-tick.invariant.2,
    )
