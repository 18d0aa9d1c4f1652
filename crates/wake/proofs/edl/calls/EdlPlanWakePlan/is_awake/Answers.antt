use Rattle.std.proofs.Common.{◌%◌, ◌<◌, ap, ◌∙◌, mod-lt, arith}
use Rattle.theory.specs.Laws.{cyclic}
use Rattle.theory.specs.Lates.{edl}
use Rattle.table.specs.Workloads.{loads_in, turn_of}
use Rattle.wake.proofs.edl.calls.EdlPlanWakePlan.is_awake.Goals as goal

pub returns : goal.returns
unfolding cyclic
returns c =
    let f = c.args.self.now.workload in
    let some : 0 < c.cycle-cycle.result = omega arith in
    c.tick-2.ensures (omega (arith, mod-lt c.args.tick some))
    ∙ ap (λ n. edl (loads_in f) (turn_of f) (c.args.tick % n)) c.cycle-cycle.ensures
