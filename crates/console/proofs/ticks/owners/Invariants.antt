use Rattle.std.proofs.Common.{◌≡◌, ℕ, map}
use Rattle.std.specs.List.{range_with_len}
use Rattle.theory.specs.Laws.{cyclic}
use Rattle.theory.specs.Slots.{owns, slots}
use Rattle.table.specs.Workloads.{loads_in}
use Rattle.wake.specs.Machines.{serves_of, tick_of, left_in}
use Rattle.console.proofs.ticks.owners.Given as goal

-- the machine is at tick t, with the slots that are left then, and the owners so far are those of the ticks below t
abbrev pub invariant-loop-t : goal.invariant-loop-t
invariant-loop-t g l =
    let P = g.W.WakePlan.plan l.plan in
    record {
      serves : serves_of l.machine ≡ l.workload;
      tick : tick_of l.machine ≡ l.t;
      left : (i : ℕ) → left_in l.machine i ≡ slots (loads_in l.workload) (cyclic P.cycle P.awake) l.t i;
      owners : l.owners.items ≡ map (owns (loads_in l.workload) (cyclic P.cycle P.awake)) (range_with_len 0 l.t);
    }
