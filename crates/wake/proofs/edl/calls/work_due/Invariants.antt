use Rattle.std.proofs.Common.{◌≡◌, ◌%◌, cond, eqb}
use Rattle.theory.specs.Sums.{sum}
use Rattle.theory.specs.Loads.{work, period}
use Rattle.table.specs.Workloads.{loads_in}
use Rattle.wake.proofs.edl.calls.work_due.Given as goal

-- the work of the places that were passed
abbrev pub invariant-loop-load : goal.invariant-loop-load
invariant-loop-load l =
    l.sum ≡ sum l.load-index (λ k. cond (eqb (l.tick % period (loads_in l.workload) k) 0) (work (loads_in l.workload) k) 0)
