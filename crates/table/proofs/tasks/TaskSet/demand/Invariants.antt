use Rattle.std.proofs.Common.{◌≡◌, ◌*◌, ◌/◌, ◌≤◌}
use Rattle.theory.specs.Sums.{sum}
use Rattle.theory.specs.Loads.{work, period}
use Rattle.table.specs.Allowances.{allowance}
use Rattle.table.proofs.tasks.TaskSet.demand.Given as goal

abbrev pub invariant-loop-load : goal.invariant-loop-load
invariant-loop-load l =
    record {
      value : l.sum ≡ sum l.load-index (λ k. allowance l.level.percent (work l.self.loads k) * (l.turn.ticks / period l.self.loads k));
      small : l.sum ≤ 90002970000 * l.load-index;
    }
