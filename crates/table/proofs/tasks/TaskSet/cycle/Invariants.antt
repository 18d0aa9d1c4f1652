use Rattle.std.proofs.Common.{◌≤◌}
use Rattle.table.proofs.Leasts.{LeastOf}
use Rattle.table.proofs.tasks.TaskSet.cycle.Given as goal

abbrev pub invariant-loop-place : goal.invariant-loop-place
invariant-loop-place l = record { least : LeastOf l.self.loads l.place l.ticks; short : l.ticks ≤ 30000 }
