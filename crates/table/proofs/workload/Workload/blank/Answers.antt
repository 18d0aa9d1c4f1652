use Rattle.std.proofs.Common.{arith}
use Rattle.theory.specs.Loads.{load}
use Rattle.theory.specs.Sums.{sum}
use Rattle.table.proofs.workload.Workload.blank.Goals as goal

pub new-requires-2 : goal.new-requires-2
unfolding load sum
new-requires-2 c = rw c.new.ensures (record { few = omega arith; whole = record { ticks = omega arith; some_period = λ i h. absurd (omega arith); divides = λ i h. absurd (omega arith) }; fits = omega arith })
