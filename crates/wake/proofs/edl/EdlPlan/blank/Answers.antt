use Rattle.std.proofs.Common.{arith}
use Rattle.table.specs.Workloads.{loads_in, turn_of}
use Rattle.wake.proofs.Lates.{edl_none}
use Rattle.wake.proofs.edl.EdlPlan.blank.Goals as goal

pub invariant_of-result : goal.invariant_of-result
invariant_of-result c =
    record {
      room = omega arith;
      shown = λ t h. omega arith;
      quiet = λ t h l. edl_none (loads_in c.blank.result) (turn_of c.blank.result) t c.blank.ensures.loads;
    }
