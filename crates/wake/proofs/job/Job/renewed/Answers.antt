use Rattle.std.proofs.Common.{length, ap, arith}
use Rattle.table.proofs.Facts.{few_of}
use Rattle.wake.proofs.Passes.{period_short_in}
use Rattle.wake.proofs.job.Job.renewed.Goals as goal

pub released-requires : goal.released-requires
released-requires c =
    let few = few_of c.args.workload.now in
    let same = ap length c.loads.ensures in
    (grind (arith, period_short_in c.args.workload.now), omega (arith, few, same))
