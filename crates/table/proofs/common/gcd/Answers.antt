use Rattle.table.proofs.Commons.{same_step, same_end}
use Rattle.table.proofs.common.gcd.Goals as goal

pub loop-y-preserved : goal.loop-y-preserved
loop-y-preserved c = same_step c.args.a c.args.b c.loop-y.x c.loop-y.y c.loop-y.invariant

pub returns : goal.returns
returns c = same_end c.args.a c.args.b c.loop-y.x (rw c.loop-y-test.false at c.loop-y.invariant)
