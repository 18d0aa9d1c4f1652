use Rattle.wake.proofs.Passes.{spent_owner, spent_other}
use Rattle.wake.proofs.job.Job.spent.Goals as goal

pub returns-then-eq : goal.returns-then-eq
returns-then-eq c = spent_owner c.args.owner c.args.self c.if-eq.ensures

pub returns-else-eq : goal.returns-else-eq
returns-else-eq c = spent_other c.args.owner c.args.self c.if-eq.ensures
