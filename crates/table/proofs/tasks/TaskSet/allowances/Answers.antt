use Rattle.std.proofs.Common.{rules}
use Rattle.table.proofs.Admissions.{work_short}
use Rattle.table.proofs.tasks.TaskSet.allowances.Goals as goal

pub mapped-requires : goal.mapped-requires
mapped-requires c = search (rules, work_short c.args.self.now)
