use Rattle.std.proofs.Common.{arith}
use Rattle.std.proofs.lemmas.List.{at_drop_more, at_drop_all}
use Rattle.std.proofs.lemmas.Bool.Decides.{nat_tests}
use Rattle.grammar.specs.Passes.{is_named}
use Rattle.sheet.proofs.Unread.{unread}
use Rattle.sheet.proofs.passes.is_named.Goals as goal

pub returns-then-same : goal.returns-then-same
returns-then-same c =
    let e = at_drop_more (is_named c.args.name.now) c.args.tasks.now c.loop-task.task-index unread (omega arith) in
    grind (arith, nat_tests, e)

pub loop-task-preserved : goal.loop-task-preserved
loop-task-preserved c =
    let e = at_drop_more (is_named c.args.name.now) c.args.tasks.now c.loop-task.task-index unread (omega arith) in
    grind (arith, nat_tests, e)

pub returns : goal.returns
returns c =
    let e = at_drop_all (is_named c.args.name.now) c.args.tasks.now c.loop-task.task-index (omega arith) in
    grind (arith, nat_tests, e)
