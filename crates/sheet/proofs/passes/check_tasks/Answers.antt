use Rattle.std.proofs.Common.{◌+◌, take, add_assoc, arith}
use Rattle.std.proofs.lemmas.List.{at_drop_more, at_drop_all, take_more}
use Rattle.std.proofs.lemmas.Bool.Decides.{nat_tests}
use Rattle.grammar.specs.Passes.{apart_from}
use Rattle.sheet.proofs.Unread.{unread}
use Rattle.sheet.proofs.passes.check_tasks.Goals as goal

pub returns-then-is_barred : goal.returns-then-is_barred
returns-then-is_barred c =
    let e = at_drop_more (apart_from (c.args.first + c.loop-i.i) (take c.loop-i.i c.args.tasks.now)) c.args.tasks.now c.loop-i.i unread (omega arith) in
    grind (arith, nat_tests, e)

pub loop-i-preserved : goal.loop-i-preserved
loop-i-preserved c =
    let e = at_drop_more (apart_from (c.args.first + c.loop-i.i) (take c.loop-i.i c.args.tasks.now)) c.args.tasks.now c.loop-i.i unread (omega arith) in
    grind (arith, nat_tests, e, add_assoc c.args.first c.loop-i.i 1, take_more c.args.tasks.now c.loop-i.i unread (omega arith))

pub returns : goal.returns
returns c =
    let e = at_drop_all (apart_from (c.args.first + c.loop-i.i) (take c.loop-i.i c.args.tasks.now)) c.args.tasks.now c.loop-i.i (omega arith) in
    grind (arith, nat_tests, e)
