use Rattle.std.proofs.Common.{◌≡◌, ◌+◌, [], take, drop}
use Rattle.grammar.specs.Passes.{apart_from}
use Rattle.sheet.proofs.passes.check_tasks.Given as goal

abbrev pub invariant-loop-i : goal.invariant-loop-i
invariant-loop-i l =
    apart_from (l.first + l.i) (take l.i l.tasks) (drop l.i l.tasks) ≡ apart_from l.first [] l.tasks
