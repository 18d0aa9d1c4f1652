use Rattle.std.proofs.Common.{◌≡◌, drop}
use Rattle.grammar.specs.Passes.{is_named}
use Rattle.sheet.proofs.passes.is_named.Given as goal

abbrev pub invariant-loop-task : goal.invariant-loop-task
invariant-loop-task l = is_named l.name (drop l.task-index l.tasks) ≡ is_named l.name l.tasks
