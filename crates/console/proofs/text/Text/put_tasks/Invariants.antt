use Rattle.std.proofs.Common.{◌≡◌, ◌++◌, length}
use Rattle.table.specs.Tables.{admitted}
use Rattle.console.specs.Pages.{task_text, joined}
use Rattle.console.proofs.text.Text.put_tasks.Given as goal

abbrev pub invariant-loop-name : goal.invariant-loop-name
invariant-loop-name l = l.self ≡ l.initial.self ++ joined (task_text (admitted l.table)) (length l.yielded)
