use Rattle.std.proofs.Common.{◌≡◌, ◌++◌}
use Rattle.table.specs.Tables.{admitted}
use Rattle.console.specs.Pages.{first_text, joined}
use Rattle.console.proofs.text.Text.put_firsts.Given as goal

abbrev pub invariant-loop-place : goal.invariant-loop-place
invariant-loop-place l = l.self ≡ l.initial.self ++ joined (first_text (admitted l.table)) l.place
