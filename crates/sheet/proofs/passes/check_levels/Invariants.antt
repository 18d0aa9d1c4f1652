use Rattle.std.proofs.Common.{◌≡◌, ◌+◌, drop}
use Rattle.grammar.specs.Passes.{rising_from}
use Rattle.sheet.proofs.passes.check_levels.Given as goal

abbrev pub invariant-loop-i : goal.invariant-loop-i
invariant-loop-i l = rising_from (l.heading + l.i) l.last (drop l.i l.levels) ≡ rising_from l.heading 0 l.levels
