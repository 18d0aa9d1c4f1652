use Rattle.std.proofs.Common.{◌≡◌, ◌≤◌, drop}
use Rattle.grammar.specs.Texts.{bytes_from}
use Rattle.lines.proofs.lines.check_bytes.Given as goal

abbrev pub invariant-loop-b : goal.invariant-loop-b
invariant-loop-b l =
    (l.before ≤ l.b-index)
    × (l.column ≤ 40)
    × (bytes_from l.before l.column (drop l.b-index l.text) ≡ bytes_from 0 0 l.text)
