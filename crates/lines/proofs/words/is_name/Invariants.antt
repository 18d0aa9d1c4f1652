use Rattle.std.proofs.Common.{◌≡◌, drop}
use Rattle.grammar.specs.Bytes.{letters}
use Rattle.lines.proofs.words.is_name.Given as goal

abbrev pub invariant-loop-b : goal.invariant-loop-b
invariant-loop-b l = letters (drop l.b-index l.piece) ≡ letters l.piece
