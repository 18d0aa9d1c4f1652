use Rattle.std.proofs.Common.{◌≡◌, ◌^◌, ◌<◌, drop}
use Rattle.grammar.specs.Bytes.{digits_from}
use Rattle.lines.proofs.words.number.Given as goal

abbrev pub invariant-loop-b : goal.invariant-loop-b
invariant-loop-b l =
    (l.value < 10 ^ l.b-index) × (digits_from l.value (drop l.b-index l.piece) ≡ digits_from 0 l.piece)
