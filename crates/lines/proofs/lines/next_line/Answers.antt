use Rattle.std.proofs.Common.{arith, length-drop}
use Rattle.std.proofs.lemmas.List.{take_rest}
use Rattle.lines.proofs.Cuts.{cut_at, none}
use Rattle.lines.proofs.lines.next_line.Goals as goal

pub returns-then-n-text : goal.returns-then-n-text
returns-then-n-text c =
    record {
      cut = cut_at _ _ c.length_before-n.ensures.value (omega arith);
      shorter = simp (take_rest, length-drop) (omega arith);
    }

pub returns-else-n-text : goal.returns-else-n-text
returns-else-n-text c = record { cut = none c.args.text.now (omega (arith, c.length_before-n.ensures.value)); shorter = tt }
