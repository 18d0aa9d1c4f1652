use Rattle.std.proofs.Common.{arith}
use Rattle.std.proofs.lemmas.List.{at_drop_more, at_drop_all}
use Rattle.std.proofs.lemmas.Bool.Decides.{nat_tests}
use Rattle.grammar.specs.Bytes.{letters}
use Rattle.lines.proofs.words.is_name.Goals as goal

pub returns-then-not-is_letter : goal.returns-then-not-is_letter
returns-then-not-is_letter c =
    let e = at_drop_more letters c.args.piece.now c.loop-b.b-index 0 (omega arith) in
    grind (arith, nat_tests, e)

pub loop-b-preserved : goal.loop-b-preserved
loop-b-preserved c =
    let e = at_drop_more letters c.args.piece.now c.loop-b.b-index 0 (omega arith) in
    grind (arith, nat_tests, e)

pub returns : goal.returns
returns c =
    let e = at_drop_all letters c.args.piece.now c.loop-b.b-index (omega arith) in
    grind (arith, nat_tests, e)
