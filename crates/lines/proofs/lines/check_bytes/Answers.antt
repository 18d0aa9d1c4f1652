use Rattle.std.proofs.Common.{arith}
use Rattle.std.proofs.lemmas.List.{at_drop_more, at_drop_all}
use Rattle.std.proofs.lemmas.Bool.Decides.{nat_tests}
use Rattle.grammar.specs.Texts.{bytes_from}
use Rattle.lines.proofs.lines.check_bytes.Goals as goal

pub returns-else-is_allowed : goal.returns-else-is_allowed
returns-else-is_allowed c =
    let e = at_drop_more (bytes_from c.loop-b.before c.loop-b.column) c.args.text.now c.loop-b.b-index 0 (omega arith) in
    grind (arith, nat_tests, e)

pub loop-b-preserved : goal.loop-b-preserved
loop-b-preserved c =
    let e = at_drop_more (bytes_from c.loop-b.before c.loop-b.column) c.args.text.now c.loop-b.b-index 0 (omega arith) in
    grind (arith, nat_tests, e)

pub returns-then-column-gt0 : goal.returns-then-column-gt0
returns-then-column-gt0 c =
    let e = at_drop_all (bytes_from c.loop-b.before c.loop-b.column) c.args.text.now c.loop-b.b-index (omega arith) in
    grind (arith, nat_tests, e)

pub returns : goal.returns
returns c =
    let e = at_drop_all (bytes_from c.loop-b.before c.loop-b.column) c.args.text.now c.loop-b.b-index (omega arith) in
    grind (arith, nat_tests, e)
