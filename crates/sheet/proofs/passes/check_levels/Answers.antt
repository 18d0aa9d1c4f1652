use Rattle.std.proofs.Common.{◌+◌, add_assoc, arith}
use Rattle.std.proofs.lemmas.List.{at_drop_more, at_drop_all}
use Rattle.std.proofs.lemmas.Bool.Decides.{nat_tests}
use Rattle.grammar.specs.Passes.{rising_from}
use Rattle.sheet.proofs.passes.check_levels.Goals as goal

pub returns-then-level-last : goal.returns-then-level-last
returns-then-level-last c =
    let e = at_drop_more (rising_from (c.args.heading + c.loop-i.i) c.loop-i.last) c.args.levels.now c.loop-i.i 0 (omega arith) in
    grind (arith, nat_tests, e)

pub loop-i-preserved : goal.loop-i-preserved
loop-i-preserved c =
    let e = at_drop_more (rising_from (c.args.heading + c.loop-i.i) c.loop-i.last) c.args.levels.now c.loop-i.i 0 (omega arith) in
    grind (arith, nat_tests, e, add_assoc c.args.heading c.loop-i.i 1)

pub returns-then-last-ne100 : goal.returns-then-last-ne100
returns-then-last-ne100 c =
    let e = at_drop_all (rising_from (c.args.heading + c.loop-i.i) c.loop-i.last) c.args.levels.now c.loop-i.i (omega arith) in
    grind (arith, nat_tests, e)

pub returns : goal.returns
returns c =
    let e = at_drop_all (rising_from (c.args.heading + c.loop-i.i) c.loop-i.last) c.args.levels.now c.loop-i.i (omega arith) in
    grind (arith, nat_tests, e)
