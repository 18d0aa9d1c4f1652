use Rattle.std.proofs.Common.{sym, rules}
use Rattle.basis.specs.Picks.{First}
use Rattle.basis.proofs.Firsts.{takes, stays}
use Rattle.basis.proofs.row.better.Goals as goal

pub returns-then-comes_before : goal.returns-then-comes_before
returns-then-comes_before g c =
    let m = g.E.Entry in
    let law = g.met.E.Entry in
    let l : First (m.eligible c.args.question.now) m.before m.key c.args.row.now c.args.i c.in-Some.b = search rules in
    takes (m.eligible c.args.question.now) m.before m.key law.transitive law.total law.keyed
    c.args.row.now c.args.i c.in-Some.b c.args.entry.now c.index-row-b.result
    l c.requires.inside c.requires.here c.index-row-b.is (search rules) (sym c.if-comes_before.ensures)

pub returns-else-comes_before : goal.returns-else-comes_before
returns-else-comes_before g c =
    let m = g.E.Entry in
    let law = g.met.E.Entry in
    let l : First (m.eligible c.args.question.now) m.before m.key c.args.row.now c.args.i c.in-Some.b = search rules in
    stays (m.eligible c.args.question.now) m.before m.key law.transitive law.total law.keyed
    c.args.row.now c.args.i c.in-Some.b c.args.entry.now c.index-row-b.result
    l c.requires.inside c.requires.here c.index-row-b.is (sym c.if-comes_before.ensures)
