use Rattle.basis.specs.Picks.{Picked}
use Rattle.basis.proofs.row.pick.Given as goal

abbrev pub invariant-loop-i : goal.invariant-loop-i
invariant-loop-i g l = Picked (g.E.Entry.eligible l.question) g.E.Entry.before g.E.Entry.key l.row l.i l.best
