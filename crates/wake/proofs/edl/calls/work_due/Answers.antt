use Rattle.std.proofs.Common.{◌≡◌, ◌<◌, ◌%◌, cond, eqb, length, refl, ap, ◌∙◌, arith}
use Rattle.std.proofs.lemmas.Bool.Decides.{nat_tests}
use Rattle.theory.specs.Sums.{sum}
use Rattle.theory.specs.Loads.{size, work, period}
use Rattle.theory.specs.Lates.{due_at}
use Rattle.table.specs.Workloads.{loads_in}
use Rattle.wake.proofs.Lates.{share_more, share_bound, due_small}
use Rattle.wake.proofs.edl.calls.work_due.Goals as goal
use Rattle.wake.proofs.edl.calls.work_due.Goals.{then-tick-load-eq0, else-tick-load-eq0}

pub loop-load-init : goal.loop-load-init
unfolding sum
loop-load-init c = refl

pub nonzero_rem-tick : goal.nonzero_rem-tick
unfolding period
nonzero_rem-tick c =
    let e = c.loads-load-items.ensures in
    rw e (c.args.workload.now.periods c.loop-load.load-index (omega (arith, c.loop-load-test.true, ap length e)))

pub overflow_add-sum : goal.overflow_add-sum
unfolding work period
overflow_add-sum c =
    let T = loads_in c.args.workload.now in
    let l : c.loop-load.load-index < size T = omega (arith, c.loop-load-test.true, ap length c.loads-load-items.ensures) in
    let b = share_bound T c.args.tick c.loop-load.load-index c.loop-load.sum l c.loop-load.invariant in
    let s = due_small c.args.workload.now c.args.tick in
    let h = rw c.loads-load-items.ensures at c.if-tick-load-eq0.true in
    rw c.loads-load-items.ensures (grind (arith, nat_tests))

pub loop-load-preserved : goal.loop-load-preserved
unfolding work period
loop-load-preserved c =
    let m = share_more (loads_in c.args.workload.now) c.args.tick c.loop-load.load-index c.loop-load.sum c.loop-load.invariant in
    elim c.if-tick-load-eq0.branch [
      | then-tick-load-eq0 w ↦ let h = rw c.loads-load-items.ensures at w.if-tick-load-eq0.true in let k = rw c.loads-load-items.ensures at w.sum-is in grind (arith, nat_tests)
      | else-tick-load-eq0 w ↦ let h = rw c.loads-load-items.ensures at w.if-tick-load-eq0.false in let k = w.sum-is in grind (arith, nat_tests)
    ]

pub returns : goal.returns
unfolding due_at
returns c =
    let T = loads_in c.args.workload.now in
    let e : c.loop-load.load-index ≡ size T = omega (arith, ap length c.loads-load-items.ensures) in
    c.loop-load.invariant ∙ ap (λ n. sum n (λ k. cond (eqb (c.args.tick % period T k) 0) (work T k) 0)) e
