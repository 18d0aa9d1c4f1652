use Rattle.std.proofs.Common.{◌≡◌, ◌<◌, suc, length, ap, add-one, arith}
use Rattle.theory.specs.Loads.{period, size}
use Rattle.table.proofs.Leasts.{LeastOf, period-some, least_none, least_more, least-all, cycle-all, cycle_none_all, long_first}
use Rattle.table.proofs.tasks.TaskSet.cycle.Goals as goal

pub loop-place-init : goal.loop-place-init
loop-place-init c = record { least = least_none c.args.self.now.loads; short = omega arith }

pub lcm-longer-requires : goal.lcm-longer-requires
unfolding period
lcm-longer-requires c =
    let e = c.entries-load-items.ensures.entries in
    let p = c.args.self.now.sound c.loop-place.place (omega (arith, c.loop-place-test.true, ap length e)) in
    rw e (record { some = (c.loop-place.invariant.least.some, omega (arith, p.0, p.1)); small = (c.loop-place.invariant.short, p.2) })

pub returns-then-longer-gt-LONGEST : goal.returns-then-longer-gt-LONGEST
unfolding period
returns-then-longer-gt-LONGEST c =
    let T = c.args.self.now.loads in
    let i = c.loop-place.place in
    let e = c.entries-load-items.ensures.entries in
    let lt : i < size T = omega (arith, c.loop-place-test.true, ap length e) in
    let l = c.loop-place.invariant.least in
    let m : LeastOf T (suc i) c.lcm-longer.result =
    least_more T i c.loop-place.ticks c.lcm-longer.result (period-some T c.args.self.now.sound i lt) l (rw e at c.lcm-longer.ensures) in (
      cycle_none_all T (suc i) c.lcm-longer.result lt m (omega arith),
      long_first T i (length T) c.loop-place.ticks c.lcm-longer.result lt (omega arith) l c.loop-place.invariant.short m (omega arith),
      lt,
    )

pub loop-place-preserved : goal.loop-place-preserved
unfolding period
loop-place-preserved c =
    let T = c.args.self.now.loads in
    let i = c.loop-place.place in
    let e = c.entries-load-items.ensures.entries in
    let lt : i < size T = omega (arith, c.loop-place-test.true, ap length e) in
    record {
      least = rw (add-one i) (least_more T i c.loop-place.ticks c.lcm-longer.result (period-some T c.args.self.now.sound i lt) c.loop-place.invariant.least (rw e at c.lcm-longer.ensures));
      short = omega arith;
    }

pub returns : goal.returns
returns c =
    let T = c.args.self.now.loads in
    let e : c.loop-place.place ≡ size T = omega (arith, ap length c.entries-load-items.ensures.entries) in
    let l : LeastOf T (size T) c.loop-place.ticks = rw (← e) c.loop-place.invariant.least in
    (cycle-all T c.loop-place.ticks l c.loop-place.invariant.short, least-all T c.loop-place.ticks l)
