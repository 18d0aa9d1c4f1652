use Rattle.std.proofs.Common.{◌≡◌, ◌*◌, ◌/◌, ◌≤◌, length, sym, ap, ◌∙◌, div-le_self, arith}
use Rattle.std.proofs.lemmas.Nat.{mul-le}
use Rattle.theory.specs.Sums.{sum}
use Rattle.theory.specs.Loads.{size, work, period}
use Rattle.theory.proofs.Sums.{sum-zero, sum_more}
use Rattle.table.specs.Allowances.{allowance}
use Rattle.table.proofs.Leasts.{period-some}
use Rattle.table.proofs.Bases.{load-allowed}
use Rattle.table.proofs.tasks.TaskSet.demand.Goals as goal

pub loop-load-init : goal.loop-load-init
loop-load-init c = record { value = sym (sum-zero _); small = omega arith }

pub allowance-allowance-requires : goal.allowance-allowance-requires
unfolding work
allowance-allowance-requires c =
    let e = c.entries-load-items.ensures.entries in
    let p = c.args.self.now.sound c.loop-load.load-index (omega (arith, c.loop-load-test.true, ap length e)) in
    rw e (omega (arith, p.1, p.2))

pub nonzero_div-turn : goal.nonzero_div-turn
unfolding period
nonzero_div-turn c =
    let e = c.entries-load-items.ensures.entries in
    rw e (period-some c.args.self.now.loads c.args.self.now.sound c.loop-load.load-index (omega (arith, c.loop-load-test.true, ap length e)))

pub loop-load-preserved : goal.loop-load-preserved
unfolding work period
loop-load-preserved c =
    let T = c.args.self.now.loads in
    let i = c.loop-load.load-index in
    let H = c.args.turn.ticks in
    let s = c.args.level.percent in
    let q = H / period T i in
    let e = c.entries-load-items.ensures.entries in
    let a : c.from.result ≡ allowance s (work T i) = c.from.ensures ∙ (rw e at c.allowance-allowance.ensures.value) in
    let b : c.from-in-loop-load.result ≡ q = rw e at c.from-in-loop-load.ensures in
    let m : c.from.result * c.from-in-loop-load.result ≤ 3000099 * 30000 =
    mul-le c.from.result c.from-in-loop-load.result 3000099 30000 (omega (arith, c.from.ensures, c.allowance-allowance.ensures.small))
    (omega (arith, b, div-le_self H (period T i), c.args.turn.short)) in
    record {
      value = omega (
        arith,
        sum_more i (λ k. allowance s (work T k) * (H / period T k)),
        c.loop-load.invariant.value,
        ap (λ x. x * c.from-in-loop-load.result) a,
        ap (λ x. allowance s (work T i) * x) b,
      );
      small = omega (arith, m, c.loop-load.invariant.small);
    }

pub returns : goal.returns
returns c =
    let T = c.args.self.now.loads in
    let e : c.loop-load.load-index ≡ size T = omega (arith, ap length c.entries-load-items.ensures.entries) in
    c.loop-load.invariant.value
    ∙ (ap (λ n. sum n (λ k. allowance c.args.level.percent (work T k) * (c.args.turn.ticks / period T k))) e ∙ sym (load-allowed c.args.level.percent T c.args.turn.ticks))
