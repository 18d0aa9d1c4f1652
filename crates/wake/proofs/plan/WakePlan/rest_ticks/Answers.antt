use Rattle.std.proofs.Common.{◌≡◌, ℕ, ◌-◌, Bool, not, ap, ◌∙◌, arith}
use Rattle.std.proofs.lemmas.Bool.Decides.{nat_tests}
use Rattle.theory.specs.Sums.{number, between}
use Rattle.wake.proofs.Rests.{counted, one_at_most, in_cycle}
use Rattle.wake.proofs.plan.WakePlan.rest_ticks.Goals as goal

pub loop-tick-preserved : goal.loop-tick-preserved
loop-tick-preserved g c =
    let p = g.Self.WakePlan.plan c.args.self.now in
    let awake : c.is_awake.result ≡ p.awake c.loop-tick.tick = c.is_awake.ensures ∙ in_cycle p.cycle p.awake c.loop-tick.tick (omega arith) in
    record {
      value = counted (λ k. not (p.awake k)) c.args.a c.loop-tick.tick c.loop-tick.rests c.from-rests.result _ c.loop-tick.invariant.value (ap not awake) c.from-rests.ensures;
      small = omega (arith, c.loop-tick.invariant.small, one_at_most _ _ c.from-rests.ensures);
    }

pub returns : goal.returns
unfolding between
returns g c =
    let p = g.Self.WakePlan.plan c.args.self.now in
    let rests : ℕ → Bool = λ k. not (p.awake k) in
    let t : c.loop-tick.tick ≡ c.args.b = omega arith in
    let e : c.loop-tick.rests ≡ number c.args.b rests - number c.args.a rests = omega (arith, c.loop-tick.invariant.value, ap (λ n. number n rests) t) in
    grind (arith, nat_tests)
