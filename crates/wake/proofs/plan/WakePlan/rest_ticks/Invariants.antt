use Rattle.std.proofs.Common.{◌≡◌, ◌+◌, ◌≤◌, not}
use Rattle.theory.specs.Sums.{number}
use Rattle.wake.proofs.plan.WakePlan.rest_ticks.Given as goal

-- the rests from a up to a tick
abbrev pub invariant-loop-tick : goal.invariant-loop-tick
invariant-loop-tick g l =
    record {
      value : l.rests + number l.a (λ k. not ((g.Self.WakePlan.plan l.self).awake k)) ≡ number l.tick (λ k. not ((g.Self.WakePlan.plan l.self).awake k));
      small : l.rests + l.a ≤ l.tick;
    }
