use Rattle.std.proofs.Common.{◌≡◌, ℕ, ◌+◌, ◌<◌, Bool, ap, ◌∙◌, arith, rules}
use Rattle.std.proofs.lemmas.Bool.{lt-ltb}
use Rattle.theory.specs.Laws.{cyclic}
use Rattle.theory.specs.Slots.{owns, slots, owner, next}
use Rattle.table.specs.Workloads.{loads_in}
use Rattle.wake.specs.Machines.{tick_of, left_in, last_tick}
use Rattle.console.proofs.Marks.{marked_more, owner_then, slots_then}
use Rattle.console.proofs.ticks.owners.Goals as goal

pub loop-t-init : goal.loop-t-init
unfolding slots
loop-t-init g c = search rules

pub loop-t-preserved : goal.loop-t-preserved
loop-t-preserved g c =
    let P = g.W.WakePlan.plan c.args.plan.now in
    let W : ℕ → Bool = cyclic P.cycle P.awake in
    let T = loads_in c.args.workload.now in
    let t = c.loop-t.t in
    let m = c.loop-t.machine in
    let i = c.loop-t.invariant in
    let small : tick_of m < last_tick = omega (arith, i.tick) in
    let ow : c.pass.result ≡ owner T c.is_awake.result (left_in m) t =
    (rw (lt-ltb (tick_of m) last_tick small) at c.pass.ensures.answer) ∙ (λ k. owner (loads_in (i.serves k)) c.is_awake.result (left_in m) (i.tick k)) in
    record {
      serves = c.pass.ensures.serves ∙ i.serves;
      tick = c.pass.ensures.tick small ∙ ap (λ (x : ℕ). x + 1) i.tick;
      left = slots_then T W t (left_in m) i.left c.is_awake.result (left_in c.pass.new.self) c.is_awake.ensures (λ p. c.pass.ensures.left small p ∙ (λ k. next (loads_in (i.serves k)) c.is_awake.result (left_in m) (i.tick k) p));
      owners = marked_more (owns T W) t c.loop-t.owners.items c.push.new.self.items c.pass.result i.owners c.in_ok-push.ensures.items (owner_then T W t (left_in m) i.left c.is_awake.result c.pass.result c.is_awake.ensures ow);
    }
