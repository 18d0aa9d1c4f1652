use Rattle.std.proofs.Common.{refl, ap, ◌∙◌, arith}
use Rattle.table.specs.Workloads.{loads_in}
use Rattle.wake.proofs.Passes.{first-left, first-due, first-release, first-place}
use Rattle.wake.proofs.machine.SlotMachine.start.Goals as goal

pub invariant_of-result : goal.invariant_of-result
invariant_of-result c =
    let T = loads_in c.args.workload.now in
    let at = c.first_jobs.ensures.jobs in
    record {
      one_number = c.first_jobs.ensures.one_number;
      early = omega arith;
      dues = λ i l. ap (λ j. j.due) (at i) ∙ first-due T i l;
      releases = λ i l. ap (λ j. j.release) (at i) ∙ first-release T i l;
      own = λ i l. ap (λ j. j.place) (at i) ∙ first-place T i l;
    }

pub returns : goal.returns
returns c =
    let T = loads_in c.args.workload.now in
    record { serves = refl; tick = refl; left = λ i. ap (λ j. j.left) (c.first_jobs.ensures.jobs i) ∙ first-left T i }
