use Rattle.std.proofs.Common.{◌≡◌, ℕ, ◌+◌, ◌<◌, length, get_or, map, refl, ap, ◌∙◌, rules, arith}
use Rattle.std.proofs.lemmas.List.{length-map, get_or_past}
use Rattle.table.proofs.Facts.{cycle_of_lem}
use Rattle.table.specs.Workloads.{loads_in}
use Rattle.theory.specs.Loads.{size}
use Rattle.theory.specs.Slots.{owner}
use Rattle.wake.specs.Jobs.{no_job, renewed, spent}
use Rattle.wake.specs.declared.job.Job.{Job}
use Rattle.wake.proofs.Passes.{passed, left_after, jobs_after, job_of_task, owner_has_slots}
use Rattle.wake.proofs.machine.SlotMachine.pass.Goals as goal

pub update-requires : goal.update-requires
update-requires c = search (rules, job_of_task c.args.self.now, owner_has_slots c.args.self.now c.args.awake)

pub invariant_of-self : goal.invariant_of-self
invariant_of-self c =
    let m = c.args.self.now in
    let T = loads_in m.workload in
    let o = c.owner-owner.result in
    let f = (λ (j : Job). renewed T (m.tick + 1) j.place (spent o j.place j)) in
    let made : c.update.new.self ≡ map f m.jobs = c.update.ensures.each f (λ x y q. search rules) in
    let after = jobs_after T m.tick c.args.awake o m.jobs c.update.new.self m.one_number m.own made in
    let p = (λ (k : ℕ) (l : k < size T). passed T m.tick c.args.awake o k (get_or m.jobs k no_job) l ((cycle_of_lem m.workload).some_period k l) (m.dues k l) (m.releases k l) (m.own k l)) in
    record {
      one_number = ap length made ∙ (length-map m.jobs f ∙ m.one_number);
      early = omega arith;
      dues = λ k l. ap (λ (j : Job). j.due) (after k) ∙ (p k l).0;
      releases = λ k l. ap (λ (j : Job). j.release) (after k) ∙ (p k l).1;
      own = λ k l. ap (λ (j : Job). j.place) (after k) ∙ (p k l).2;
    }

pub returns-clause-left : goal.returns-clause-left
returns-clause-left c = λ _ k.
    let m = c.args.self.now in
    let T = loads_in m.workload in
    let o = owner T c.args.awake (λ i. (get_or m.jobs i no_job).left) m.tick in
    let f = (λ (j : Job). renewed T (m.tick + 1) j.place (spent o j.place j)) in
    let made : c.update.new.self ≡ map f m.jobs = c.update.ensures.each f (λ x y q. search rules) in
    ap (λ (j : Job). j.left) (jobs_after T m.tick c.args.awake o m.jobs c.update.new.self m.one_number m.own made k)
    ∙ left_after T m.tick c.args.awake (λ i. (get_or m.jobs i no_job).left) k (get_or m.jobs k no_job) refl
    (λ l. (passed T m.tick c.args.awake o k (get_or m.jobs k no_job) l ((cycle_of_lem m.workload).some_period k l) (m.dues k l) (m.releases k l) (m.own k l)).3)
    (λ l. get_or_past m.jobs k no_job (omega (arith, m.one_number)))
