use Rattle.std.proofs.Common.{◌≡◌, ℕ, cond, ltb, length, get_or}
use Rattle.theory.specs.Loads.{no_load}
use Rattle.table.specs.Workloads.{loads_in}
use Rattle.wake.specs.Jobs.{no_job, released}
use Rattle.wake.proofs.machine.calls.first_jobs.Given as goal

-- the places that were passed have their jobs
abbrev pub invariant-loop-place : goal.invariant-loop-place
invariant-loop-place l =
    record {
      one_number : length l.jobs ≡ l.place;
      jobs : (k : ℕ) → get_or l.jobs k no_job ≡ cond (ltb k l.place) (released (get_or (loads_in l.workload) k no_load) 0 k) no_job;
    }
