-- Jobs as the order between them sees them.
use Rattle.std.specs.Prelude.{ℕ, ◌+◌, ◌-◌, cond, ◌&&◌, Option, ◌==◌, nat_lt, slice_index_or}
use Rattle.theory.specs.Loads.{Loads, size, no_load}
use Rattle.theory.specs.Orders.{Key}
use Rattle.theory.specs.Slots.{is}
use Rattle.theory.specs.Sums.{bit}
use Rattle.theory.specs.declared.Load.{Load}
use Rattle.wake.specs.declared.job.Job.{Job}

-- what the order compares of a job
abbrev pub key_of : Job → Key
key_of j = record { due = j.due; release = j.release; place = j.place }

-- a place past the last task
abbrev pub no_job : Job
no_job = record { due = 0; release = 0; place = 0; left = 0 }

-- the job of a task that is released at a tick
abbrev pub released : Load → ℕ → ℕ → Job
released l tick place = record { due = tick + l.period; release = tick; place = place; left = l.work }

-- the job that place k has at tick 0
abbrev pub first_job : Loads → ℕ → Job
first_job T k = cond (nat_lt k (size T)) (released (slice_index_or T k no_load) 0 k) no_job

-- what becomes of place k's job as a tick begins: if it is due then, it makes room for its successor
abbrev pub renewed : Loads → ℕ → ℕ → Job → Job
renewed T tick k j = cond (nat_lt k (size T) && j.due == tick) (released (slice_index_or T k no_load) tick k) j

-- place k's job after a tick: one slot less, if the place is the tick's owner
abbrev pub spent : Option ℕ → ℕ → Job → Job
spent owner k j = record { due = j.due; release = j.release; place = j.place; left = j.left - bit (is k owner) }
