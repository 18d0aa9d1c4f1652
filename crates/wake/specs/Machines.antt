-- What a slot machine holds. Other crates do not see its fields and speak of it by these words.
use Rattle.std.specs.Prelude.{ℕ, Bool, Option, slice_index_or}
use Rattle.theory.specs.Slots.{owner}
use Rattle.table.specs.Workloads.{loads_in}
use Rattle.table.specs.declared.workload.Workload.{Workload}
use Rattle.wake.specs.Jobs.{no_job}
use Rattle.wake.specs.declared.machine.SlotMachine.{SlotMachine}

-- the works and periods that it serves
abbrev pub serves_of : SlotMachine → Workload
serves_of m = m.workload

-- the tick that comes next
abbrev pub tick_of : SlotMachine → ℕ
tick_of m = m.tick

-- the slots left of each place's job
abbrev pub left_in : SlotMachine → ℕ → ℕ
left_in m i = (slice_index_or m.jobs i no_job).left

-- who owns the tick that comes next, if the board is awake in it
abbrev pub owner_in : SlotMachine → Bool → Option ℕ
owner_in m awake = owner (loads_in m.workload) awake (left_in m) m.tick

-- the tick up to which a machine goes
abbrev pub last_tick : ℕ
last_tick = 100000000
