-- What a workload holds. Other crates do not see its fields and speak of it by these words.
use Rattle.std.specs.Prelude.{ℕ}
use Rattle.theory.specs.Loads.{Loads}
use Rattle.table.specs.declared.workload.Workload.{Workload}

-- its works and periods, by place
abbrev pub loads_in : Workload → Loads
loads_in w = w.loads

-- the ticks of its cycle
abbrev pub turn_of : Workload → ℕ
turn_of w = w.cycle.ticks
