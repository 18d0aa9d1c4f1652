-- Which sheets are admitted, as which tables, and with which refusal the others are turned away.
use Rattle.std.specs.Prelude.{ℕ, ◌+◌, List, [], ◌∷◌, map, length, Some, None, Ok, Err, Option, Result}
use Rattle.basis.specs.declared.fault.Fault.{Fault}
use Rattle.basis.specs.declared.fault.Reason.TheVariants.{LongCycle, Overfull}
use Rattle.basis.specs.Faults.{fault_at, fault_of}
use Rattle.grammar.specs.declared.name.Name.{Name}
use Rattle.grammar.specs.declared.task.TaskLine.{TaskLine}
use Rattle.grammar.specs.declared.task.Power.{Power}
use Rattle.grammar.specs.Tasks.{no_power}
use Rattle.grammar.specs.Sheets.{Content}
use Rattle.theory.specs.declared.Load.{Load}
use Rattle.theory.specs.Loads.{Loads}
use Rattle.table.specs.Cycles.{cycle_of, long_at, Least}
use Rattle.table.specs.Allowances.{allowed, fits_at, base_of, Lowest}

-- what an admitted table holds: names, works and allowances by place, the levels and the base level in percent, the cycle in ticks
pub record Admitted : Type 0 where
  pub names : List Name
  pub works : Loads
  pub allowances : Loads
  pub levels : List ℕ
  pub base : ℕ
  pub cycle : ℕ
  pub power : Power

-- the law of the cycle: it is the least common multiple of the periods
abbrev pub LeastCycle : Admitted → Type 0
LeastCycle a = Least a.works a.cycle

-- the law of the base level: it is the lowest level at which the allowances fit the cycle
abbrev pub LowestBase : Admitted → Type 0
LowestBase a = Lowest a.levels (fits_at a.works a.cycle) a.base

-- the work and the period of a task
abbrev pub load_of : TaskLine → Load
load_of t = record { work = t.work; period = t.period }

-- of each task
abbrev pub loads_of : List TaskLine → Loads
loads_of ts = map load_of ts

-- the name of each task
abbrev pub names_of : List TaskLine → List Name
names_of ts = map (λ t. t.name) ts

-- the line of the task at a place, below the first task's line
abbrev pub line_at : ℕ → Option ℕ → ℕ
line_at first None = 0
line_at first (Some i) = first + i

-- the table of a sheet's content, with a cycle of H ticks and the base level s
abbrev pub table_of : Content → ℕ → ℕ → Admitted
table_of c H s =
    record {
      names = names_of c.tasks;
      works = loads_of c.tasks;
      allowances = allowed s (loads_of c.tasks);
      levels = c.levels;
      base = s;
      cycle = H;
      power = c.power;
    }

-- with a base level: admitted; where no level fits, refusal 7
abbrev pub with_base : Content → ℕ → Option ℕ → Result Admitted Fault
with_base c H None = Err (fault_of Overfull)
with_base c H (Some s) = Ok (table_of c H s)

-- with a cycle: the base level decides; where there is none, refusal 6, on the line of the first task with which there is none
abbrev pub with_cycle : Content → Option ℕ → Result Admitted Fault
with_cycle c None = Err (fault_at LongCycle (line_at c.first (long_at (loads_of c.tasks) (length c.tasks))))
with_cycle c (Some H) = with_base c H (base_of c.levels (fits_at (loads_of c.tasks) H))

-- the admission of a sheet's content
unfoldable pub admit_of : Content → Result Admitted Fault
admit_of c = with_cycle c (cycle_of (loads_of c.tasks))

-- the blank table: no task, a cycle of one tick, full speed, zero power
abbrev pub blank_table : Admitted
blank_table = record { names = []; works = []; allowances = []; levels = 100 ∷ []; base = 100; cycle = 1; power = no_power }
