-- What holds of a whole section.
use Rattle.std.specs.Prelude.{ℕ, ◌+◌, Bool, false, cond, ◌||◌, List, [], ◌∷◌, ◌++◌, Ok, Err, codes, Result, ◌==◌, nat_lt}
use Rattle.std.specs.Str.{bytes_eq}
use Rattle.basis.specs.declared.fault.Fault.{Fault}
use Rattle.basis.specs.declared.fault.Reason.TheVariants.{Level, Task}
use Rattle.basis.specs.Faults.{fault_at}
use Rattle.grammar.specs.declared.task.TaskLine.{TaskLine}
use Rattle.grammar.specs.Names.{spelled}

-- the fault of a level that is not above the one before, or of the last where it is not 100
abbrev pub bad_level : ℕ → Fault
bad_level at = fault_at Level at

-- levels rise above `last`, which stands on line `at`, to 100
abbrev pub rising_from : ℕ → ℕ → List ℕ → Result (Unit {0}) Fault
rising_from at last [] = cond (last == 100) (Ok tt) (Err (bad_level at))
rising_from at last (v ∷ vs) = cond (nat_lt last v) (rising_from (at + 1) v vs) (Err (bad_level (at + 1)))

-- one of the tasks has this name
abbrev pub is_named : List ℕ → List TaskLine → Bool
is_named name [] = false
is_named name (t ∷ ts) = bytes_eq (spelled t.name) name || is_named name ts

-- a task has the name of an earlier one or the name `rest`, or more work than its period
abbrev pub is_barred : TaskLine → List TaskLine → Bool
is_barred t earlier = is_named (spelled t.name) earlier || (bytes_eq (spelled t.name) (codes "rest") || nat_lt t.period t.work)

-- the fault of such a task
abbrev pub bad_task : ℕ → Fault
bad_task at = fault_at Task at

-- no task is barred, of which the first stands on line `at` and has those of `earlier` before it
abbrev pub apart_from : ℕ → List TaskLine → List TaskLine → Result (Unit {0}) Fault
apart_from at earlier [] = Ok tt
apart_from at earlier (t ∷ ts) = cond (is_barred t earlier) (Err (bad_task at)) (apart_from (at + 1) (earlier ++ t ∷ []) ts)
