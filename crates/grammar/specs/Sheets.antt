-- What a sheet holds. Other crates do not see its fields and speak of it by these words.
use Rattle.std.specs.Prelude.{ℕ, List, [], ◌∷◌}
use Rattle.grammar.specs.declared.task.TaskLine.{TaskLine}
use Rattle.grammar.specs.declared.task.Power.{Power}
use Rattle.grammar.specs.Tasks.{no_power}

-- the content of a sheet: levels in percent, power figures, tasks by place, and the line of the first task
pub record Content : Type 0 where
  pub levels : List ℕ
  pub power : Power
  pub tasks : List TaskLine
  pub first : ℕ

-- the content of the blank sheet: level 100, zero power, no task
abbrev pub blank_content : Content
blank_content = record { levels = 100 ∷ []; power = no_power; tasks = []; first = 0 }
