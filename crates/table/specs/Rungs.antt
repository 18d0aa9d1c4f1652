-- The levels as a row to pick from.
use Rattle.std.specs.Prelude.{ℕ}
use Rattle.theory.specs.Loads.{Loads, load}
use Rattle.table.specs.declared.base.Rung.{Rung}
use Rattle.table.specs.Allowances.{allowed}

-- a level, with the allowances at it that fall due in a cycle of H ticks
abbrev pub rung_at : Loads → ℕ → ℕ → Rung
rung_at T H s = record { level = s; demand = load (allowed s T) H }

-- what stands in a place that no level uses
abbrev pub no_rung : Rung
no_rung = record { level = 0; demand = 0 }
