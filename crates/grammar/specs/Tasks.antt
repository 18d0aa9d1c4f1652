-- What holds of the levels and the tasks of every sheet.
use Rattle.std.specs.Prelude.{ℕ, ◌-◌, Bool, true, ◌&&◌, List, [], ◌∷◌, ◌++◌, length, replicate, ◌==◌, nat_le, nat_lt}
use Rattle.grammar.specs.declared.name.Name.{Name}
use Rattle.grammar.specs.declared.task.TaskLine.{TaskLine}
use Rattle.grammar.specs.declared.task.Power.{Power}

-- the name that spells a text of at most 8 letters
abbrev pub name_for : List ℕ → Name
name_for s = record { bytes = s ++ replicate (8 - length s) 0 }

-- a blank place
abbrev pub no_task : TaskLine
no_task = record { name = name_for []; work = 0; period = 0 }

-- 1 ≤ work ≤ period ≤ 30,000
abbrev pub sound : TaskLine → Bool
sound t = nat_le 1 t.work && (nat_le t.work t.period && nat_le t.period 30000)

-- of each task
abbrev pub sound_all : List TaskLine → Bool
sound_all [] = true
sound_all (t ∷ ts) = sound t && sound_all ts

-- strictly rising above `last`, up to 100 at the end
abbrev pub rising : ℕ → List ℕ → Bool
rising last [] = last == 100
rising last (v ∷ vs) = nat_lt last v && rising v vs

-- zero power
abbrev pub no_power : Power
no_power = record { static_mw = 0; steady_mw = 0; switching_mw = 0 }
