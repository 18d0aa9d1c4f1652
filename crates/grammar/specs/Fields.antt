-- What the lines of the bodies say, word by word.
use Rattle.std.specs.Prelude.{ℕ, cond, List, Some, None, Ok, Err, Result}
use Rattle.basis.specs.declared.fault.Fault.{Fault}
use Rattle.basis.specs.declared.fault.Reason.TheVariants.{Body}
use Rattle.basis.specs.Faults.{fault_at}
use Rattle.grammar.specs.declared.task.Power.{Power}
use Rattle.grammar.specs.declared.task.TaskLine.{TaskLine}
use Rattle.grammar.specs.Binds.{bind}
use Rattle.grammar.specs.Bytes.{within}
use Rattle.grammar.specs.Tasks.{name_for}
use Rattle.grammar.specs.Words.{Left, Next, name, number, next_word}

-- the first word of what is left
abbrev pub word_in : Left → Next
word_in left = next_word left.0 left.1

-- a name with more after it
abbrev pub next_name : Fault → Next → Result (List ℕ × Left) Fault
next_name f None = Err f
next_name f (Some (number v at, left)) = Err f
next_name f (Some (name text at, None)) = Err f
next_name f (Some (name text at, Some left)) = Ok (text, left)

-- a number from low to high with more after it
abbrev pub next_number : Fault → ℕ → ℕ → Next → Result (ℕ × Left) Fault
next_number f low high None = Err f
next_number f low high (Some (name text at, left)) = Err f
next_number f low high (Some (number v at, None)) = Err f
next_number f low high (Some (number v at, Some left)) = cond (within low high v) (Ok (v, left)) (Err f)

-- a number from low to high that ends the line
abbrev pub last_number : Fault → ℕ → ℕ → Next → Result ℕ Fault
last_number f low high None = Err f
last_number f low high (Some (name text at, left)) = Err f
last_number f low high (Some (number v at, Some left)) = Err f
last_number f low high (Some (number v at, None)) = cond (within low high v) (Ok v) (Err f)

-- the fault of a line that is not of its form
abbrev pub bad_line : ℕ → Fault
bad_line at = fault_at Body at

-- a level line: one number from 1 to 100
abbrev pub level_of : ℕ → List ℕ → Result ℕ Fault
level_of at l = last_number (bad_line at) 1 100 (next_word 0 l)

-- the power line: static, steady, switching, each from 0 to 10,000
abbrev pub power_of : ℕ → List ℕ → Result Power Fault
power_of at l =
    bind (next_number (bad_line at) 0 10000 (next_word 0 l)) (λ static.
    bind (next_number (bad_line at) 0 10000 (word_in static.1)) (λ steady.
    bind (last_number (bad_line at) 0 10000 (word_in steady.1)) (λ switching.
    Ok (record { static_mw = static.0; steady_mw = steady.0; switching_mw = switching }))))

-- a task line: name, work, period, the numbers each from 1 to 30,000
abbrev pub task_of : ℕ → List ℕ → Result TaskLine Fault
task_of at l =
    bind (next_name (bad_line at) (next_word 0 l)) (λ text.
    bind (next_number (bad_line at) 1 30000 (word_in text.1)) (λ work.
    bind (last_number (bad_line at) 1 30000 (word_in work.1)) (λ period.
    Ok (record { name = name_for text.0; work = work.0; period = period }))))
