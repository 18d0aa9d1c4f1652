-- The bodies: the lines of each section, in the sequence of the contents.
use Rattle.std.specs.Prelude.{ℕ, zero, suc, ◌+◌, Bool, true, ◌&&◌, List, [], ◌∷◌, ◌++◌, Ok, Result}
use Rattle.basis.specs.declared.fault.Fault.{Fault}
use Rattle.grammar.specs.declared.section.Entry.{Entry}
use Rattle.grammar.specs.declared.section.Section.{Section}
use Rattle.grammar.specs.declared.section.Section.TheVariants.{Levels, Power, Tasks}
use Rattle.grammar.specs.declared.task.Power.{Power as PowerLine}
use Rattle.grammar.specs.declared.task.TaskLine.{TaskLine}
use Rattle.grammar.specs.Binds.{bind}
use Rattle.grammar.specs.Bytes.{within}
use Rattle.grammar.specs.Contents.{Listed, heading_of, fixed_line_of}
use Rattle.grammar.specs.Fields.{bad_line, level_of, power_of, task_of}
use Rattle.grammar.specs.Tasks.{no_power}
use Rattle.grammar.specs.Texts.{Lines, first_of}

-- what `count` lines read to, of which the first is line `at` of the file, after what is `got` already; and the lines after them
abbrev pub items_from : {T : Type 0} → (ℕ → List ℕ → Result T Fault) → ℕ → ℕ → List T → Lines → Result (List T × Lines) Fault
items_from of at zero got ls = Ok (got, ls)
items_from of at (suc count) got ls =
    bind (first_of (bad_line at) (of at) ls) (λ x. items_from of (at + 1) count (got ++ x.0 ∷ []) x.1)

-- a body: what its lines read to, and the line of its heading
pub record Body (T : Type 0) : Type 0 where
  pub items : List T
  pub heading : ℕ

-- the lines after a heading, as a body
abbrev pub body_lines : {T : Type 0} → (ℕ → List ℕ → Result T Fault) → ℕ → ℕ → Lines → Result (Body T × Lines) Fault
body_lines of heading count ls = bind (items_from of (heading + 1) count [] ls) (λ x. Ok (record { items = x.0; heading = heading }, x.1))

-- what the bodies say
pub record Told : Type 0 where
  pub levels : Body ℕ
  pub power : PowerLine
  pub tasks : Body TaskLine

-- before the first body
abbrev pub untold : Told
untold = record { levels = record { items = []; heading = 0 }; power = no_power; tasks = record { items = []; heading = 0 } }

-- one body more, after its heading
abbrev pub section_from : Section → ℕ → ℕ → Told → Lines → Result (Told × Lines) Fault
section_from Levels heading count told ls =
    bind (body_lines level_of heading count ls) (λ x. Ok (record { levels = x.0; power = told.power; tasks = told.tasks }, x.1))
section_from Power heading count told ls =
    bind (first_of (bad_line (heading + 1)) (power_of (heading + 1)) ls) (λ x. Ok (record { levels = told.levels; power = x.0; tasks = told.tasks }, x.1))
section_from Tasks heading count told ls =
    bind (body_lines task_of heading count ls) (λ x. Ok (record { levels = told.levels; power = told.power; tasks = x.0 }, x.1))

-- one body more, of which the heading is line `at` of the file
abbrev pub body_of : Entry → ℕ → Told → Lines → Result (Told × Lines) Fault
body_of entry at told ls =
    bind (fixed_line_of (bad_line at) (heading_of entry.section) ls) (λ body. section_from entry.section at entry.count told body)

-- the three bodies, in the sequence of the contents, and the lines after them
abbrev pub bodies_of : Listed → Result (Told × Lines) Fault
bodies_of c =
    bind (body_of c.first 6 untold c.rest) (λ a.
    bind (body_of c.second (7 + c.first.count) a.0 a.1) (λ b.
    body_of c.third (8 + c.first.count + c.second.count) b.0 b.1))

-- each work and each period is from 1 to 30,000
abbrev pub ranged : List TaskLine → Bool
ranged [] = true
ranged (t ∷ ts) = (within 1 30000 t.work && within 1 30000 t.period) && ranged ts
