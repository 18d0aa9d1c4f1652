-- The contents: which sections follow in which sequence, and how many lines each has.
use Rattle.std.specs.Prelude.{ℕ, cond, List, [], ◌∷◌, Some, None, Ok, Err, codes, Option, Result}
use Rattle.std.specs.Str.{bytes_eq}
use Rattle.std.specs.Option.{ok_or}
use Rattle.basis.specs.declared.fault.Fault.{Fault}
use Rattle.basis.specs.declared.fault.Reason.TheVariants.{Contents}
use Rattle.basis.specs.Faults.{fault_at}
use Rattle.grammar.specs.declared.section.Entry.{Entry}
use Rattle.grammar.specs.declared.section.Section.{Section}
use Rattle.grammar.specs.declared.section.Section.TheVariants.{Levels, Power, Tasks}
use Rattle.grammar.specs.Binds.{bind}
use Rattle.grammar.specs.Fields.{next_name, last_number, word_in}
use Rattle.grammar.specs.Texts.{Lines, first_of}
use Rattle.grammar.specs.Words.{next_word}

-- the name of a section, which is the line above its body
abbrev pub heading_of : Section → List ℕ
heading_of Levels = codes "levels"
heading_of Power = codes "power"
heading_of Tasks = codes "tasks"

-- the section of this name
abbrev pub section_of : List ℕ → Option Section
section_of text =
    cond (bytes_eq text (codes "levels")) (Some Levels)
    (cond (bytes_eq text (codes "power")) (Some Power)
    (cond (bytes_eq text (codes "tasks")) (Some Tasks) None))

-- how many lines the body of a section has at most
abbrev pub most_lines : Section → ℕ
most_lines Levels = 8
most_lines Power = 1
most_lines Tasks = 16

-- the fault of a line that is not of the contents' form
abbrev pub bad_contents : ℕ → Fault
bad_contents at = fault_at Contents at

-- a line of the contents: a section's name and its number of lines
abbrev pub entry_of : Fault → List ℕ → Result Entry Fault
entry_of f l =
    bind (next_name f (next_word 0 l)) (λ text.
    bind (ok_or (section_of text.0) f) (λ section.
    bind (last_number f 1 (most_lines section) (word_in text.1)) (λ count.
    Ok (record { section = section; count = count }))))

-- such a line at the front of others
abbrev pub entry_line_of : ℕ → Lines → Result (Entry × Lines) Fault
entry_line_of at ls = first_of (bad_contents at) (entry_of (bad_contents at)) ls

-- a fixed line at the front of others
abbrev pub fixed_line_of : Fault → List ℕ → Lines → Result Lines Fault
fixed_line_of f want [] = Err f
fixed_line_of f want (l ∷ ls) = cond (bytes_eq l want) (Ok ls) (Err f)

-- no section has two lines
abbrev pub other_than : Entry → Entry → ℕ → Result (Unit {0}) Fault
other_than before entry at =
    cond (bytes_eq (heading_of before.section) (heading_of entry.section)) (Err (bad_contents at)) (Ok tt)

-- the three sections in their sequence, and the lines after the contents
pub record Listed : Type 0 where
  pub first : Entry
  pub second : Entry
  pub third : Entry
  pub rest : Lines

-- the contents of a file: their heading, a line for each section, and their end
abbrev pub contents_of : Lines → Result Listed Fault
contents_of ls =
    bind (fixed_line_of (bad_contents 1) (codes "contents") ls) (λ body.
    bind (entry_line_of 2 body) (λ a.
    bind (entry_line_of 3 a.1) (λ b.
    bind (other_than a.0 b.0 3) (λ _.
    bind (entry_line_of 4 b.1) (λ c.
    bind (other_than a.0 c.0 4) (λ _.
    bind (other_than b.0 c.0 4) (λ _.
    bind (fixed_line_of (bad_contents 5) (codes "end") c.1) (λ rest.
    Ok (record { first = a.0; second = b.0; third = c.0; rest = rest })))))))))
