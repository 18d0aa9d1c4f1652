-- What the code borrows or keeps in places, as values that borrow nothing: the words in which its contracts speak.
use Rattle.std.specs.Prelude.{ℕ, List, Ok, Err, Result}
use Rattle.basis.specs.declared.fault.Fault.{Fault}
use Rattle.grammar.specs.declared.letters.Letters.{Letters}
use Rattle.grammar.specs.Bodies.{Told}
use Rattle.grammar.specs.Contents.{Listed}
use Rattle.grammar.specs.Scripts.{letters_of}
use Rattle.grammar.specs.Texts.{Lines, lines}
use Rattle.sheet.specs.declared.contents.Contents.{Contents}
use Rattle.sheet.specs.declared.script.Script.{Script}
use Rattle.sheet.specs.declared.script.ScriptText.{ScriptText}
use Rattle.sheet.specs.declared.told.Told.{Told as CodeTold}
use Rattle.sheet.specs.Parts.{lines_of}

-- the contents with the lines of the text that the code borrows
abbrev pub listed_in : Contents → Listed
listed_in x = record { first = x.first; second = x.second; third = x.third; rest = lines_of x.rest }

-- the contents, where they are of their form
abbrev pub contents_in : Result Contents Fault → Result Listed Fault
contents_in (Ok x) = Ok (listed_in x)
contents_in (Err e) = Err e

-- what the bodies that the code has read say
abbrev pub told_by : CodeTold → Told
told_by t =
    record {
      levels = record { items = t.levels; heading = t.levels_heading };
      power = t.power;
      tasks = record { items = t.tasks; heading = t.tasks_heading };
    }

-- the line on which a script that is not read yet starts
abbrev pub start_in : ScriptText → ℕ
start_in x = x.part.line

-- its lines
abbrev pub lines_in : ScriptText → Lines
lines_in x = lines_of x.part

-- what reading a sheet answers
abbrev pub unread_in : Result ScriptText Fault → Result (ℕ × Lines) Fault
unread_in (Ok x) = Ok (start_in x, lines_in x)
unread_in (Err e) = Err e

-- whether all lines of a script passed, or the first fault
abbrev pub passed_by : Result (List Letters) Fault → Result (Unit {0}) Fault
passed_by (Ok x) = Ok tt
passed_by (Err e) = Err e

-- the letters of the script that the code borrows
abbrev pub letters_in : Script → List Letters
letters_in s = letters_of (lines s.text.now)

-- what reading a script answers
abbrev pub script_in : Result Script Fault → Result (List Letters) Fault
script_in (Ok s) = Ok (letters_in s)
script_in (Err e) = Err e
