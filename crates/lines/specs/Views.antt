-- Words that the code borrows, as values that borrow nothing: the words in which its contracts speak.
use Rattle.std.specs.Prelude.{ℕ, ◌<◌, ◌≤◌, List, length, Ok, Err, Option, Result}
use Rattle.std.specs.Borrow.{Bor}
use Rattle.std.specs.Option.{option_map}
use Rattle.basis.specs.declared.fault.Fault.{Fault}
use Rattle.grammar.specs.Words.{Seen, name, number, Left}
use Rattle.lines.specs.declared.words.Word.{Word}
use Rattle.lines.specs.declared.words.Word.TheVariants.{Name, Number}
use Rattle.lines.specs.declared.tail.Tail.{Tail}
use Rattle.lines.specs.declared.fields.Fields.{Fields}

-- the word that the code borrows
abbrev pub seen_word : Word → Seen
seen_word (Name text at) = name text.now at
seen_word (Number value at) = number value at

-- a name has at most 8 letters, and a number at most 6 digits
abbrev pub Short : Word → Type 0
Short (Name text at) = length text.now ≤ 8
Short (Number value at) = value < 1000000

-- what is left of the line that the code borrows
abbrev pub seen_tail : Tail → Left
seen_tail t = (t.at, t.bytes.now)

-- the word and what is left, as the code borrows them
abbrev pub seen_next : (Word × Option Tail) → Seen × Option Left
seen_next x = (seen_word x.0, option_map seen_tail x.1)

-- the name and what is left that the code borrows
abbrev pub name_in : Result (Bor (List ℕ) × Fields) Fault → Result (List ℕ × Left) Fault
name_in (Ok x) = Ok (x.0.now, seen_tail x.1.tail)
name_in (Err e) = Err e

-- the number, and what is left that the code borrows
abbrev pub number_in : Result (ℕ × Fields) Fault → Result (ℕ × Left) Fault
number_in (Ok x) = Ok (x.0, seen_tail x.1.tail)
number_in (Err e) = Err e
