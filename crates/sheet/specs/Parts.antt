-- What parts of a machine file hold, as values that borrow nothing.
use Rattle.std.specs.Prelude.{Ok, Err, Result}
use Rattle.basis.specs.declared.fault.Fault.{Fault}
use Rattle.grammar.specs.Texts.{Lines, lines}
use Rattle.sheet.specs.declared.part.Part.{Part}

-- the lines of a part
abbrev pub lines_of : Part → Lines
lines_of p = lines p.text.now

-- the lines that are left
abbrev pub rest_in : Result Part Fault → Result Lines Fault
rest_in (Ok p) = Ok (lines_of p)
rest_in (Err e) = Err e

-- what was read, in the words of the format, and the lines that are left
abbrev pub taken_as : {A B : Type 0} → (A → B) → Result (A × Part) Fault → Result (B × Lines) Fault
taken_as f (Ok x) = Ok (f x.0, lines_of x.1)
taken_as f (Err e) = Err e

-- what was read as it is
abbrev pub taken_in : {T : Type 0} → Result (T × Part) Fault → Result (T × Lines) Fault
taken_in {T} r = taken_as (λ (x : T). x) r

-- what was filled in, and the lines that are left
abbrev pub left_with : {A : Type 0} → Result Part Fault → A → Result (A × Lines) Fault
left_with (Ok p) x = Ok (x, lines_of p)
left_with (Err e) x = Err e
