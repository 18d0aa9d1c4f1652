-- The lines of the script.
use Rattle.std.specs.Prelude.{ℕ, ◌+◌, Bool, cond, ◌&&◌, ◌||◌, List, [], ◌∷◌, Ok, Err, Result, ◌==◌}
use Rattle.basis.specs.declared.fault.Fault.{Fault}
use Rattle.basis.specs.declared.fault.Reason.TheVariants.{Script}
use Rattle.basis.specs.Faults.{fault_at}
use Rattle.grammar.specs.declared.letters.Letters.{Letters}
use Rattle.grammar.specs.Binds.{bind}
use Rattle.grammar.specs.Texts.{Lines}

-- one of the letters m, g, b, x and r
abbrev pub mark : ℕ → Bool
mark b = b == 109 || (b == 103 || (b == 98 || (b == 120 || b == 114)))

-- the fault of a line that is not two such letters
abbrev pub bad_script : ℕ → Fault
bad_script at = fault_at Script at

-- a script line is two such letters and nothing else
abbrev pub script_line_of : ℕ → List ℕ → Result Letters Fault
script_line_of at [] = Err (bad_script at)
script_line_of at (p ∷ []) = Err (bad_script at)
script_line_of at (p ∷ s ∷ []) = cond (mark p && mark s) (Ok (record { primary = p; spare = s })) (Err (bad_script at))
script_line_of at (p ∷ s ∷ t ∷ ts) = Err (bad_script at)

-- the script that lines are, of which the first is line `at` of the file
abbrev pub script_from : ℕ → Lines → Result (List Letters) Fault
script_from at [] = Ok []
script_from at (l ∷ ls) = bind (script_line_of at l) (λ x. bind (script_from (at + 1) ls) (λ xs. Ok (x ∷ xs)))

-- a letter pair in front of others; a line that is none ends the script
abbrev pub ahead : Result Letters Fault → List Letters → List Letters
ahead (Ok x) xs = x ∷ xs
ahead (Err e) xs = []

-- the letters of the script lines at the front of some lines: of all of them, where the lines are a script
abbrev pub letters_of : Lines → List Letters
letters_of [] = []
letters_of (l ∷ ls) = ahead (script_line_of 0 l) (letters_of ls)
