-- Texts, as bytes and as lines.
use Rattle.std.specs.Prelude.{ℕ, ◌+◌, Bool, cond, not, ◌&&◌, ◌||◌, List, [], ◌∷◌, Ok, Err, Result, ◌==◌, nat_le, nat_lt}
use Rattle.std.specs.List.{prefix_len}
use Rattle.basis.specs.declared.fault.Fault.{Fault}
use Rattle.basis.specs.declared.fault.Reason.TheVariants.{Bytes}
use Rattle.basis.specs.Faults.{fault_at}
use Rattle.grammar.specs.Binds.{bind}

-- what a line may have: a letter, a digit or a space
abbrev pub allowed : ℕ → Bool
allowed b = (nat_le 97 b && nat_le b 122) || ((nat_le 48 b && nat_le b 57) || b == 32)

-- the fault of a line with a byte that it may not have, with too many bytes, or without its line feed
abbrev pub bad_bytes : ℕ → Fault
bad_bytes at = fault_at Bytes at

-- the first line that its bytes, its length or its end put at fault, where `before` lines are past, and `column` bytes of the next
abbrev pub bytes_from : ℕ → ℕ → List ℕ → Result (Unit {0}) Fault
bytes_from before column [] = cond (nat_lt 0 column) (Err (bad_bytes (before + 1))) (Ok tt)
bytes_from before column (b ∷ bs) =
    cond (b == 10) (bytes_from (before + 1) 0 bs)
    (cond (allowed b && nat_lt column 40) (bytes_from before (column + 1) bs) (Err (bad_bytes (before + 1))))

-- how many bytes stand before the first `end`, or in all
abbrev pub length_before : ℕ → List ℕ → ℕ
length_before end bytes = prefix_len (λ b. not (b == end)) bytes

-- lines, each without its line feed
abbrev pub Lines : Type 0
Lines = List (List ℕ)

-- one byte more at the front of the first line
abbrev pub onto : ℕ → Lines → Lines
onto b [] = []
onto b (l ∷ ls) = (b ∷ l) ∷ ls

-- the lines of a text; what stands after the last line feed is no line
abbrev pub lines : List ℕ → Lines
lines [] = []
lines (b ∷ bs) = cond (b == 10) ([] ∷ lines bs) (onto b (lines bs))

-- what the first of some lines reads to, and the others; where there is none, the fault
abbrev pub first_of : {T : Type 0} → Fault → (List ℕ → Result T Fault) → Lines → Result (T × Lines) Fault
first_of f of [] = Err f
first_of f of (l ∷ ls) = bind (of l) (λ x. Ok (x, ls))
