-- Names and numbers, as bytes.
use Rattle.std.specs.Prelude.{ℕ, ◌+◌, ◌-◌, ◌*◌, Bool, true, cond, not, ◌&&◌, ◌||◌, List, [], ◌∷◌, length, Some, None, Option, ◌==◌, nat_le, slice_index}

-- from low to high
abbrev pub within : ℕ → ℕ → ℕ → Bool
within low high v = nat_le low v && nat_le v high

-- a to z
abbrev pub letter : ℕ → Bool
letter b = within 97 122 b

-- 0 to 9
abbrev pub digit : ℕ → Bool
digit b = within 48 57 b

-- every byte is a letter
abbrev pub letters : List ℕ → Bool
letters [] = true
letters (b ∷ bs) = letter b && letters bs

-- a name is 1 to 8 letters
abbrev pub spells_name : List ℕ → Bool
spells_name s = within 1 8 (length s) && letters s

-- the number that digits spell after those that spell v
abbrev pub digits_from : ℕ → List ℕ → Option ℕ
digits_from v [] = Some v
digits_from v (b ∷ bs) = cond (digit b) (digits_from (v * 10 + (b - 48)) bs) None

-- as long as a number is, 1 to 6 bytes, with no zero in front of another byte
abbrev pub sized : List ℕ → Bool
sized s = within 1 6 (length s) && (nat_le (length s) 1 || not (slice_index s 0 == 48))

-- the number that a piece of a line spells
abbrev pub number_of : List ℕ → Option ℕ
number_of s = cond (sized s) (digits_from 0 s) None
