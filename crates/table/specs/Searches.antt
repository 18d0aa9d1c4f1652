-- The first number that passes a test.
use Rattle.std.specs.Prelude.{ℕ, zero, suc, Bool, true, false, cond, Some, None, Option}

-- of the n numbers from k on, the first that passes
unfoldable pub first_from : (ℕ → Bool) → ℕ → ℕ → Option ℕ
first_from test k zero = None
first_from test k (suc n) = cond (test k) (Some k) (first_from test (suc k) n)

-- there is none
abbrev pub absent : Option ℕ → Bool
absent None = true
absent (Some n) = false
