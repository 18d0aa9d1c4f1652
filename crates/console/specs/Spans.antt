-- Ticks written as spans.
use Rattle.std.specs.Prelude.{ℕ, ◌+◌, Bool, true, false, List, [], ◌∷◌, ◌++◌, map, Some, None, codes, decimal, Option}
use Rattle.std.specs.List.{range_with_len}

-- a space and the ticks from a up to but excluding b, as a..b
abbrev pub span_text : ℕ → ℕ → List ℕ
span_text a b = codes " " ++ (decimal a ++ (codes ".." ++ decimal b))

-- the longest spans of marked ticks, where the first mark is that of tick t, and a span that is still open began at its start
abbrev pub spans_from : ℕ → Option ℕ → List Bool → List ℕ
spans_from t None [] = []
spans_from t (Some a) [] = span_text a t
spans_from t None (true ∷ ms) = spans_from (t + 1) (Some t) ms
spans_from t None (false ∷ ms) = spans_from (t + 1) None ms
spans_from t (Some a) (true ∷ ms) = spans_from (t + 1) (Some a) ms
spans_from t (Some a) (false ∷ ms) = span_text a t ++ spans_from (t + 1) None ms

-- the ticks below n that pass a test, as spans
abbrev pub spans_of : (ℕ → Bool) → ℕ → List ℕ
spans_of test n = spans_from 0 None (map test (range_with_len 0 n))
