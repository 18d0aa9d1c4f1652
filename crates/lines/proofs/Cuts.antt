-- A text cut at its first line feed.
use Rattle.std.proofs.Common.{◌≡◌, ℕ, suc, ◌+◌, ◌-◌, ◌<◌, ◌≤◌, true, false, cond, not, eqb, List, [], ◌∷◌, length, take, drop, refl, ap, subst, add-one, arith}
use native.Mathlib.Nat.{sub-zero}
use Rattle.std.proofs.lemmas.List.{take_rest}
use Rattle.grammar.specs.Texts.{length_before, lines, onto}

abbrev line_length : List ℕ → ℕ
line_length s = length_before 10 s

-- the first line, and the lines after its feed
pub cut : (s : List ℕ) → line_length s < length s → lines s ≡ take (line_length s) s ∷ lines (drop (suc (line_length s)) s)
cut [] h = absurd (omega arith)
cut (b ∷ bs) h =
    elim (eqb b 10) as
    (λ v. cond (not v) (1 + line_length bs) 0 < suc (length bs) →
    cond v ([] ∷ lines bs) (onto b (lines bs))
    ≡ take (cond (not v) (1 + line_length bs) 0) (b ∷ bs) ∷ lines (drop (suc (cond (not v) (1 + line_length bs) 0)) (b ∷ bs))) [
      | true ↦ λ _. refl
      | false ↦ λ g. let e : suc (line_length bs) ≡ 1 + line_length bs = omega arith in
          subst (λ k. onto b (lines bs) ≡ take k (b ∷ bs) ∷ lines (drop k bs)) e (ap (onto b) (cut bs (omega arith)))
    ] h

-- a text without a feed has no line
pub none : (s : List ℕ) → length s ≤ line_length s → lines s ≡ []
none [] g = refl
none (b ∷ bs) g =
    elim (eqb b 10) as (λ v. suc (length bs) ≤ cond (not v) (1 + line_length bs) 0 → cond v ([] ∷ lines bs) (onto b (lines bs)) ≡ [])
    [ true ↦ λ k. absurd (omega arith) | false ↦ λ k. ap (onto b) (none bs (omega arith)) ] g

-- the first line as the code cuts it off
pub cut_at : (s : List ℕ) (n : ℕ) → n ≡ line_length s → n < length s → lines s ≡ take (n - 0) s ∷ lines (take (length s - (n + 1)) (drop (n + 1) s))
cut_at s n e h =
    let k : line_length s < length s = omega arith in
    rw (take_rest, e, add-one, sub-zero) (cut s k)
