-- What a work takes at a level, as std rounds up.
use Rattle.std.proofs.Common.{◌≡◌, ℕ, zero, suc, ◌+◌, ◌-◌, ◌*◌, ◌/◌, ◌%◌, ◌<◌, min, sym, ap, mod-lt, ◌∙◌, mul-one, arith}
use native.Mathlib.Nat.{div-add-mod, mul-add-div, div-eq_of_lt}
use Rattle.table.specs.Allowances.{allowance}

-- a rest that is left makes one more
rest_up : (s r : ℕ) → r < s → (r + (s - 1)) / s ≡ min 1 r
rest_up s zero l = div-eq_of_lt (omega arith) ∙ omega arith
rest_up s (suc r) l =
    let e : suc r + (s - 1) ≡ s * 1 + r = omega (arith, mul-one s) in
    ap (λ x. x / s) e ∙ (mul-add-div (omega arith) 1 r ∙ omega (arith, div-eq_of_lt {n = r} {m = s} (omega arith)))

rounded_up : (x s : ℕ) → 0 < s → x / s + min 1 (x % s) ≡ (x + (s - 1)) / s
rounded_up x s some =
    let e : x + (s - 1) ≡ s * (x / s) + (x % s + (s - 1)) = omega (arith, div-add-mod x s) in
    sym (ap (λ y. y / s) e ∙ (mul-add-div some (x / s) (x % s + (s - 1)) ∙ ap (λ y. x / s + y) (rest_up s (x % s) (mod-lt x some))))

pub allowance_up : (s c : ℕ) → 0 < s → 100 * c / s + min 1 (100 * c % s) ≡ allowance s c
unfolding allowance
allowance_up s c some = rounded_up (100 * c) s some
