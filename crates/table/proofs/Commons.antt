-- Euclid's step, and the least common multiple from the greatest common divisor.
use Rattle.std.proofs.Common.{◌≡◌, ℕ, ◌+◌, ◌*◌, ◌/◌, ◌%◌, ◌<◌, sym, ap, ◌∙◌, mul_assoc, mul_comm, one-mul, mul-add}
use Prim.Native.Nat.{◌∣◌}
use native.Mathlib.Nat.{dvd-zero, dvd_refl, dvd-mod_iff, dvd-mul_left, dvd-mul_right, dvd-mul_right_of_dvd, dvd-add_iff_right, div-add-mod, div-mul_cancel, mul-div_cancel', mul-dvd-mul_right, dvd_of_mul-dvd-mul_right, pos_of_dvd_of_pos}
use Rattle.table.specs.Common.{Gcd, Lcm}

-- what divides the pair of numbers, however scaled, divides the next pair, and back
pub record Same (A B x y : ℕ) : Type 0 where
  pub down : (c d : ℕ) → d ∣ c * A → d ∣ c * B → (d ∣ c * x) × (d ∣ c * y)
  pub up : (d : ℕ) → d ∣ x → d ∣ y → (d ∣ A) × (d ∣ B)

scaled-mod : (c d x y : ℕ) → d ∣ c * x → d ∣ c * y → d ∣ c * (x % y)
scaled-mod c d x y p q =
    let e : c * y * (x / y) + c * (x % y) ≡ c * x = rw (mul_assoc c y (x / y), ← mul-add c (y * (x / y)) (x % y), div-add-mod x y) in
    (dvd-add_iff_right d {m = c * y * (x / y)} {n = c * (x % y)} (dvd-mul_right_of_dvd d q (x / y))).1 (rw e p)

pub same_step : (A B x y : ℕ) → Same A B x y → Same A B y (x % y)
same_step A B x y s =
    record {
      down = λ c d p q. ((s.down c d p q).1, scaled-mod c d x y (s.down c d p q).0 (s.down c d p q).1);
      up = λ d p q. s.up d ((dvd-mod_iff d {m = x} {n = y} p).0 q) p;
    }

pub same_end : (A B x : ℕ) → Same A B x 0 → Gcd A B x
same_end A B x s =
    let scaled : (c d : ℕ) → d ∣ c * A → d ∣ c * B → d ∣ c * x = λ c d p q. (s.down c d p q).0 in
    record {
      left = (s.up x (dvd_refl x) (dvd-zero x)).0;
      right = (s.up x (dvd_refl x) (dvd-zero x)).1;
      greatest = λ d p q. rw (one-mul x) at (scaled 1 d (rw (one-mul A) p) (rw (one-mul B) q));
      scaled = scaled;
    }

pub lcm_of : (a b g : ℕ) → 0 < a → Gcd a b g → Lcm a b (a / g * b)
lcm_of a b g pos h =
    let some : 0 < g = pos_of_dvd_of_pos h.left pos in
    -- a / g * b ≡ a * (b / g)
    let e : a / g * b ≡ a * (b / g) =
    (ap (λ x. a / g * x) (sym (mul-div_cancel' g h.right)) ∙ sym (mul_assoc (a / g) g (b / g))) ∙ ap (λ x. x * (b / g)) (div-mul_cancel g h.left) in
    -- a / g * b * g ≡ a * b
    let f : a / g * b * g ≡ a * b =
    mul_assoc (a / g) b g ∙ (ap (λ x. a / g * x) (mul_comm b g) ∙ (sym (mul_assoc (a / g) g b) ∙ ap (λ x. x * b) (div-mul_cancel g h.left))) in
    record {
      left = rw e (dvd-mul_right a (b / g));
      right = dvd-mul_left b (a / g);
      least = λ m p q.
          let u : a * b ∣ m * a = rw (mul_comm a b) (mul-dvd-mul_right b q a) in
          let v : a * b ∣ m * b = mul-dvd-mul_right a p b in
          let w : a / g * b * g ∣ m * g = rw f (h.scaled m (a * b) u v) in
          dvd_of_mul-dvd-mul_right (a / g * b) some w;
    }
