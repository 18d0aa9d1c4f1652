-- Counts of ticks.
use Rattle.std.proofs.Common.{◌≡◌, ℕ, zero, suc, ◌+◌, ◌<◌, ◌≤◌, Bool, true, false, not, eqb, refl, ap, mod-eq_of_lt, add-one, arith}
use Rattle.std.proofs.lemmas.Bool.Decides.{nat_tests}
use Rattle.std.specs.Int.{from_bool}
use Rattle.theory.specs.Sums.{number, bit, between}
use Rattle.theory.specs.Laws.{cyclic}
use Rattle.theory.proofs.Sums.{number-suc, number-zero}

-- a count of what is nowhere, and so of the ticks in which a board rests that is always awake
pub number_none : (n : ℕ) (P : ℕ → Bool) → ((k : ℕ) → k < n → P k ≡ false) → number n P ≡ 0
unfolding bit
number_none zero P h = number-zero P
number_none (suc n) P h = omega (arith, number-suc n P, number_none n P (λ k l. h k (omega arith)), ap bit (h n (omega arith)))

pub never_rests : (a b : ℕ) → between (λ t. not true) a b ≡ 0
unfolding between
never_rests a b = omega (arith, number_none a (λ t. not true) (λ k l. refl), number_none b (λ t. not true) (λ k l. refl))

-- what a byte tells
pub byte_of : (b : Bool) → from_bool b ≡ bit b
unfolding bit
byte_of true = refl
byte_of false = refl

-- one tick more, which rests or is awake
pub counted : (P : ℕ → Bool) (a t n m : ℕ) (b : Bool) → n + number a P ≡ number t P → b ≡ P t → m ≡ from_bool b → n + m + number a P ≡ number (t + 1) P
counted P a t n m b e p q =
    rw (add-one t) (omega (arith, e, number-suc t P, ap bit p, q, byte_of b))

pub one_at_most : (m : ℕ) (b : Bool) → m ≡ from_bool b → m ≤ 1
one_at_most m true q = omega arith
one_at_most m false q = omega arith

-- a tick of the first cycle is asked by its own number
pub in_cycle : (H : ℕ) (awake : ℕ → Bool) (t : ℕ) → t < H → cyclic H awake t ≡ awake t
unfolding cyclic
in_cycle H awake t l = ap awake (mod-eq_of_lt l)

pub byte_tells : (m : ℕ) (b : Bool) → m ≡ bit b → eqb m 1 ≡ b
unfolding bit
byte_tells m b e = grind (arith, nat_tests)
