-- The law of a wake plan: which choices of awake ticks leave room for the work.
use Rattle.std.specs.Prelude.{ℕ, ◌+◌, ◌*◌, ◌%◌, ◌≤◌, Bool, true, ◌&&◌, nat_le}
use Rattle.theory.specs.Sums.{sum, number, between}
use Rattle.theory.specs.Loads.{Loads, size, work, period, Cycle, load}

-- how many jobs of the place i are released at a or later and due at d or earlier
unfoldable pub jobs : Loads → ℕ → ℕ → ℕ → ℕ
jobs T i a d = number d (λ j. nat_le a (j * period T i) && nat_le ((j + 1) * period T i) d)

-- the work of all such jobs
unfoldable pub demand : Loads → ℕ → ℕ → ℕ
demand T a d = sum (size T) (λ i. work T i * jobs T i a d)

-- the law: between any two ticks of the cycle at least as many ticks are awake as there is work that has to be done between them
abbrev pub Law : Loads → ℕ → (ℕ → Bool) → Type 0
Law T H awake = (a d : ℕ) → a ≤ d → d ≤ H → demand T a d ≤ between awake a d

-- the awake ticks of a cycle, cycle after cycle
unfoldable pub cyclic : ℕ → (ℕ → Bool) → ℕ → Bool
cyclic H awake t = awake (t % H)

-- awake in each tick
abbrev pub always : ℕ → Bool
always t = true

-- always awake keeps the law wherever the work that falls due in a cycle fits the cycle
abbrev pub AlwaysKeepsLaw : Type 0
AlwaysKeepsLaw = (T : Loads) (H : ℕ) → Cycle T H → load T H ≤ H → Law T H always
