-- Which of two jobs is earlier, and the earliest of several.
use Rattle.std.specs.Prelude.{◌≡◌, ℕ, zero, suc, ◌<◌, Bool, true, false, cond, ◌&&◌, ◌||◌, Some, None, Option, ◌==◌, ◌≢◌, nat_lt}

-- what the order between jobs compares: when a job is due, when it was released, and the place of its task
pub record Key : Type 0 where
  pub due : ℕ
  pub release : ℕ
  pub place : ℕ

-- the earlier of two jobs is due sooner; on equal due ticks it has the smaller place. (Two jobs of one place that are due at one tick
-- do not occur; their releases would decide, so that the order is total.)
abbrev pub earlier : Key → Key → Bool
earlier k l =
    nat_lt k.due l.due
    || (k.due == l.due && (nat_lt k.place l.place || (k.place == l.place && nat_lt k.release l.release)))

-- the place n against the earliest of the eligible places below it
abbrev pub against : (ℕ → Bool) → (ℕ → Key) → ℕ → Option ℕ → Option ℕ
against eligible key n None = cond (eligible n) (Some n) None
against eligible key n (Some o) = cond (eligible n && earlier (key n) (key o)) (Some n) (Some o)

-- of the eligible places below n, the one whose job is the earliest
unfoldable pub earliest : (ℕ → Bool) → (ℕ → Key) → ℕ → Option ℕ
earliest eligible key zero = None
earliest eligible key (suc n) = against eligible key n (earliest eligible key n)

-- what the earliest comes to: absent when no place is eligible, else an eligible place whose job is earlier than that of every other one
abbrev pub Chosen : (ℕ → Bool) → (ℕ → Key) → ℕ → Option ℕ → Type 0
Chosen eligible key n None = (k : ℕ) → k < n → eligible k ≡ false
Chosen eligible key n (Some b) =
    (b < n) × (eligible b ≡ true) × ((k : ℕ) → k < n → eligible k ≡ true → (k ≢ b) → earlier (key b) (key k) ≡ true)
