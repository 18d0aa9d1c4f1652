-- The first eligible entry of a row in a total order.
use Rattle.std.specs.Prelude.{◌≡◌, ℕ, ◌<◌, ◌≤◌, Bool, true, false, ◌⊎◌, List, Some, None, Option, slice_index_or}

-- of the first n entries, the one at b is eligible and comes before every other eligible one;
-- only an entry with one and the same key, standing after it, does not come after it
pub record First {X : Type 0} (eligible : X → Bool) (before : X → X → Bool) (key : X → List ℕ) (row : List X) (n b : ℕ) : Type 0 where
  pub inside : b < n
  pub fits : (d : X) → eligible (slice_index_or row b d) ≡ true
  pub first : (k : ℕ) (d : X) → k < n → eligible (slice_index_or row k d) ≡ true →
      (before (slice_index_or row b d) (slice_index_or row k d) ≡ true) ⊎ ((key (slice_index_or row b d) ≡ key (slice_index_or row k d)) × (b ≤ k))

-- what the pick among the first n entries is: absent exactly when none is eligible
abbrev pub Picked : {X : Type 0} → (X → Bool) → (X → X → Bool) → (X → List ℕ) → List X → ℕ → Option ℕ → Type 0
Picked {X} eligible before key row n None = (k : ℕ) (d : X) → k < n → eligible (slice_index_or row k d) ≡ false
Picked eligible before key row n (Some b) = First eligible before key row n b
