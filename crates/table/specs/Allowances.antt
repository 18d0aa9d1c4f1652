-- What a task set asks of a board that runs below full speed.
use Rattle.std.specs.Prelude.{◌≡◌, ℕ, ◌+◌, ◌-◌, ◌*◌, ◌/◌, ◌<◌, ◌≤◌, Bool, true, false, cond, ◌||◌, List, [], ◌∷◌, map, length, Some, None, Option, ◌==◌, nat_le, slice_index}
use Rattle.theory.specs.declared.Load.{Load}
use Rattle.theory.specs.Loads.{Loads, load}

-- the ticks that a work takes at a level in percent: 100 × work / level, rounded up
unfoldable pub allowance : ℕ → ℕ → ℕ
allowance s c = (100 * c + (s - 1)) / s

-- what a task asks at level s: its allowance in place of its work
abbrev pub slowed : ℕ → Load → Load
slowed s l = record { work = allowance s l.work; period = l.period }

-- the tasks with their allowances at level s in place of their works
unfoldable pub allowed : ℕ → Loads → Loads
allowed s T = map (slowed s) T

-- level s fits: the allowances that fall due in a cycle of H ticks fit the cycle
abbrev pub fits_at : Loads → ℕ → ℕ → Bool
fits_at T H s = nat_le (load (allowed s T) H) H

-- the base level: the first of the levels that fits; levels rise, so it is the lowest
abbrev pub base_of : List ℕ → (ℕ → Bool) → Option ℕ
base_of [] fits = None
base_of (s ∷ ss) fits = cond (fits s) (Some s) (base_of ss fits)

-- s is one of the levels
abbrev pub has : ℕ → List ℕ → Bool
has s [] = false
has s (v ∷ vs) = s == v || has s vs

-- up to eight levels from 1 to 100 that rise
pub record Levels (vs : List ℕ) : Type 0 where
  pub few : length vs ≤ 8
  pub some : (i : ℕ) → i < length vs → 0 < slice_index vs i
  pub most : (i : ℕ) → i < length vs → slice_index vs i ≤ 100
  pub rise : (i j : ℕ) → i < j → j < length vs → slice_index vs i < slice_index vs j

-- s is the lowest of the levels that fit
pub record Lowest (vs : List ℕ) (fits : ℕ → Bool) (s : ℕ) : Type 0 where
  pub known : has s vs ≡ true
  pub enough : fits s ≡ true
  pub lowest : (i : ℕ) → i < length vs → slice_index vs i < s → fits (slice_index vs i) ≡ false
