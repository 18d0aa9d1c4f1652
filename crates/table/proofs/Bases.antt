-- The base level as the pick from the row of levels.
use Rattle.std.proofs.Common.{◌≡◌, ℕ, zero, suc, ◌*◌, ◌/◌, ◌<◌, ◌≤◌, Bool, true, false, ltb, leb, List, [], ◌∷◌, map, length, get_or, Some, None, Option, refl, ap, ◌∙◌, ⊎_elim, arith}
use Rattle.std.proofs.lemmas.List.{length-map, get_or-map}
use Rattle.std.proofs.lemmas.Bool.{cases_Bool, cond-true, cond-false, ltb-true}
use Rattle.basis.specs.Picks.{Picked}
use Rattle.theory.specs.Sums.{sum}
use Rattle.theory.specs.Loads.{Loads, size, work, period, load, no_load}
use Rattle.theory.proofs.Sums.{sum-eq}
use Rattle.table.specs.declared.base.Rung.{Rung}
use Rattle.table.specs.Allowances.{allowance, slowed, allowed, fits_at, base_of, Levels}
use Rattle.table.specs.Rungs.{rung_at, no_rung}

module _ (fits : ℕ → Bool) where
  pub base_none : (vs : List ℕ) → ((k : ℕ) → k < length vs → fits (get_or vs k 0) ≡ false) → base_of vs fits ≡ None
  base_none [] h = refl
  base_none (v ∷ vs) h =
      cond-false (fits v) (Some v) (base_of vs fits) (h 0 (omega arith)) ∙ base_none vs (λ k l. h (suc k) (omega arith))

  pub base-some : (vs : List ℕ) (b : ℕ) → b < length vs → fits (get_or vs b 0) ≡ true → ((k : ℕ) → k < b → fits (get_or vs k 0) ≡ false) →
      base_of vs fits ≡ Some (get_or vs b 0)
  base-some [] b l e h = absurd (omega arith)
  base-some (v ∷ vs) zero l e h = cond-true (fits v) (Some v) (base_of vs fits) e
  base-some (v ∷ vs) (suc b) l e h =
      cond-false (fits v) (Some v) (base_of vs fits) (h 0 (omega arith))
      ∙ base-some vs b (omega arith) e (λ k x. h (suc k) (omega arith))

-- the allowances that fall due, task by task
pub load-allowed : (s : ℕ) (T : Loads) (H : ℕ) → load (allowed s T) H ≡ sum (size T) (λ k. allowance s (work T k) * (H / period T k))
unfolding load allowed work period
load-allowed s T H =
    ap (λ n. sum n (λ i. (get_or (map (slowed s) T) i no_load).work * (H / (get_or (map (slowed s) T) i no_load).period))) (length-map T (slowed s))
    ∙ sum-eq (size T) _ _ (λ i l. ap (λ x. x.work * (H / x.period)) (get_or-map (slowed s) T i no_load no_load l))

-- what the pick from a row of levels is, for a cycle of H ticks
abbrev pub Chosen : ℕ → List Rung → Option ℕ → Type 0
Chosen H xs r = Picked (λ (x : Rung). leb x.demand H) (λ x y. ltb x.level y.level) (λ x. x.level ∷ []) xs (length xs) r

module _ (T : Loads) (H : ℕ) (vs : List ℕ) (levels : Levels vs) where
  abbrev pub row : List Rung
  row = map (rung_at T H) vs

  at : (k : ℕ) → k < length vs → get_or row k no_rung ≡ rung_at T H (get_or vs k 0)
  at k l = get_or-map (rung_at T H) vs k 0 no_rung l

  pub picked_none : Chosen H row None → base_of vs (fits_at T H) ≡ None
  picked_none p = base_none (fits_at T H) vs (λ k l. rw (at k l) at (p k no_rung (omega (arith, length-map vs (rung_at T H)))))

  module _ (b : ℕ) (p : Chosen H row (Some b)) where
    pub picked_inside : b < length vs
    picked_inside = omega (arith, p.inside, length-map vs (rung_at T H))

    not_lower : (k : ℕ) → k < b → fits_at T H (get_or vs k 0) ≡ false
    not_lower k l =
        ⊎_elim
        (λ (e : fits_at T H (get_or vs k 0) ≡ true).
        absurd (⊎_elim
        (λ (x : ltb (get_or vs b 0) (get_or vs k 0) ≡ true). omega (arith, ltb-true _ _ x, levels.rise k b l picked_inside))
        (λ (x : (get_or vs b 0 ∷ [] ≡ get_or vs k 0 ∷ []) × (b ≤ k)). omega arith)
        (rw (at k (omega (arith, picked_inside)), at b picked_inside) at (p.first k no_rung (omega (arith, picked_inside, p.inside)) (rw (at k (omega (arith, picked_inside))) e)))))
        (λ (e : fits_at T H (get_or vs k 0) ≡ false). e)
        (cases_Bool (fits_at T H (get_or vs k 0)))

    pub picked_some : base_of vs (fits_at T H) ≡ Some (get_or vs b 0)
    picked_some = base-some (fits_at T H) vs b picked_inside (rw (at b picked_inside) at (p.fits no_rung)) not_lower
