-- Where the search for the first number that passes ends.
use Rattle.std.proofs.Common.{◌≡◌, ℕ, zero, suc, ◌+◌, ◌<◌, ◌≤◌, Bool, true, false, Some, None, sym, refl, ap, ◌∙◌, ⊎_elim, arith}
use Rattle.std.proofs.lemmas.Bool.{cases_eq, cases_Bool, false≢true, cond-true, cond-false}
use Rattle.table.specs.Searches.{first_from, absent}

module _ (test : ℕ → Bool) where
  -- none passes
  pub first_none : (k n : ℕ) → ((m : ℕ) → k ≤ m → m < k + n → test m ≡ false) → first_from test k n ≡ None
  unfolding first_from
  first_none k zero h = refl
  first_none k (suc n) h =
      cond-false (test k) (Some k) (first_from test (suc k) n) (h k (omega arith) (omega arith))
      ∙ first_none (suc k) n (λ m l u. h m (omega arith) (omega arith))

  -- m passes, and none before it
  pub first_some : (k n m : ℕ) → k ≤ m → m < k + n → test m ≡ true → ((j : ℕ) → k ≤ j → j < m → test j ≡ false) → first_from test k n ≡ Some m
  unfolding first_from
  first_some k zero m l u e h = absurd (omega arith)
  first_some k (suc n) m l u e h =
      ⊎_elim
      (λ (q : k ≡ m). rw (← q) (cond-true (test k) (Some k) (first_from test (suc k) n) (rw q e)))
      (λ (q : k ≡ m → ⊥).
      cond-false (test k) (Some k) (first_from test (suc k) n) (h k (omega arith) (omega arith))
      ∙ first_some (suc k) n m (omega arith) (omega arith) e (λ j l v. h j (omega arith) v))
      (cases_eq k m)

  -- some number passes
  pub first_found : (k n m : ℕ) → k ≤ m → m < k + n → test m ≡ true → absent (first_from test k n) ≡ false
  unfolding first_from
  first_found k zero m l u e = absurd (omega arith)
  first_found k (suc n) m l u e =
      ⊎_elim
      (λ (q : test k ≡ true). ap absent (cond-true (test k) (Some k) (first_from test (suc k) n) q))
      (λ (q : test k ≡ false).
      let apart : k ≡ m → ⊥ = λ x. false≢true (sym q ∙ (ap test x ∙ e)) in
      ap absent (cond-false (test k) (Some k) (first_from test (suc k) n) q) ∙ first_found (suc k) n m (omega arith) (omega arith) e)
      (cases_Bool (test k))
