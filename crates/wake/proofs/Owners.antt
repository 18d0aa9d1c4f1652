-- The pick of a row of jobs is the earliest job with slots left.
use Rattle.std.proofs.Common.{◌≡◌, ℕ, ◌<◌, ◌≤◌, Bool, true, ltb, List, [], ◌∷◌, length, get_or, Some, None, Option, sym, refl, ap, ◌∙◌, subst, ⊎_elim, arith}
use Rattle.basis.specs.Picks.{Picked}
use Rattle.theory.specs.Loads.{Loads, size}
use Rattle.theory.specs.Slots.{job_at, owner}
use Rattle.theory.specs.Orders.{Key, earlier, earliest, Chosen}
use Rattle.theory.proofs.Orders.{earliest_chosen, chosen_one}
use Rattle.wake.specs.Jobs.{key_of, no_job}
use Rattle.wake.specs.declared.job.Job.{Job}

-- what the order compares, as the pick takes it
abbrev pub key_list : Job → List ℕ
key_list j = j.due ∷ (j.place ∷ (j.release ∷ []))

abbrev pub waits : Job → Bool
waits j = ltb 0 j.left

abbrev pub first : Job → Job → Bool
first x y = earlier (key_of x) (key_of y)

places : (a b c x y z : ℕ) → ◌≡◌ {A = List ℕ} (a ∷ (b ∷ (c ∷ []))) (x ∷ (y ∷ (z ∷ []))) → b ≡ y
places a b c x y z e = cc

module _ (row : List Job) (eligible : ℕ → Bool) (key : ℕ → Key) (own : (k : ℕ) → (key k).place ≡ k)
    (waiting : (k : ℕ) → k < length row → waits (get_or row k no_job) ≡ eligible k)
    (keyed : (k : ℕ) → k < length row → key_of (get_or row k no_job) ≡ key k) where
  chosen : (r : Option ℕ) → Picked waits first key_list row (length row) r → Chosen eligible key (length row) r
  chosen None h = λ k l. sym (waiting k l) ∙ h k no_job l
  chosen (Some b) h =
      let in_b : b < length row = h.inside in (
        in_b,
        sym (waiting b in_b) ∙ h.fits no_job,
        λ k l f d. ⊎_elim
            (λ (q : first (get_or row b no_job) (get_or row k no_job) ≡ true).
            subst (λ (x : Key). earlier x (key k) ≡ true) (keyed b in_b)
            (subst (λ (x : Key). earlier (key_of (get_or row b no_job)) x ≡ true) (keyed k l) q))
            (λ (q : (key_list (get_or row b no_job) ≡ key_list (get_or row k no_job)) × (b ≤ k)).
            absurd (d (sym (
            (sym (own b) ∙ sym (ap (λ (x : Key). x.place) (keyed b in_b)))
            ∙ (places _ _ _ _ _ _ q.0 ∙ (ap (λ (x : Key). x.place) (keyed k l) ∙ own k))))))
            (h.first k no_job l (waiting k l ∙ f)),
      )

  pub picked_earliest : (r : Option ℕ) → Picked waits first key_list row (length row) r → r ≡ earliest eligible key (length row)
  picked_earliest r h =
      chosen_one eligible key own (length row) r _ (chosen r h) (earliest_chosen eligible key own (length row))

-- the same of the machine's jobs
module _ (T : Loads) (jobs : List Job) (t : ℕ) (one_number : length jobs ≡ size T)
    (dues : (i : ℕ) → i < size T → (get_or jobs i no_job).due ≡ (job_at T t i).due)
    (releases : (i : ℕ) → i < size T → (get_or jobs i no_job).release ≡ (job_at T t i).release)
    (own : (i : ℕ) → i < size T → (get_or jobs i no_job).place ≡ i) where
  keyed : (k : ℕ) → k < size T → key_of (get_or jobs k no_job) ≡ job_at T t k
  unfolding job_at
  keyed k l = λ i. record { due = dues k l i; release = releases k l i; place = own k l i }

  places_own : (k : ℕ) → (job_at T t k).place ≡ k
  unfolding job_at
  places_own k = refl

  pub owner_picked : (awake : Bool) (r : Option ℕ) {row : List Job} → awake ≡ true → row ≡ jobs → Picked waits first key_list row (length row) r →
      r ≡ owner T awake (λ i. (get_or jobs i no_job).left) t
  unfolding owner
  owner_picked awake r w e h =
      rw (w, ← one_number)
      (picked_earliest jobs (λ i. ltb 0 (get_or jobs i no_job).left) (job_at T t) places_own (λ k l. refl) (λ k l. keyed k (omega arith)) r (rw e at h))
