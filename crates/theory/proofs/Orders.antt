-- The order between jobs is total, and the earliest job is earlier than every other.
use Rattle.std.proofs.Common.{◌≡◌, ℕ, zero, suc, ◌<◌, Bool, true, false, ◌&&◌, Some, None, Option, sym, refl, ap, ◌∙◌, ⊎_elim, arith}
use Rattle.std.proofs.lemmas.Bool.{cases_eq, cond_both, and_parts, and_cases}
use Rattle.std.proofs.lemmas.Bool.Decides.{nat_tests}
use Rattle.theory.specs.Orders.{Key, earlier, against, earliest, Chosen}

pub earlier_one_way : (k l : Key) → earlier k l ≡ true → earlier l k ≡ true → ⊥
earlier_one_way k l h g = let z : ◌≡◌ {A = ℕ} 0 1 = grind (arith, nat_tests) in omega arith

pub earlier_chain : (k l m : Key) → earlier k l ≡ true → earlier l m ≡ true → earlier k m ≡ true
earlier_chain k l m h g = grind (arith, nat_tests)

pub earlier_total : (k l : Key) → (k.place ≡ l.place → ⊥) → earlier k l ≡ false → earlier l k ≡ true
earlier_total k l d h = grind (arith, nat_tests)

-- the earlier of two jobs is due no later
pub earlier-due : (k l : Key) → earlier k l ≡ true → k.due < suc l.due
earlier-due k l h = grind (arith, nat_tests)

never : {A : Type 0} (b : Bool) → b ≡ true → b ≡ false → A
never b h g = absurd (let z : ◌≡◌ {A = ℕ} 0 1 = cc in omega arith)

pub below_suc : (P : ℕ → Type 0) (n : ℕ) → ((k : ℕ) → k < n → P k) → P n → (k : ℕ) → k < suc n → P k
below_suc P n all here k l =
    ⊎_elim (λ (e : k ≡ n). rw e here) (λ (e : k ≡ n → ⊥). all k (omega arith)) (cases_eq k n)

module _ (eligible : ℕ → Bool) (key : ℕ → Key) (own : (k : ℕ) → (key k).place ≡ k) where
  apart : (k l : ℕ) → (k ≡ l → ⊥) → (key k).place ≡ (key l).place → ⊥
  apart k l d e = d (sym (own k) ∙ (e ∙ own l))

  -- the place b is earlier than k, if k is another eligible one
  abbrev Leads : ℕ → ℕ → Type 0
  Leads b k = eligible k ≡ true → (k ≡ b → ⊥) → earlier (key b) (key k) ≡ true

  step : (n : ℕ) (o : Option ℕ) → Chosen eligible key n o → Chosen eligible key (suc n) (against eligible key n o)
  step n None all =
      cond_both (eligible n) (Some n) None (Chosen eligible key (suc n))
      (λ e. (omega arith, e, below_suc (Leads n) n (λ k l f d. never (eligible k) f (all k l)) (λ f d. absurd (d refl))))
      (λ e. below_suc (λ k. eligible k ≡ false) n all e)
  step n (Some o) (l, p, all) =
      cond_both (eligible n && earlier (key n) (key o)) (Some n) (Some o) (Chosen eligible key (suc n))
      (λ e. let (has, less) = and_parts (eligible n) (earlier (key n) (key o)) e in (
        omega arith,
        has,
        below_suc (Leads n) n
            (λ k m f d. ⊎_elim
            (λ (q : k ≡ o). rw q less)
            (λ (q : k ≡ o → ⊥). earlier_chain (key n) (key o) (key k) less (all k m f q))
            (cases_eq k o))
            (λ f d. absurd (d refl)),
      ))
      (λ e. (
        omega arith,
        p,
        below_suc (Leads o) n all
            (λ f d. ⊎_elim
            (λ (q : eligible n ≡ false). never (eligible n) f q)
            (λ (q : earlier (key n) (key o) ≡ false). earlier_total (key n) (key o) (apart n o d) q)
            (and_cases (eligible n) (earlier (key n) (key o)) e)),
      ))

  pub earliest_chosen : (n : ℕ) → Chosen eligible key n (earliest eligible key n)
  unfolding earliest
  earliest_chosen zero = λ k l. absurd (omega arith)
  earliest_chosen (suc n) = step n (earliest eligible key n) (earliest_chosen n)

  -- there is one choice at most
  pub chosen_one : (n : ℕ) (r s : Option ℕ) → Chosen eligible key n r → Chosen eligible key n s → r ≡ s
  chosen_one n None None h g = refl
  chosen_one n None (Some c) h g = never (eligible c) g.1 (h c g.0)
  chosen_one n (Some b) None h g = never (eligible b) h.1 (g b h.0)
  chosen_one n (Some b) (Some c) h g =
      ⊎_elim
      (λ (e : b ≡ c). ap (λ x. Some x) e)
      (λ (e : b ≡ c → ⊥). absurd (earlier_one_way (key b) (key c) (h.2 c g.0 g.1 (λ q. e (sym q))) (g.2 b h.0 h.1 e)))
      (cases_eq b c)
