-- Lists that are made tick by tick.
use Rattle.std.proofs.Common.{◌≡◌, ℕ, ◌+◌, Bool, List, [], ◌∷◌, ◌++◌, map, Option, sym, ◌∙◌, add-one, arith}
use Rattle.std.specs.List.{range_with_len}
use Rattle.std.proofs.lemmas.List.FromFn.{map-range_with_len_more}
use Rattle.theory.specs.Loads.{Loads}
use Rattle.theory.specs.Slots.{owner, next, slots, owns}

-- one tick more
pub marked_more : {X : Type 0} (f : ℕ → X) (t : ℕ) (before after : List X) (x : X) → before ≡ map f (range_with_len 0 t) → after ≡ before ++ x ∷ [] → x ≡ f t →
    after ≡ map f (range_with_len 0 (t + 1))
marked_more f t before after x e a h =
    a ∙ ((λ i. e i ++ h i ∷ []) ∙ sym (map-range_with_len_more f 0 t t (omega arith)))

-- a machine that has the slots of tick t answers the owner of tick t, and has the slots of the next tick after it
module _ (T : Loads) (awake : ℕ → Bool) (t : ℕ) (left : ℕ → ℕ) (same : (i : ℕ) → left i ≡ slots T awake t i) where
  all : left ≡ slots T awake t
  all = λ i k. same k i

  pub owner_then : (a : Bool) (o : Option ℕ) → a ≡ awake t → o ≡ owner T a left t → o ≡ owns T awake t
  unfolding owns
  owner_then a o w e = e ∙ (λ i. owner T (w i) (all i) t)

  pub slots_then : (a : Bool) (after : ℕ → ℕ) → a ≡ awake t → ((i : ℕ) → after i ≡ next T a left t i) → (i : ℕ) → after i ≡ slots T awake (t + 1) i
  unfolding slots
  slots_then a after w e k = rw (add-one t) (e k ∙ (λ i. next T (w i) (all i) t k))
