-- One entry more in a row, against the first eligible one so far.
use Rattle.std.proofs.Common.{◌≡◌, ℕ, ◌+◌, ◌<◌, ◌≤◌, Bool, true, false, ◌⊎◌, List, length, get_or, sym, refl, ◌∙◌, subst, inl, inr, ⊎_elim, arith, below_more}
use Rattle.std.proofs.lemmas.List.{get_or_default}
use Rattle.std.proofs.lemmas.Bool.{cases_Bool}
use Rattle.basis.specs.Picks.{First}

module _
    {X : Type 0} (eligible : X → Bool) (before : X → X → Bool) (key : X → List ℕ)
    (transitive : (x y z : X) → before x y ≡ true → before y z ≡ true → before x z ≡ true)
    (total : (x y : X) → before x y ≡ false → before y x ≡ false → key x ≡ key y)
    (by_key : (x y z : X) → key x ≡ key y → (before x z ≡ before y z) × (before z x ≡ before z y)) where
  -- y comes before z, or has its key and a place no later
  abbrev Ahead : X → ℕ → X → ℕ → Type 0
  Ahead y b z k = (before y z ≡ true) ⊎ ((key y ≡ key z) × (b ≤ k))

  -- an entry that comes before the first one is the first one
  pub takes : (xs : List X) (i b : ℕ) (x y : X) → First eligible before key xs i b → i < length xs →
      x ≡ get_or xs i x → y ≡ get_or xs b y → eligible x ≡ true → before x y ≡ true → First eligible before key xs (i + 1) i
  takes xs i b x y l lt ex ey f h =
      let at_i : (d : X) → x ≡ get_or xs i d = λ d. ex ∙ get_or_default xs i x d lt in
      let lb : b < length xs = (let u = l.inside in omega arith) in
      let at_b : (d : X) → y ≡ get_or xs b d = λ d. ey ∙ get_or_default xs b y d lb in
      let P : ℕ → Type 0 = λ k. (d : X) → eligible (get_or xs k d) ≡ true → Ahead (get_or xs i d) i (get_or xs k d) k in
      let older : (k : ℕ) → k < i → P k = λ k lk d fk.
      inl (subst (λ (z : X). before z (get_or xs k d) ≡ true) (at_i d)
      (⊎_elim
      (λ (q : before (get_or xs b d) (get_or xs k d) ≡ true).
      transitive x y (get_or xs k d) h (subst (λ (z : X). before z (get_or xs k d) ≡ true) (sym (at_b d)) q))
      (λ (q : (key (get_or xs b d) ≡ key (get_or xs k d)) × (b ≤ k)).
      sym (by_key y (get_or xs k d) x (subst (λ (z : X). key z ≡ key (get_or xs k d)) (sym (at_b d)) q.0)).1 ∙ h)
      (l.first k d lk fk))) in
      let all : (k : ℕ) → k < i + 1 → P k = below_more P i older (λ d _. inr (refl, omega arith)) in
      record { inside = omega arith; fits = λ d. subst (λ (z : X). eligible z ≡ true) (at_i d) f; first = λ k d lk. all k lk d }

  -- an entry that does not come before it leaves it the first one
  pub stays : (xs : List X) (i b : ℕ) (x y : X) → First eligible before key xs i b → i < length xs →
      x ≡ get_or xs i x → y ≡ get_or xs b y → before x y ≡ false → First eligible before key xs (i + 1) b
  stays xs i b x y l lt ex ey h =
      let at_i : (d : X) → x ≡ get_or xs i d = λ d. ex ∙ get_or_default xs i x d lt in
      let lb : b < length xs = (let u = l.inside in omega arith) in
      let at_b : (d : X) → y ≡ get_or xs b d = λ d. ey ∙ get_or_default xs b y d lb in
      let P : ℕ → Type 0 = λ k. (d : X) → eligible (get_or xs k d) ≡ true → Ahead (get_or xs b d) b (get_or xs k d) k in
      let here : Ahead y b x i =
      ⊎_elim
      (λ (q : before y x ≡ true). inl q)
      (λ (q : before y x ≡ false). inr (total y x q h, (let u = l.inside in omega arith)))
      (cases_Bool (before y x)) in
      let all : (k : ℕ) → k < i + 1 → P k = below_more P i (λ k lk d. l.first k d lk)
      (λ d _. subst (λ (z : X). Ahead z b (get_or xs i d) i) (at_b d) (subst (λ (z : X). Ahead y b z i) (at_i d) here)) in
      record { inside = (let u = l.inside in omega arith); fits = l.fits; first = λ k d lk. all k lk d }
