-- What a `?` shows of what went before it.
use Rattle.std.proofs.Common.{◌≡◌, ℕ, ◌⊎◌, Ok, Err, Result, sym, refl, ap, ◌∙◌, inl, inr, arith}
use Rattle.grammar.specs.Binds.{bind}

-- an acceptance is no refusal
pub not_both : {A E : Type 0} {x : A} {e : E} → Err e ≡ Ok x → ⊥
not_both h = let z : ◌≡◌ {A = ℕ} 0 1 = cc in omega arith

-- what is accepted is one thing
pub ok_injective : {A E : Type 0} {x y : A} → ◌≡◌ {A = Result A E} (Ok x) (Ok y) → x ≡ y
ok_injective e = cc

-- what is accepted after a first value was accepted there
pub bind_ok : {A B E : Type 0} (r : Result A E) (f : A → Result B E) (y : B) → bind r f ≡ Ok y → (x : A) × (r ≡ Ok x) × (f x ≡ Ok y)
bind_ok (Ok x) f y h = (x, refl, h)
bind_ok (Err e) f y h = absurd (not_both h)

-- an accepted value goes on
pub bind_then : {A B E : Type 0} (r : Result A E) (f : A → Result B E) (x : A) (y : Result B E) → r ≡ Ok x → f x ≡ y → bind r f ≡ y
bind_then r f x y h k = ap (λ r. bind r f) h ∙ k

-- what is refused was refused there, or after a first value
pub bind_err : {A B E : Type 0} (r : Result A E) (f : A → Result B E) (e : E) → bind r f ≡ Err e → (r ≡ Err e) ⊎ ((x : A) × (r ≡ Ok x) × (f x ≡ Err e))
bind_err (Ok x) f e h = inr (x, refl, h)
bind_err {A} {B} {E} (Err d) f e h = inl (let k : d ≡ e = cc in ap {B = Result A E} (λ d. Err d) k)

-- where the rest is only put together, what is refused was refused before it
pub bind-last : {A B E : Type 0} (r : Result A E) (g : A → B) (e : E) → bind r (λ x. Ok (g x)) ≡ Err e → r ≡ Err e
bind-last (Ok x) g e h = absurd (not_both (sym h))
bind-last {A} {B} {E} (Err d) g e h = let k : d ≡ e = cc in ap {B = Result A E} (λ d. Err d) k
