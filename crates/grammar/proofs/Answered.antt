-- What is known of an answer, be it a value or a fault.
use Rattle.std.proofs.Common.{◌≡◌, ℕ, Bool, true, false, cond, Ok, Err, Result, refl, subst, arith}
use Rattle.grammar.specs.Binds.{bind}

-- an answer is a value of which P holds, or the fault f
pub data Gives {A E : Type 0} (f : E) (P : A → Type 0) : Result A E → Type 0 where
  value : (x : A) → P x → Gives f P (Ok x)
  fault : Gives f P (Err f)

-- so a value has what P says, and a fault is f
pub gives_ok : {A E : Type 0} {f : E} {P : A → Type 0} {r : Result A E} (x : A) → Gives f P r → r ≡ Ok x → P x
gives_ok {P = P} x (value y h) e = let q : y ≡ x = cc in subst P q h
gives_ok x fault e = absurd (let z : ◌≡◌ {A = ℕ} 0 1 = cc in omega arith)

pub gives_err : {A E : Type 0} {f : E} {P : A → Type 0} {r : Result A E} (g : E) → Gives f P r → r ≡ Err g → g ≡ f
gives_err g (value y h) e = absurd (let z : ◌≡◌ {A = ℕ} 0 1 = cc in omega arith)
gives_err g fault e = cc

-- of an answer that a test decides, and of one in two steps
pub gives_cond : {A E : Type 0} {f : E} {P : A → Type 0} (t : Bool) (x : A) → (t ≡ true → P x) → Gives f P (cond t (Ok x) (Err f))
gives_cond true x h = value x (h refl)
gives_cond false x h = fault

pub gives_bind : {A B E : Type 0} {f : E} {P : A → Type 0} {Q : B → Type 0} {r : Result A E} {k : A → Result B E}
    → Gives f P r → ((x : A) → P x → Gives f Q (k x)) → Gives f Q (bind r k)
gives_bind (value x h) more = more x h
gives_bind fault more = fault
