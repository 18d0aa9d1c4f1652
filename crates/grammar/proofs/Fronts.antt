-- A line at the front of others.
use Rattle.std.proofs.Common.{◌≡◌, ℕ, true, false, cond, List, [], ◌∷◌, Some, None, Ok, Err, Result, sym, refl, ap, ◌∙◌, ⊎_elim, arith}
use Rattle.std.specs.List.{slice_get}
use Rattle.std.specs.Str.{bytes_eq}
use Rattle.std.proofs.lemmas.Slice.Eq.{bytes_eq-Decides}
use Rattle.std.proofs.lemmas.Bool.{both_ways}
use Rattle.basis.specs.declared.fault.Fault.{Fault}
use Rattle.grammar.specs.Contents.{fixed_line_of}
use Rattle.grammar.specs.Texts.{Lines, first_of}
use Rattle.grammar.proofs.Bound.{not_both, bind_ok, bind_err}

-- nothing stands in no list
pub nowhere : {A : Type 0} {x : A} → None ≡ Some x → ⊥
nowhere h = let z : ◌≡◌ {A = ℕ} 0 1 = cc in omega arith

-- a fixed line is taken where it is the first
pub fixed_ok : (f : Fault) (want : List ℕ) (ls rest : Lines) → fixed_line_of f want ls ≡ Ok rest → ls ≡ want ∷ rest
fixed_ok f want [] rest h = absurd (not_both h)
fixed_ok f want (l ∷ ls) rest h =
    elim (bytes_eq l want) as (λ v. bytes_eq l want ≡ v → cond v (Ok ls) (Err f) ≡ Ok rest → l ∷ ls ≡ want ∷ rest) [
      | true ↦ λ e k. let line : l ≡ want = (bytes_eq-Decides l want).0 e in let more : ls ≡ rest = cc in cc
      | false ↦ λ e k. absurd (not_both k)
    ] refl h

pub fixed_there : (f : Fault) (want : List ℕ) (rest : Lines) → fixed_line_of f want (want ∷ rest) ≡ Ok rest
fixed_there f want rest = ap (λ v. cond v (Ok rest) (Err f)) ((bytes_eq-Decides want want).1 refl)

pub fixed_err : (f g : Fault) (want : List ℕ) (ls : Lines) → fixed_line_of f want ls ≡ Err g → (g ≡ f) × (slice_get ls 0 ≡ Some want → ⊥)
fixed_err f g want [] h = (cc, nowhere)
fixed_err f g want (l ∷ ls) h =
    elim (bytes_eq l want) as (λ v. bytes_eq l want ≡ v → cond v (Ok ls) (Err f) ≡ Err g → (g ≡ f) × (Some l ≡ Some want → ⊥)) [
      | true ↦ λ e k. absurd (not_both (sym k))
      | false ↦ λ e k. (cc, λ s. both_ways (bytes_eq l want) e ((bytes_eq-Decides l want).1 (let q : l ≡ want = cc in q)))
    ] refl h

-- a line that is read is the first
pub first_ok : {T : Type 0} (f : Fault) (of : List ℕ → Result T Fault) (ls : Lines) (x : T × Lines) → first_of f of ls ≡ Ok x
    → (l : List ℕ) × (ls ≡ l ∷ x.1) × (of l ≡ Ok x.0)
first_ok f of [] x h = absurd (not_both h)
first_ok {T} f of (l ∷ ls) x h =
    let k = bind_ok (of l) _ x h in
    let same : (k.0, ls) ≡ x = (let q = k.2 in cc) in
    (l, ap (λ (y : T × Lines). l ∷ y.1) same, k.1 ∙ ap (λ (y : T × Lines). Ok y.0) same)

-- else it is missing or not of its form
pub first_err : {T : Type 0} (f g : Fault) (of : List ℕ → Result T Fault) (ls : Lines) → ((l : List ℕ) (e : Fault) → of l ≡ Err e → e ≡ f)
    → first_of f of ls ≡ Err g → (g ≡ f) × ((l : List ℕ) (x : T) → slice_get ls 0 ≡ Some l → of l ≡ Ok x → ⊥)
first_err f g of [] whose h = (cc, λ l x e k. nowhere e)
first_err {T} f g of (l ∷ ls) whose h =
    ⊎_elim (λ (k : of l ≡ Err g). (whose l g k, λ m x e j. let same : l ≡ m = cc in not_both (sym k ∙ ap of same ∙ j)))
    (λ (k : (x : T) × (of l ≡ Ok x) × (Ok (x, ls) ≡ Err g)). absurd (not_both (sym k.2)))
    (bind_err (of l) _ g h)
