-- The letters of a script whose lines have passed.
use Rattle.std.proofs.Common.{◌≡◌, ℕ, ◌+◌, Bool, true, false, cond, ◌&&◌, List, [], ◌∷◌, Ok, Err, Result, refl, ap, ◌∙◌}
use Rattle.basis.specs.declared.fault.Fault.{Fault}
use Rattle.grammar.specs.declared.letters.Letters.{Letters}
use Rattle.grammar.specs.Binds.{bind}
use Rattle.grammar.specs.Scripts.{mark, script_line_of, script_from, letters_of, ahead}
use Rattle.grammar.specs.Texts.{Lines}
use Rattle.grammar.proofs.Bound.{not_both}
use Rattle.sheet.specs.Views.{passed_by}

-- the letters of a line do not depend on its number
other-line : {A : Type 0} (b : Bool) (x y : A) (e f : Fault) → cond b (Ok x) (Err e) ≡ Ok y → cond b (Ok x) (Err f) ≡ Ok y
other-line true x y e f h = h
other-line false x y e f h = absurd (not_both h)

anywhere : (at : ℕ) (l : List ℕ) (x : Letters) → script_line_of at l ≡ Ok x → script_line_of 0 l ≡ Ok x
anywhere at [] x h = absurd (not_both h)
anywhere at (p ∷ []) x h = absurd (not_both h)
anywhere at (p ∷ s ∷ []) x h = other-line (mark p && mark s) (record { primary = p; spare = s }) x _ _ h
anywhere at (p ∷ s ∷ t ∷ ts) x h = absurd (not_both h)

-- one line, and those after it
ahead_of : (at : ℕ) (l : List ℕ) (xs : List Letters) (r : Result Letters Fault) (s : Result (List Letters) Fault)
    → script_line_of at l ≡ r → (passed_by s ≡ Ok tt → Ok xs ≡ s)
    → passed_by (bind r (λ x. bind s (λ xs. Ok (x ∷ xs)))) ≡ Ok tt
    → Ok (ahead (script_line_of 0 l) xs) ≡ bind r (λ x. bind s (λ xs. Ok (x ∷ xs)))
ahead_of at l xs (Err e) s is more h = absurd (not_both h)
ahead_of at l xs (Ok x) (Err e) is more h = absurd (not_both h)
ahead_of at l xs (Ok x) (Ok ys) is more h =
    let same : xs ≡ ys = (let k = more refl in cc) in
    ap (λ (r : Result Letters Fault). Ok (ahead r xs)) (anywhere at l x is) ∙ ap (λ (ys : List Letters). Ok (x ∷ ys)) same

pub all-letters : (at : ℕ) (ls : Lines) → passed_by (script_from at ls) ≡ Ok tt → Ok (letters_of ls) ≡ script_from at ls
all-letters at [] h = refl
all-letters at (l ∷ ls) h =
    ahead_of at l (letters_of ls) (script_line_of at l) (script_from (at + 1) ls) refl (all-letters (at + 1) ls) h
