-- One line more of a body.
use Rattle.std.proofs.Common.{◌≡◌, ℕ, suc, ◌+◌, ◌-◌, ◌<◌, ◌≤◌, List, [], ◌∷◌, ◌++◌, length, drop, Ok, Err, Result, sym, ap, ◌∙◌, arith, length-drop}
use Rattle.std.proofs.lemmas.List.{drop-drop}
use Rattle.basis.specs.declared.fault.Fault.{Fault}
use Rattle.basis.specs.declared.fault.Reason.{Reason}
use Rattle.basis.specs.declared.fault.Reason.TheVariants.{Body}
use Rattle.basis.specs.Faults.{fault_at}
use Rattle.grammar.specs.Binds.{bind}
use Rattle.grammar.specs.Bodies.{items_from}
use Rattle.grammar.specs.Texts.{Lines, first_of}

-- after i of `count` lines, the next stands on line `at`
module _ {T : Type 0} (of : ℕ → List ℕ → Result T Fault) (at count i : ℕ) (got : List T) (ls : Lines) (whole : Result (List T × Lines) Fault)
    (more : i < count) (so_far : items_from of at (count - i) got ls ≡ whole) where
  abbrev next : Result (T × Lines) Fault → Result (List T × Lines) Fault
  next r = bind r (λ x. items_from of (at + 1) (count - (i + 1)) (got ++ x.0 ∷ []) x.1)

  step : (why : Reason) → why ≡ Body → (r : Result (T × Lines) Fault) → r ≡ first_of (fault_at why at) (of at) ls → next r ≡ whole
  step why is r h =
      let n : count - i ≡ suc (count - (i + 1)) = omega arith in
      ap next (h ∙ ap (λ (why : Reason). first_of (fault_at why at) (of at) ls) is) ∙ (sym (ap (λ k. items_from of at k got ls) n) ∙ so_far)

  -- a line at fault puts the body at fault
  pub fails : (why : Reason) → why ≡ Body → (e : Fault) → Err e ≡ first_of (fault_at why at) (of at) ls → Err e ≡ whole
  fails why is e first = step why is (Err e) first

  -- what a line reads to comes next
  pub goes : (why : Reason) → why ≡ Body → (x : T) (rest : Lines) → Ok (x, rest) ≡ first_of (fault_at why at) (of at) ls
      → items_from of (at + 1) (count - (i + 1)) (got ++ x ∷ []) rest ≡ whole
  goes why is x rest first = step why is (Ok (x, rest)) first

-- there is room for each line
pub room : {T : Type 0} (free now : List T) (count i : ℕ) → count ≤ length free → i < count → now ≡ drop i free → now ≡ [] → ⊥
room free now count i few h e none =
    let n : length (drop i free) ≡ 0 = ap length (sym e ∙ none) in
    omega (arith, n, length-drop i free)

-- and one place less after it
pub less_room : {T : Type 0} (free now next : List T) (i : ℕ) → next ≡ drop 1 now → now ≡ drop i free → next ≡ drop (i + 1) free
less_room free now next i e so_far = e ∙ ap (drop 1) so_far ∙ drop-drop 1 i free
