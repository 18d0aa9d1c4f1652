-- As many items are read as lines.
use Rattle.std.proofs.Common.{◌≡◌, ℕ, zero, suc, ◌+◌, List, [], ◌∷◌, ◌++◌, length, Ok, Result, ap, arith, length-append}
use Rattle.basis.specs.declared.fault.Fault.{Fault}
use Rattle.grammar.specs.Bodies.{items_from}
use Rattle.grammar.specs.Fields.{bad_line}
use Rattle.grammar.specs.Texts.{Lines, first_of}
use Rattle.grammar.proofs.Bound.{bind_ok}

pub items-count : {T : Type 0} (of : ℕ → List ℕ → Result T Fault) (at count : ℕ) (got : List T) (ls : Lines) (x : List T × Lines)
    → items_from of at count got ls ≡ Ok x → length x.0 ≡ length got + count
items-count of at zero got ls x e = let same : (got, ls) ≡ x = cc in omega (arith, ap (λ y. length y.0) same)
items-count {T} of at (suc count) got ls x e =
    let step = bind_ok (first_of (bad_line at) (of at) ls) _ x e in
    let more = items-count of (at + 1) count (got ++ step.0.0 ∷ []) step.0.1 x step.2 in
    omega (arith, more, length-append got (step.0.0 ∷ []))
