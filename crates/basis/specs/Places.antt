-- A list in places of its own.
use Rattle.std.specs.Prelude.{◌≡◌, ℕ, ◌-◌, ◌≤◌, List, ◌++◌, length, take, drop, replicate}
use Rattle.std.proofs.Common.{ap, sym, ◌∙◌}
use Rattle.std.proofs.lemmas.List.{length-take-le, take-append-drop}

-- what stands in `room` places of which the first hold a list, and the others are blank
abbrev pub padded : {T : Type 0} → T → ℕ → List T → List T
padded blank room xs = xs ++ replicate (room - length xs) blank

-- the list that stands in such places gives them back
pub padded_back : {T : Type 0} (blank : T) (room count : ℕ) (places : List T) → count ≤ length places → drop count places ≡ replicate (room - count) blank →
    padded blank room (take count places) ≡ places
padded_back blank room count places few rest =
    ap (λ (n : ℕ). take count places ++ replicate (room - n) blank) (length-take-le count places few)
    ∙ (ap (λ ys. take count places ++ ys) (sym rest) ∙ take-append-drop count places)
