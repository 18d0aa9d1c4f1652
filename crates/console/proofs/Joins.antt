-- Lines one after the other.
use Rattle.std.proofs.Common.{◌≡◌, ℕ, ◌+◌, List, ◌++◌, ap, ◌∙◌, append_assoc, add-one}
use Rattle.console.specs.Pages.{joined}

-- one line more
pub joined_more : (line : ℕ → List ℕ) (n : ℕ) (start before after : List ℕ) → before ≡ start ++ joined line n → after ≡ before ++ line n →
    after ≡ start ++ joined line (n + 1)
joined_more line n start before after e f =
    rw (add-one n) (f ∙ (ap (λ x. x ++ line n) e ∙ append_assoc start (joined line n) (line n)))
