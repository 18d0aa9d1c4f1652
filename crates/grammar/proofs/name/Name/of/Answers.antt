use Rattle.std.proofs.Common.{◌≡◌, ℕ, ◌-◌, List, ◌++◌, length, drop, replicate, ap}
use native.Mathlib.Nat.{sub-zero}
use Rattle.std.proofs.lemmas.List.{drop-replicate}
use Rattle.grammar.proofs.name.Name.of.Goals as goal

with_zeros : (s t : List ℕ) → t ≡ s → t ++ drop (length s - 0) (replicate 8 0) ≡ s ++ replicate (8 - length s) 0
with_zeros s t e = rw (e, sub-zero, drop-replicate)

pub returns : goal.returns
returns c = ap (λ (bs : List ℕ). record { bytes = bs }) (with_zeros _ _ c.copy_from_slice.ensures.after)
