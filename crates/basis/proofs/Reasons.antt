-- The library's own refusals are told apart by their numbers.
use Rattle.std.proofs.Common.{◌≡◌, ℕ, zero, suc, sym, refl, ap, ◌∙◌}
use Rattle.basis.specs.declared.fault.Reason.{Reason}
use Rattle.basis.specs.declared.fault.Reason.TheVariants.{Bytes, Contents, Body, Level, Task, LongCycle, Overfull, ShortMemory, Script, Other}
use Rattle.basis.specs.Faults.{number_of, IsOwn}

-- the reason of a number
abbrev reason_of : ℕ → Reason
reason_of (suc zero) = Bytes
reason_of (suc (suc zero)) = Contents
reason_of (suc (suc (suc zero))) = Body
reason_of (suc (suc (suc (suc zero)))) = Level
reason_of (suc (suc (suc (suc (suc zero))))) = Task
reason_of (suc (suc (suc (suc (suc (suc zero)))))) = LongCycle
reason_of (suc (suc (suc (suc (suc (suc (suc zero))))))) = Overfull
reason_of (suc (suc (suc (suc (suc (suc (suc (suc zero)))))))) = ShortMemory
reason_of n = Script

back : (r : Reason) → IsOwn r → reason_of (number_of r) ≡ r
back Bytes own = refl
back Contents own = refl
back Body own = refl
back Level own = refl
back Task own = refl
back LongCycle own = refl
back Overfull own = refl
back ShortMemory own = refl
back Script own = refl
back (Other n l) own = absurd own

-- no two of them have one number
pub same_reason : (r s : Reason) → IsOwn r → IsOwn s → number_of r ≡ number_of s → r ≡ s
same_reason r s p q h = sym (back r p) ∙ ap reason_of h ∙ back s q
