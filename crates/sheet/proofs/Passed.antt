-- What the passes show of the sections that they let through.
use Rattle.std.proofs.Common.{◌≡◌, ℕ, ◌+◌, Bool, true, false, cond, eqb, ltb, List, [], ◌∷◌, ◌++◌, Ok, Err, Result, refl, arith}
use Rattle.std.proofs.lemmas.Bool.{and_parts, and_from}
use Rattle.std.proofs.lemmas.Bool.Decides.{nat_tests}
use Rattle.basis.specs.declared.fault.Fault.{Fault}
use Rattle.grammar.specs.declared.task.TaskLine.{TaskLine}
use Rattle.grammar.specs.Bodies.{ranged}
use Rattle.grammar.specs.Passes.{rising_from, apart_from, is_barred, bad_level, bad_task}
use Rattle.grammar.specs.Tasks.{rising, sound_all}

-- what was not refused went the other way
passed : (b : Bool) (r : Result (Unit {0}) Fault) (e : Fault) → cond b (Err e) r ≡ Ok tt → (b ≡ false) × (r ≡ Ok tt)
passed true r e h = absurd (let z : ◌≡◌ {A = ℕ} 0 1 = cc in omega arith)
passed false r e h = (refl, h)

went : (b : Bool) (r : Result (Unit {0}) Fault) (e : Fault) → cond b r (Err e) ≡ Ok tt → (b ≡ true) × (r ≡ Ok tt)
went true r e h = (refl, h)
went false r e h = absurd (let z : ◌≡◌ {A = ℕ} 0 1 = cc in omega arith)

-- levels that pass rise to 100
pub rises : (at last : ℕ) (vs : List ℕ) → rising_from at last vs ≡ Ok tt → rising last vs ≡ true
rises at last [] h = (went (eqb last 100) (Ok tt) (bad_level at) h).0
rises at last (v ∷ vs) h =
    let k = went (ltb last v) (rising_from (at + 1) v vs) (bad_level (at + 1)) h in
    and_from _ _ k.0 (rises (at + 1) v vs k.1)

-- tasks that pass are sound
pub sounds : (at : ℕ) (earlier ts : List TaskLine) → ranged ts ≡ true → apart_from at earlier ts ≡ Ok tt → sound_all ts ≡ true
sounds at earlier [] n h = refl
sounds at earlier (t ∷ ts) n h =
    let k = passed (is_barred t earlier) (apart_from (at + 1) (earlier ++ t ∷ []) ts) (bad_task at) h in
    let free = k.0 in
    let p = and_parts _ (ranged ts) n in
    let numbers = p.0 in
    and_from _ _ (grind (arith, nat_tests, free, numbers)) (sounds (at + 1) (earlier ++ t ∷ []) ts p.1 k.1)
