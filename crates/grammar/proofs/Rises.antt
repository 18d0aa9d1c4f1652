-- What holds of levels that rise.
use Rattle.std.proofs.Common.{◌≡◌, ℕ, zero, suc, ◌<◌, ◌≤◌, true, ltb, List, [], ◌∷◌, length, get_or, true≢false, sym, arith}
use Rattle.std.proofs.lemmas.Bool.{and_parts, ltb-true, eqb-true}
use Rattle.grammar.specs.Tasks.{rising}

-- all of a rising list is above `last`, and none of it above 100
rises_within : (last : ℕ) (vs : List ℕ) → rising last vs ≡ true → last ≤ 100
rises_within last [] e = omega (arith, eqb-true last 100 e)
rises_within last (v ∷ vs) e =
    let p = and_parts (ltb last v) (rising v vs) e in
    omega (arith, ltb-true last v p.0, rises_within v vs p.1)

pub rising_some : (vs : List ℕ) → rising 0 vs ≡ true → 0 < length vs
rising_some [] e = absurd (true≢false (sym e))
rising_some (v ∷ vs) e = omega arith

pub each_above : (last : ℕ) (vs : List ℕ) → rising last vs ≡ true → (i : ℕ) → i < length vs → last < get_or vs i 0
each_above last [] e i h = absurd (omega arith)
each_above last (v ∷ vs) e zero h = ltb-true last v (and_parts (ltb last v) (rising v vs) e).0
each_above last (v ∷ vs) e (suc i) h =
    let p = and_parts (ltb last v) (rising v vs) e in
    omega (arith, ltb-true last v p.0, each_above v vs p.1 i (omega arith))

pub each_within : (last : ℕ) (vs : List ℕ) → rising last vs ≡ true → (i : ℕ) → i < length vs → get_or vs i 0 ≤ 100
each_within last [] e i h = absurd (omega arith)
each_within last (v ∷ vs) e zero h = rises_within v vs (and_parts (ltb last v) (rising v vs) e).1
each_within last (v ∷ vs) e (suc i) h = each_within v vs (and_parts (ltb last v) (rising v vs) e).1 i (omega arith)

pub later-above : (last : ℕ) (vs : List ℕ) → rising last vs ≡ true → (i j : ℕ) → i < j → j < length vs → get_or vs i 0 < get_or vs j 0
later-above last [] e i j l h = absurd (omega arith)
later-above last (v ∷ vs) e i zero l h = absurd (omega arith)
later-above last (v ∷ vs) e zero (suc j) l h = each_above v vs (and_parts (ltb last v) (rising v vs) e).1 j (omega arith)
later-above last (v ∷ vs) e (suc i) (suc j) l h =
    later-above v vs (and_parts (ltb last v) (rising v vs) e).1 i j (omega arith) (omega arith)

pub ends_full : (last : ℕ) (vs : List ℕ) → rising last vs ≡ true → (i : ℕ) → length vs ≡ suc i → get_or vs i 0 ≡ 100
ends_full last [] e i h = absurd (omega arith)
ends_full last (v ∷ []) e zero h = eqb-true v 100 (and_parts (ltb last v) (rising v []) e).1
ends_full last (v ∷ []) e (suc i) h = absurd (omega arith)
ends_full last (v ∷ (w ∷ vs)) e zero h = absurd (omega arith)
ends_full last (v ∷ (w ∷ vs)) e (suc i) h = ends_full v (w ∷ vs) (and_parts (ltb last v) (rising v (w ∷ vs)) e).1 i (omega arith)
