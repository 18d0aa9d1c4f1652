-- The line of a first job depends only on the owners of the ticks up to its deadline.
use Rattle.std.proofs.Common.{◌≡◌, ℕ, ◌<◌, ◌≤◌, List, map, take, length, get_or, Option, ap, arith}
use Rattle.std.specs.List.{range_with_len}
use Rattle.std.proofs.lemmas.List.FromFn.{length-map-range_with_len, take-map-range_with_len}
use Rattle.std.proofs.lemmas.Simd.{map-map}
use Rattle.grammar.specs.declared.name.Name.{Name}
use Rattle.theory.specs.Loads.{period, no_load}
use Rattle.theory.specs.Slots.{is}
use Rattle.table.specs.declared.table.Table.{Table}
use Rattle.table.specs.Tables.{admitted}
use Rattle.table.proofs.Facts.{period-within, names_number}
use Rattle.console.specs.Pages.{owned_line, first_line}

-- the marks of a place up to a tick, from the owners of a whole cycle
marks_of : (f : ℕ → Option ℕ) (owners : List (Option ℕ)) (n i p : ℕ) → owners ≡ map f (range_with_len 0 n) → p ≤ n →
    map (is i) (take p owners) ≡ map (λ t. is i (f t)) (range_with_len 0 p)
marks_of f owners n i p e l = rw (e, take-map-range_with_len f 0 n p l) (map-map (is i) f (range_with_len 0 p))

-- the line of a first job is made of the owners up to its deadline
pub first_same : (name : Name) (i n p : ℕ) (f g : ℕ → Option ℕ) (primary spare : List (Option ℕ)) →
    primary ≡ map f (range_with_len 0 n) → spare ≡ map g (range_with_len 0 n) → p ≤ n →
    owned_line name (map (is i) (take p primary)) (map (is i) (take p spare)) ≡ first_line name i f g p
first_same name i n p f g primary spare e h l = rw (marks_of f primary n i p e l, marks_of g spare n i p h l)

-- the deadline of a first job lies within the cycle
pub period_room : (t : Table) (i : ℕ) → i < length (admitted t).names → (get_or (admitted t).works i no_load).period ≤ (admitted t).cycle
unfolding period
period_room t i l = period-within t.works i (omega (arith, names_number t))

-- the owners of a cycle on both boards are known as far as that
pub owners_reach : (f g : ℕ → Option ℕ) (primary spare : List (Option ℕ)) (n p : ℕ) → primary ≡ map f (range_with_len 0 n) → spare ≡ map g (range_with_len 0 n) → p ≤ n →
    (p ≤ length primary) × (p ≤ length spare)
owners_reach f g primary spare n p e h l =
    (omega (arith, ap length e, length-map-range_with_len f 0 n), omega (arith, ap length h, length-map-range_with_len g 0 n))
