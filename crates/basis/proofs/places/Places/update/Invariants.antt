use Rattle.std.proofs.Common.{◌≡◌, length, map, take, drop}
use Rattle.basis.proofs.places.Places.update.Given as goal

-- the places so far hold what is made of their entries, and those from the next one on are as they were
abbrev pub invariant-loop-place : goal.invariant-loop-place
invariant-loop-place g l =
    record {
      count : l.self-inside.count ≡ l.initial.self-inside.count;
      room : length l.self-inside.places ≡ length l.initial.self-inside.places;
      later : drop l.place l.self-inside.places ≡ drop l.place l.initial.self-inside.places;
      made : (h : _) → ((x : _) (y : _) → goal.F-post g l.f x y → y ≡ h x) → take l.place l.self-inside.places ≡ map h (take l.place l.initial.self-inside.places);
    }
