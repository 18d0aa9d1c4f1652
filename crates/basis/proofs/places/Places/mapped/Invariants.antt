use Rattle.std.proofs.Common.{◌≡◌, map, take}
use Rattle.basis.proofs.places.Places.mapped.Given as goal

abbrev pub invariant-loop-item : goal.invariant-loop-item
invariant-loop-item g l =
    (h : _) → ((x : _) (y : _) → goal.F-post g l.f x y → y ≡ h x) → l.places ≡ take g.row.N (map h (take l.item-index l.items))
