use Rattle.std.proofs.Common.{◌≡◌, map, take, ap, ◌∙◌, arith}
use Rattle.std.proofs.lemmas.List.{take_all, length-map}
use Rattle.basis.proofs.places.Places.mapped.Goals as goal

-- where there are places for all items, the first of them are all
pub returns-clause-whole : goal.returns-clause-whole
returns-clause-whole g c few h acts =
    let items = c.args.items.now in
    let all : take c.loop-item.item-index items ≡ items = take_all c.loop-item.item-index items (omega arith) in
    let made = c.loop-item.invariant h acts in
    made ∙ (ap (λ xs. take g.row.N (map h xs)) all ∙ take_all g.row.N (map h items) (omega (arith, few, length-map items h)))
