use Rattle.std.proofs.Common.{take, ap, ◌∙◌, rules}
use Rattle.std.proofs.lemmas.List.{map-id}
use Rattle.basis.proofs.places.Places.of.Goals as goal

pub returns : goal.returns
returns g c =
    let xs = c.args.entries.now in
    record {
      front = c.mapped.ensures.front (λ x. x) (λ x y e. search rules) ∙ ap (take g.row.N) (map-id xs);
      whole = λ few. c.mapped.ensures.whole few (λ x. x) (λ x y e. search rules) ∙ map-id xs;
    }
