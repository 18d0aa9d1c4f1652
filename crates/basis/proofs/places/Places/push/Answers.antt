use Rattle.std.proofs.Common.{◌<◌, length, replicate, drop, sym, ap, ◌∙◌, arith, length-set}
use Rattle.std.proofs.lemmas.List.{drop-set-lt, drop-drop, drop-replicate}
use Rattle.basis.proofs.places.Places.push.Goals as goal

-- the entry stands in the first blank place
pub invariant_of-self : goal.invariant_of-self
invariant_of-self g c =
    let m = c.self.inside.places in
    let n = c.self.inside.count in
    let l : n < length m = omega (arith, c.self.invariant.0, c.if-self.true) in (
      length-set m n c.args.entry ∙ c.self.invariant.0,
      omega (arith, length-set m n c.args.entry, l),
      drop-set-lt _ m n c.args.entry (omega arith)
          ∙ (sym (drop-drop 1 n m) ∙ (ap (λ ys. drop 1 ys) c.self.invariant.2 ∙ (drop-replicate 1 _ _ ∙ ap (λ k. replicate k g.T.Blank.BLANK) (omega arith)))),
    )
