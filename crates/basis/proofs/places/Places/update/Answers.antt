use Rattle.std.proofs.Common.{◌≡◌, ◌<◌, length, get_or, sym, ap, ◌∙◌, arith, length-set, subst}
use Rattle.std.proofs.lemmas.List.{get_or-take, length-take-le}
use Rattle.basis.proofs.Changed.{made_more, entry_same, later_same}
use Rattle.basis.proofs.places.Places.update.Goals as goal

pub f-requires : goal.f-requires
f-requires g c =
    let p = c.loop-place.place in
    let d = c.index-self-place.result in
    let old = c.self.inside.places in
    let n = c.self.inside.count in
    let is : get_or c.args.self.now p d ≡ get_or c.loop-place.self-inside.places p d =
    ap (λ xs. get_or xs p d) (sym c.self.view_is) ∙ (get_or-take n old p d c.loop-place-test.true ∙ sym (entry_same c.loop-place.self-inside.places old p d c.loop-place.invariant.later)) in
    let l : p < length c.args.self.now = omega (arith, ap length c.self.view_is, length-take-le n old c.self.invariant.1, c.loop-place-test.true) in
    subst (λ x. g.F.Fn.pre c.args.f (x, tt)) is (c.requires.callable p d l)

pub loop-place-preserved : goal.loop-place-preserved
loop-place-preserved g c =
    let p = c.loop-place.place in
    let now = c.loop-place.self-inside.places in
    let old = c.self.inside.places in
    let at = c.loop-place.invariant in
    let l : p < length old = omega (arith, c.self.invariant.1, c.loop-place-test.true) in
    record {
      count = at.count;
      room = length-set now p c.f.result ∙ at.room;
      later = later_same now old p c.f.result at.later;
      made = λ h acts.
          made_more h now old p c.f.result c.index-self-place.result (omega (arith, l, at.room)) l
          (acts _ _ c.f.ensures ∙ ap h (entry_same now old p c.index-self-place.result at.later))
          (at.made h acts);
    }
