use Rattle.std.proofs.Common.{sym, arith}
use Rattle.std.proofs.lemmas.List.{length-take-le}
use Rattle.table.specs.Tables.{admitted}
use Rattle.console.specs.Pages.{first_text}
use Rattle.console.proofs.Joins.{joined_more}
use Rattle.console.proofs.Firsts.{first_same, owners_reach, period_room}
use Rattle.console.proofs.text.Text.put_firsts.Goals as goal

pub slice_bounds-put_first-end : goal.slice_bounds-put_first-end
slice_bounds-put_first-end c =
    let r = period_room c.args.table.now c.loop-place.place (rw c.names-name-items.ensures at c.loop-place-test.true) in
    let b = owners_reach _ _ _ _ _ _ c.requires.primary c.requires.spare r in
    rw (c.loads-loads.ensures, c.works.ensures.loads) (sym (length-take-le _ _ (omega (arith, b.0, b.1))))

pub slice_bounds-put_first-end-in-loop-place : goal.slice_bounds-put_first-end-in-loop-place
slice_bounds-put_first-end-in-loop-place c =
    let r = period_room c.args.table.now c.loop-place.place (rw c.names-name-items.ensures at c.loop-place-test.true) in
    let b = owners_reach _ _ _ _ _ _ c.requires.primary c.requires.spare r in
    rw (c.loads-loads.ensures, c.works.ensures.loads) (sym (length-take-le _ _ (omega (arith, b.0, b.1))))

pub loop-place-preserved : goal.loop-place-preserved
unfolding first_text
loop-place-preserved c =
    let r = period_room c.args.table.now c.loop-place.place (rw c.names-name-items.ensures at c.loop-place-test.true) in
    joined_more (first_text (admitted c.args.table.now)) c.loop-place.place c.args.self.now c.loop-place.self c.put_first.new.self c.loop-place.invariant
    (rw (c.in_ok-put_first.ensures, c.loads-loads.ensures, c.names-name-items.ensures, c.works.ensures.loads, first_same _ _ _ _ _ _ _ _ c.requires.primary c.requires.spare r))
