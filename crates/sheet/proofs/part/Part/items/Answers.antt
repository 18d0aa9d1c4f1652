use Rattle.std.proofs.Common.{◌≡◌, ◌+◌, ◌∙◌, arith}
use Rattle.std.proofs.lemmas.Result.{err_from_is_err_and}
use Rattle.basis.specs.Fillings.{entries_of, free_of}
use Rattle.sheet.specs.Parts.{lines_of}
use Rattle.sheet.proofs.Onward.{fails, goes, room, less_room}
use Rattle.sheet.proofs.part.Part.items.Goals as goal

pub returns-in_err-item-clause-value : goal.returns-in_err-item-clause-value
returns-in_err-item-clause-value g c =
    let p = err_from_is_err_and c.from_residual.result c.from_residual.ensures.1 in
    rw (p.1, p.2) (fails g.T.Item.of c.loop.rest.line c.args.count c.loop.counter (entries_of c.loop.items) (lines_of c.loop.rest) _ (omega arith)
    c.loop.invariant.3 g.T.Item.MISSING c.requires.body _ c.in_err-item.ensures.value)

pub returns-in-Err-clause-value : goal.returns-in-Err-clause-value
returns-in-Err-clause-value g c =
    absurd (room (free_of c.args.items.now) (free_of c.loop.items) c.args.count c.loop.counter
    c.requires.room (omega arith) c.loop.invariant.1 c.in-Err.ensures.cases.2)

pub loop-preserved : goal.loop-preserved
loop-preserved g c =
    let pushed = c.in-Ok.ensures.cases in
    let l : c.in_ok-item.after.line ≡ c.loop.rest.line + 1 = c.in_ok-item.ensures.line in (
      c.push.ensures.lent ∙ c.loop.invariant.0,
      less_room (free_of c.args.items.now) (free_of c.loop.items) (free_of c.push.new.self) c.loop.counter pushed.1 c.loop.invariant.1,
      omega (arith, l, c.loop.invariant.2),
      rw (pushed.0, l) (goes g.T.Item.of c.loop.rest.line c.args.count c.loop.counter (entries_of c.loop.items) (lines_of c.loop.rest) _ (omega arith)
          c.loop.invariant.3 g.T.Item.MISSING c.requires.body c.in_ok-item.item (lines_of c.in_ok-item.after) c.in_ok-item.ensures.value),
    )
