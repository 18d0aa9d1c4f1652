use Rattle.std.proofs.lemmas.Result.{err_from_is_err_and}
use Rattle.sheet.specs.Views.{told_by}
use Rattle.sheet.proofs.Embodied.{second_fails, last}
use Rattle.sheet.proofs.bodies.read_bodies.Goals as goal

pub returns-in_err-rest-2 : goal.returns-in_err-rest-2
returns-in_err-rest-2 c =
    let p = err_from_is_err_and c.from_residual-in_err-rest-2.result c.from_residual-in_err-rest-2.ensures.1 in
    rw (p.1, p.2) (second_fails c.args.contents (told_by c.args.told.now) (told_by c.read_body.new.told) c.in_ok-rest.rest c.requires
    c.in_ok-rest.ensures.value c.in_ok-rest.ensures.line _ c.in_err-rest-2.ensures.value)

pub returns : goal.returns
returns c =
    last c.args.contents (told_by c.args.told.now) (told_by c.read_body.new.told) c.in_ok-rest.rest c.requires
    c.in_ok-rest.ensures.value c.in_ok-rest.ensures.line (told_by c.read_body-2.new.told) c.in_ok-rest-2.rest c.in_ok-rest-2.ensures.value c.in_ok-rest-2.ensures.line
    _ c.read_body-3.ensures.value
