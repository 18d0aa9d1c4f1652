use Rattle.std.proofs.Common.{arith}
use Rattle.std.proofs.lemmas.Result.{err_from_is_err_and}
use Rattle.grammar.specs.Texts.{lines}
use Rattle.sheet.specs.Parts.{lines_of}
use Rattle.sheet.proofs.Contented.{first_again, unended, ended}
use Rattle.sheet.proofs.Counts.{entry_counted}
use Rattle.sheet.proofs.contents.calls.read_contents.Goals as goal

pub returns-in_err-check_other-2 : goal.returns-in_err-check_other-2
returns-in_err-check_other-2 c =
    let p = err_from_is_err_and c.from_residual-in_err-check_other-2.result c.from_residual-in_err-check_other-2.ensures.1 in
    rw (p.1, p.2)
    (first_again (lines c.args.text.now) c.in_ok-rest.rest c.in_ok-first.rest c.in_ok-second.rest c.in_ok-third.rest c.in_ok-first.first c.in_ok-second.second c.in_ok-third.third
    c.in_ok-rest.ensures.value c.in_ok-rest.ensures.line c.in_ok-first.ensures.value c.in_ok-first.ensures.line
    c.in_ok-second.ensures.value c.in_ok-second.ensures.line c.in_ok-check_other.ensures c.in_ok-third.ensures.value c.in_ok-third.ensures.line
    _ c.in_err-check_other-2.ensures)

pub returns-in_err-rest-2 : goal.returns-in_err-rest-2
returns-in_err-rest-2 c =
    let p = err_from_is_err_and c.from_residual-in_err-rest-2.result c.from_residual-in_err-rest-2.ensures.1 in
    rw (p.1, p.2)
    (unended (lines c.args.text.now) c.in_ok-rest.rest c.in_ok-first.rest c.in_ok-second.rest c.in_ok-third.rest c.in_ok-first.first c.in_ok-second.second c.in_ok-third.third
    c.in_ok-rest.ensures.value c.in_ok-rest.ensures.line c.in_ok-first.ensures.value c.in_ok-first.ensures.line
    c.in_ok-second.ensures.value c.in_ok-second.ensures.line c.in_ok-check_other.ensures c.in_ok-third.ensures.value c.in_ok-third.ensures.line
    c.in_ok-check_other-2.ensures c.in_ok-check_other-3.ensures _ c.in_err-rest-2.ensures.value)

pub invariant_of-result : goal.invariant_of-result
invariant_of-result c =
    let l₁ = c.in_ok-rest.ensures.line in
    let l₂ = c.in_ok-first.ensures.line in
    let l₃ = c.in_ok-second.ensures.line in
    let l₄ = c.in_ok-third.ensures.line in
    let l₅ = c.in_ok-rest-2.ensures.line in
    record {
      first_counted = entry_counted c.in_ok-rest.rest c.in_ok-first.rest c.in_ok-first.first c.in_ok-first.ensures.value;
      second_counted = entry_counted c.in_ok-first.rest c.in_ok-second.rest c.in_ok-second.second c.in_ok-second.ensures.value;
      third_counted = entry_counted c.in_ok-second.rest c.in_ok-third.rest c.in_ok-third.third c.in_ok-third.ensures.value;
      line = omega arith;
    }

pub returns : goal.returns
returns c =
    ended (lines c.args.text.now) c.in_ok-rest.rest c.in_ok-first.rest c.in_ok-second.rest c.in_ok-third.rest c.in_ok-first.first c.in_ok-second.second c.in_ok-third.third
    c.in_ok-rest.ensures.value c.in_ok-rest.ensures.line c.in_ok-first.ensures.value c.in_ok-first.ensures.line
    c.in_ok-second.ensures.value c.in_ok-second.ensures.line c.in_ok-check_other.ensures c.in_ok-third.ensures.value c.in_ok-third.ensures.line
    c.in_ok-check_other-2.ensures c.in_ok-check_other-3.ensures (lines_of c.in_ok-rest-2.rest) c.in_ok-rest-2.ensures.value
