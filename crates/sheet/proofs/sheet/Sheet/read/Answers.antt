use Rattle.std.proofs.Common.{ap, ◌∙◌}
use Rattle.std.proofs.lemmas.Result.{err_from_is_err_and}
use Rattle.grammar.specs.Files.{answer_of, filled_by}
use Rattle.grammar.proofs.Scriptless.{scriptless, scriptless_file_of}
use Rattle.sheet.proofs.sheet.Sheet.read.Goals as goal

pub returns-in_err-read_passes-clause-answer : goal.returns-in_err-read_passes-clause-answer
returns-in_err-read_passes-clause-answer c =
    let p = err_from_is_err_and c.from_residual.result c.from_residual.ensures.1 in
    rw (p.1, p.2) (ap (λ r. answer_of (scriptless r)) c.in_err-read_passes.ensures.value ∙ ap answer_of (scriptless_file_of c.args.text.now))

pub returns-in_err-read_passes-clause-filled : goal.returns-in_err-read_passes-clause-filled
returns-in_err-read_passes-clause-filled c =
    c.in_err-read_passes.ensures.blank
    ∙ (ap (λ r. filled_by (scriptless r)) c.in_err-read_passes.ensures.value ∙ ap filled_by (scriptless_file_of c.args.text.now))
