use Rattle.std.proofs.Common.{List, Result, sym, subst}
use Rattle.basis.specs.declared.fault.Fault.{Fault}
use Rattle.grammar.specs.declared.letters.Letters.{Letters}
use Rattle.grammar.specs.Refusals.{ScriptReadAs}
use Rattle.grammar.specs.Texts.{lines}
use Rattle.grammar.proofs.Marked.{script_read_as}
use Rattle.sheet.proofs.script.Script.read.Goals as goal

pub returns : goal.returns
returns c =
    let at = c.args.text.part.line in
    let ls = lines c.args.text.part.text.now in
    let is = c.checked.ensures in
    record { answer = is; grammar = subst (λ (r : Result (List Letters) Fault). ScriptReadAs at ls r) (sym is) (script_read_as at ls) }
