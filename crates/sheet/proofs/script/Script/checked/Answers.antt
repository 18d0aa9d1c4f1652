use Rattle.std.proofs.Common.{sym}
use Rattle.grammar.specs.Texts.{lines}
use Rattle.sheet.proofs.Scripted.{all-letters}
use Rattle.sheet.proofs.script.Script.checked.Goals as goal

pub returns : goal.returns
returns c = all-letters c.args.text.part.line (lines c.args.text.part.text.now) (sym c.in_ok-check_script.ensures)
