use Rattle.std.proofs.Common.{◌≡◌, length}
use Rattle.grammar.specs.Scripts.{script_from}
use Rattle.sheet.specs.Parts.{lines_of}
use Rattle.sheet.specs.Views.{passed_by}
use Rattle.sheet.proofs.script.check_script.Given as goal

abbrev pub invariant-loop-bytes : goal.invariant-loop-bytes
invariant-loop-bytes l = passed_by (script_from l.rest.line (lines_of l.rest)) ≡ passed_by (script_from l.part.line (lines_of l.part))

abbrev pub decreases-loop-bytes : goal.decreases-loop-bytes
decreases-loop-bytes l = length l.rest.text.now
