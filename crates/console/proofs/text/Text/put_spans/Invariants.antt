use Rattle.std.proofs.Common.{◌≡◌, ◌++◌, drop, None}
use Rattle.console.specs.Spans.{spans_from}
use Rattle.console.proofs.text.Text.put_spans.Given as goal

abbrev pub invariant-loop-t : goal.invariant-loop-t
invariant-loop-t l = l.self ++ spans_from l.t l.start (drop l.t l.marks) ≡ l.initial.self ++ spans_from 0 None l.marks
