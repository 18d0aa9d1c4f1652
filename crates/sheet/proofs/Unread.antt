-- What the checker takes a read past the end of a list of tasks to give.
use Rattle.std.proofs.Common.{[]}
use Rattle.grammar.specs.declared.task.TaskLine.{TaskLine}

abbrev pub unread : TaskLine
unread = record { name = record { bytes = [] }; work = 0; period = 0 }
