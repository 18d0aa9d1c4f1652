use Rattle.std.proofs.Common.{◌-◌, ◌≤◌, take, length}
use Rattle.std.specs.Io.KnownBytes.{Consumes}
use Rattle.console.proofs.input.read_up_to.Given as goal

-- the input has given the bytes that were read so far
abbrev pub invariant-loop-len : goal.invariant-loop-len
invariant-loop-len g l = (l.len ≤ length l.memory) × Consumes (g.R.Read.remaining l.initial.input) (g.R.Read.remaining l.input) (take l.len l.memory)

abbrev pub decreases-loop-len : goal.decreases-loop-len
decreases-loop-len g l = length l.memory - l.len
