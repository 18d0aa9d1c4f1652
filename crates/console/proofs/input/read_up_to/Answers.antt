use Rattle.std.proofs.Common.{subst, rules}
use Rattle.std.specs.Io.KnownBytes.{Consumes}
use Rattle.std.proofs.KnownBytes.{Consumes-trans}
use Rattle.console.proofs.Inputs.{read_more}
use Rattle.console.proofs.input.read_up_to.Goals as goal

pub loop-len-preserved : goal.loop-len-preserved
loop-len-preserved g c =
    (search rules, subst (Consumes _ _) (read_more c.loop-len.len _ c.in_ok-n.n c.loop-len.memory c.read.new.buf c.loop-len.invariant.0 c.in_ok-n.ensures.bound.0) (Consumes-trans _ _ _ _ _ c.loop-len.invariant.1 c.in_ok-n.ensures.bytes.0))
