use Rattle.theory.proofs.Lates.{late_keeps_law}
use Rattle.theory.proofs.late_keeps_law.Goals as goal

pub returns : goal.returns
returns c = late_keeps_law
