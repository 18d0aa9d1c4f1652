use Rattle.theory.proofs.Awakes.{always_keeps_law}
use Rattle.theory.proofs.always_keeps_law.Goals as goal

pub returns : goal.returns
returns c = always_keeps_law
