use Rattle.std.proofs.Common.{refl}
use Rattle.theory.specs.Laws.{cyclic}
use Rattle.wake.proofs.always.AlwaysWakePlan.is_awake.Goals as goal

pub returns : goal.returns
unfolding cyclic
returns c = refl
