use Rattle.std.proofs.Common.{arith}
use Rattle.std.proofs.lemmas.Bool.Decides.{nat_tests}
use Rattle.wake.proofs.Rests.{never_rests}
use Rattle.wake.proofs.always.AlwaysWakePlan.rest_ticks.Goals as goal

pub returns-then-b-cycle : goal.returns-then-b-cycle
returns-then-b-cycle c = let e = never_rests c.args.a c.args.b in grind (arith, nat_tests)
