use native.Mathlib.Nat.{pos_of_dvd_of_pos}
use Rattle.table.proofs.Commons.{lcm_of}
use Rattle.table.proofs.common.lcm.Goals as goal

pub nonzero_div-result : goal.nonzero_div-result
nonzero_div-result c = pos_of_dvd_of_pos c.gcd-g.ensures.left c.requires.some.0

pub returns : goal.returns
returns c = lcm_of c.args.a c.args.b c.gcd-g.result c.requires.some.0 c.gcd-g.ensures
