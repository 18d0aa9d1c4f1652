-- The rest ticks of a whole cycle are told.
use Rattle.std.proofs.Common.{◌≡◌, ℕ, Bool, unwrap_or, arith}
use Rattle.std.proofs.lemmas.Bool.{le-leb}
use Rattle.wake.specs.Plans.{rest_ticks}
use Rattle.console.specs.Pages.{rests_in}

pub whole_cycle : (H : ℕ) (awake : ℕ → Bool) → unwrap_or (rest_ticks H awake 0 H) 0 ≡ rests_in H awake
whole_cycle H awake = rw (le-leb 0 H (omega arith), le-leb H H (omega arith))
