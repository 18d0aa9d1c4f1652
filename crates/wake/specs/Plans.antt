-- What a wake plan means, and what its questions are answered.
use Rattle.std.specs.Prelude.{ℕ, Bool, cond, not, ◌&&◌, Some, None, Option, nat_le}
use Rattle.theory.specs.Sums.{between}
use Rattle.theory.specs.Loads.{Loads, Cycle}
use Rattle.theory.specs.Laws.{Law, always}
use Rattle.theory.specs.Lates.{edl}
use Rattle.theory.proofs.Awakes.{always_keeps_law}
use Rattle.theory.proofs.Lates.{late_keeps_law}
use Rattle.table.specs.Workloads.{loads_in, turn_of}
use Rattle.table.specs.declared.workload.Workload.{Workload}
use Rattle.table.proofs.Facts.{cycle_of_lem, fits_of}

-- works and periods with a cycle of them, and the awake ticks of the cycle, which keep the law
pub record Plan : Type 0 where
  pub loads : Loads
  pub cycle : ℕ
  pub awake : ℕ → Bool
  pub whole : Cycle loads cycle
  pub lawful : Law loads cycle awake

-- how many ticks from a up to but excluding b a plan rests in; absent when a > b or b passes the cycle
abbrev pub rest_ticks : ℕ → (ℕ → Bool) → ℕ → ℕ → Option ℕ
rest_ticks H awake a b = cond (nat_le a b && nat_le b H) (Some (between (λ t. not (awake t)) a b)) None

-- always awake, for works that fit their cycle
abbrev pub always_of : Workload → Plan
always_of w =
    record {
      loads = loads_in w;
      cycle = turn_of w;
      awake = always;
      whole = cycle_of_lem w;
      lawful = always_keeps_law (loads_in w) (turn_of w) (cycle_of_lem w) (fits_of w);
    }

-- awake as late as the works allow
abbrev pub late_of : Workload → Plan
late_of w =
    record {
      loads = loads_in w;
      cycle = turn_of w;
      awake = edl (loads_in w) (turn_of w);
      whole = cycle_of_lem w;
      lawful = (late_keeps_law (loads_in w) (turn_of w) (cycle_of_lem w) (fits_of w)).0;
    }
