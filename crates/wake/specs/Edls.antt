-- What an EDL plan in the caller's memory holds. Other crates do not see its fields and speak of it by these words.
use Rattle.std.specs.Prelude.{◌≡◌, ℕ, ◌<◌, ◌≤◌, List, length, slice_index}
use Rattle.theory.specs.Sums.{bit}
use Rattle.theory.specs.Lates.{edl}
use Rattle.table.specs.Workloads.{loads_in, turn_of}
use Rattle.table.specs.declared.workload.Workload.{Workload}
use Rattle.wake.specs.declared.edl.EdlPlan.{EdlPlan}

-- the works and periods that it is for
abbrev pub planned_of : EdlPlan → Workload
planned_of p = p.workload

-- all bytes of its memory
abbrev pub bytes_of : EdlPlan → List ℕ
bytes_of p = p.memory.now

-- whose memory it is: a caller that lent it knows it again by this
abbrev pub lent_of : EdlPlan → ℕ
lent_of p = p.memory.ghost_name

-- q is p with the plan of w laid: a byte for each tick of the cycle, and further bytes as they were
pub record Laid (p : EdlPlan) (w : Workload) (q : EdlPlan) : Type 0 where
  pub enough : turn_of w ≤ length (bytes_of p)
  pub planned : planned_of q ≡ w
  pub long : length (bytes_of q) ≡ length (bytes_of p)
  pub ticks : (t : ℕ) → t < turn_of w → slice_index (bytes_of q) t ≡ bit (edl (loads_in w) (turn_of w) t)
  pub further : (t : ℕ) → turn_of w ≤ t → slice_index (bytes_of q) t ≡ slice_index (bytes_of p) t
