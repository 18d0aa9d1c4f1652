use Rattle.std.proofs.Common.{append_assoc}
use Rattle.console.proofs.text.Text.put_awake.Goals as goal

pub returns : goal.returns
returns g c =
    rw (c.in_ok-write.ensures, c.in_ok-put_spans.ensures, c.in_ok-put.ensures, c.as_slice.ensures.value, c.in_ok-marks.ensures, c.saturating_sub-awake.ensures, c.cycle.ensures, c.cycle_rests-rests.ensures)
    (simp append_assoc)
