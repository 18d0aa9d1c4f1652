use Rattle.std.proofs.Common.{append_assoc}
use Rattle.console.specs.Pages.{awake_text}
use Rattle.console.proofs.text.Text.put_boards.Goals as goal

pub returns : goal.returns
unfolding awake_text
returns c =
    rw (c.in_ok-put_firsts.ensures, c.in_ok-put_awake.ensures, c.late_plan-plan.ensures, c.works-works.ensures.loads, c.works-works.ensures.cycle)
    (simp append_assoc)
