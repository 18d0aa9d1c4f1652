use Rattle.std.proofs.Common.{◌≡◌, ◌+◌, true, [], Ok, sym, subst, arith}
use Rattle.grammar.specs.Passes.{rising_from, apart_from}
use Rattle.grammar.specs.Tasks.{rising}
use Rattle.grammar.proofs.Rises.{rising_some}
use Rattle.sheet.specs.Parts.{lines_of}
use Rattle.sheet.specs.Views.{told_by, listed_in}
use Rattle.sheet.proofs.Passed.{rises, sounds}
use Rattle.sheet.proofs.Ranges.{bodies_ranged}
use Rattle.sheet.proofs.sheet.read.read_passes.Goals as goal

pub invariant_of-sheet : goal.invariant_of-sheet
invariant_of-sheet c =
    let told = c.read_bodies.new.told in
    let levels : rising_from told.levels_heading 0 told.levels ≡ Ok tt =
    sym (subst (λ vs. Ok tt ≡ rising_from told.levels_heading 0 vs) c.entries.ensures.entries c.in_ok-check_levels.ensures) in
    let tasks : apart_from (told.tasks_heading + 1) [] told.tasks ≡ Ok tt =
    sym (subst (λ ts. Ok tt ≡ apart_from (told.tasks_heading + 1) [] ts) c.entries-2.ensures.entries c.in_ok-check_tasks.ensures) in
    let ranged = bodies_ranged (listed_in c.in_ok-contents.contents) (told_by told, lines_of c.in_ok-script.script) (sym c.in_ok-script.ensures) in
    let rise : rising 0 told.levels ≡ true = rises told.levels_heading 0 told.levels levels in
    record {
      level_some = rising_some told.levels rise;
      level_few = c.entries.ensures.few;
      level_order = rise;
      task_few = c.entries-2.ensures.few;
      task_sound = sounds (told.tasks_heading + 1) [] told.tasks ranged tasks;
      task_line = omega (arith, told.tasks_early);
    }
