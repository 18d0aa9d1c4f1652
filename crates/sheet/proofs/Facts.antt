-- What the ghost fields of a sheet come to, in the words of its content.
use Rattle.std.proofs.Common.{◌≡◌, ℕ, zero, suc, ◌-◌, ◌<◌, ◌≤◌, true, ◌&&◌, leb, List, [], ◌∷◌, length, get_or, arith}
use Rattle.std.proofs.lemmas.Bool.{and_parts, leb-true}
use Rattle.sheet.specs.declared.sheet.Sheet.{Sheet}
use Rattle.grammar.specs.declared.task.TaskLine.{TaskLine}
use Rattle.sheet.specs.Sheets.{content}
use Rattle.grammar.specs.Tasks.{no_task, sound, sound_all}
use Rattle.grammar.proofs.Rises.{each_above, each_within, later-above, ends_full}

-- what the numbers of a sound task are
abbrev pub Sound : TaskLine → Type 0
Sound t = (1 ≤ t.work) × (t.work ≤ t.period) × (t.period ≤ 30000)

sound-is : (t : TaskLine) → sound t ≡ true → Sound t
sound-is t e =
    let p = and_parts (leb 1 t.work) (leb t.work t.period && leb t.period 30000) e in
    let q = and_parts (leb t.work t.period) (leb t.period 30000) p.1 in
    (leb-true _ _ p.0, leb-true _ _ q.0, leb-true _ _ q.1)

each_sound : (ts : List TaskLine) → sound_all ts ≡ true → (i : ℕ) → i < length ts → Sound (get_or ts i no_task)
each_sound [] e i h = absurd (omega arith)
each_sound (t ∷ ts) e zero h = sound-is t (and_parts (sound t) (sound_all ts) e).0
each_sound (t ∷ ts) e (suc i) h = each_sound ts (and_parts (sound t) (sound_all ts) e).1 i (omega arith)

module _ (s : Sheet) where
  -- at most 16 tasks, each with work within its period, and no period above 30,000
  pub tasks-few : length (content s).tasks ≤ 16
  tasks-few = s.task_few

  pub task_sound_at : (i : ℕ) → i < length (content s).tasks → Sound (get_or (content s).tasks i no_task)
  task_sound_at i h = each_sound (content s).tasks s.task_sound i h

  -- 1 to 8 levels from 1 to 100, each above the one before, the last 100
  pub levels-some : 0 < length (content s).levels
  levels-some = s.level_some

  pub levels-few : length (content s).levels ≤ 8
  levels-few = s.level_few

  pub level_in_range : (i : ℕ) → i < length (content s).levels → (1 ≤ get_or (content s).levels i 0) × (get_or (content s).levels i 0 ≤ 100)
  level_in_range i h =
      (each_above 0 (content s).levels s.level_order i h, each_within 0 (content s).levels s.level_order i h)

  pub levels-rise : (i j : ℕ) → i < j → j < length (content s).levels → get_or (content s).levels i 0 < get_or (content s).levels j 0
  levels-rise i j l h = later-above 0 (content s).levels s.level_order i j l h

  pub last_level_full : get_or (content s).levels (length (content s).levels - 1) 0 ≡ 100
  last_level_full = ends_full 0 (content s).levels s.level_order (length (content s).levels - 1) (omega (arith, levels-some))

  -- the first task stands early in the file
  pub first_small : (content s).first ≤ 100
  first_small = s.task_line
