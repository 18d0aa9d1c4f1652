-- A table from a sheet with its cycle and its base level: why what it holds is sound.
use Rattle.std.proofs.Common.{◌≡◌, ℕ, ◌<◌, ◌≤◌, List, length, sym, ap, ◌∙◌, arith}
use Rattle.std.proofs.lemmas.List.{length-map}
use Rattle.std.proofs.lemmas.Bool.{leb-true}
use Rattle.grammar.specs.declared.name.Name.{Name}
use Rattle.grammar.specs.declared.task.TaskLine.{TaskLine}
use Rattle.grammar.specs.declared.task.Power.{Power}
use Rattle.theory.specs.Loads.{Loads, size, work, period, load, Cycle}
use Rattle.table.specs.declared.level.Level.{Level}
use Rattle.table.specs.declared.tasks.TaskSet.{TaskSet}
use Rattle.table.specs.Cycles.{Least}
use Rattle.table.specs.Allowances.{allowance, allowed, fits_at, Lowest}
use Rattle.table.specs.Admissions.{Admitted, load_of, loads_of, names_of}
use Rattle.table.proofs.Leasts.{period-some, least-cycle}
use Rattle.table.proofs.Admissions.{size-allowed, work-allowed, period-allowed, cycle-allowed, load_at_most}

-- tables with the same parts are the same
pub same_table : {n n' : List Name} {w w' a a' : Loads} {v v' : List ℕ} {b b' h h' : ℕ} {p p' : Power} →
    n ≡ n' → w ≡ w' → a ≡ a' → v ≡ v' → b ≡ b' → h ≡ h' → p ≡ p' →
    ◌≡◌ {A = Admitted}
    (record { names = n; works = w; allowances = a; levels = v; base = b; cycle = h; power = p })
    (record { names = n'; works = w'; allowances = a'; levels = v'; base = b'; cycle = h'; power = p' })
same_table e1 e2 e3 e4 e5 e6 e7 = cc

-- a sheet has as many names as tasks
pub one_number : (ts : List TaskLine) {names : List Name} {T : Loads} → names ≡ names_of ts → T ≡ loads_of ts → length names ≡ size T
one_number ts e f =
    ap length e ∙ (length-map ts (λ t. t.name) ∙ (sym (length-map ts load_of) ∙ sym (ap length f)))

-- a task set with its least cycle, and with the lowest level at which it fits
module _ (set : TaskSet) {H : ℕ} (least : Least set.loads H) where
  pub works_whole : Cycle set.loads H
  works_whole = least-cycle set.loads H (period-some set.loads set.sound) least

  module _ (level : Level) {vs : List ℕ} (low : Lowest vs (fits_at set.loads H) level.percent) where
    pub allowances_whole : Cycle (allowed level.percent set.loads) H
    allowances_whole = cycle-allowed level.percent set.loads H works_whole

    pub allowances_fit : load (allowed level.percent set.loads) H ≤ H
    allowances_fit = leb-true (load (allowed level.percent set.loads) H) H low.enough

    pub works_fit : load set.loads H ≤ H
    works_fit =
        omega (arith, allowances_fit, load_at_most level.percent set.loads H level.some level.most)

-- works and allowances, place by place
module _ (b : ℕ) {T U V : Loads} (u : U ≡ T) (v : V ≡ allowed b T) where
  pub one_size : size V ≡ size U
  one_size = ap length v ∙ (size-allowed b T ∙ sym (ap length u))

  pub one-period : (i : ℕ) → i < size U → period V i ≡ period U i
  one-period i h =
      let l : i < size T = omega (arith, ap length u) in
      ap (λ x. period x i) v ∙ (period-allowed b T i l ∙ sym (ap (λ x. period x i) u))

  pub at_base : (i : ℕ) → i < size U → work V i ≡ allowance b (work U i)
  at_base i h =
      let l : i < size T = omega (arith, ap length u) in
      ap (λ x. work x i) v ∙ (work-allowed b T i l ∙ sym (ap (λ x. allowance b (work x i)) u))
