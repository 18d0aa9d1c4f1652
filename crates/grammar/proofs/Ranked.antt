-- Levels that rise to 100, and tasks that have names of their own and no more work than their periods.
use Rattle.std.proofs.Common.{◌≡◌, ℕ, zero, suc, ◌+◌, ◌<◌, ◌≤◌, true, false, cond, ◌||◌, eqb, ltb, ◌≢◌, List, [], ◌∷◌, ◌++◌, length, get_or, Ok, Err, codes, Result, sym, refl, ap, ◌∙◌, subst, ⊎_elim, append_assoc, zero-add, arith, length-append}
use Rattle.std.specs.Str.{bytes_eq}
use Rattle.std.proofs.lemmas.Slice.Eq.{bytes_eq-Decides}
use Rattle.std.proofs.lemmas.List.{get_or_append_left, get_or_at}
use Rattle.std.proofs.lemmas.Bool.{both_ways, eqb-true, eqb-false, ltb-true, ltb-false, lt-ltb, or_cases, or_parts, cond-true}
use Rattle.basis.specs.declared.fault.Fault.{Fault}
use Rattle.grammar.specs.declared.task.TaskLine.{TaskLine}
use Rattle.grammar.specs.Grammar.{LevelRight, TaskRight, name_at}
use Rattle.grammar.specs.Names.{spelled}
use Rattle.grammar.specs.Passes.{bad_level, rising_from, is_named, is_barred, bad_task, apart_from}
use Rattle.grammar.specs.Tasks.{no_task}
use Rattle.grammar.proofs.Bound.{not_both}

-- of places that are right or wrong, what a check says of them: `at` is the line of the first, and `few` is how many there are
pub record Judged (Right : ℕ → Type 0) (bad : ℕ → Fault) (at few : ℕ) (r : Result (Unit {0}) Fault) : Type 0 where
  pub passes : r ≡ Ok tt → (k : ℕ) → k < few → Right k
  pub fails : (f : Fault) → r ≡ Err f → (k : ℕ) × (k < few) × (f ≡ bad (at + k)) × (Right k → ⊥) × ((j : ℕ) → j < k → Right j)

-- a check passes where all places are right
pub judged_right : (Right : ℕ → Type 0) (bad : ℕ → Fault) (at few : ℕ) (r : Result (Unit {0}) Fault) → Judged Right bad at few r
    → ((k : ℕ) → k < few → Right k) → r ≡ Ok tt
judged_right Right bad at few (Ok x) h all = refl
judged_right Right bad at few (Err f) h all = let k = h.fails f refl in absurd (k.3 (all k.0 k.1))

-- a check that ends at once
stops : (Right : ℕ → Type 0) (bad : ℕ → Fault) (at few k : ℕ) → k < few → (Right k → ⊥) → ((j : ℕ) → j < k → Right j) → Judged Right bad at few (Err (bad (at + k)))
stops Right bad at few k h wrong before =
    record { passes = λ e. absurd (not_both e); fails = λ f e. (k, h, (let q : bad (at + k) ≡ f = cc in sym q), wrong, before) }

-- ## Levels

level_later : (u v : ℕ) (vs : List ℕ) (k : ℕ) → u < v → LevelRight (v ∷ vs) k → LevelRight (u ∷ (v ∷ vs)) (suc k)
level_later u v vs k h r = record { above = above; full = λ e. r.full (omega arith) }
  where
    above : (j : ℕ) → suc j ≡ suc k → get_or (u ∷ (v ∷ vs)) j 0 < get_or (v ∷ vs) k 0
    above zero e = let n : 0 ≡ k = omega arith in subst (λ k. u < get_or (v ∷ vs) k 0) n h
    above (suc j) e = r.above j (omega arith)

level_back : (u v : ℕ) (vs : List ℕ) (k : ℕ) → LevelRight (u ∷ (v ∷ vs)) (suc k) → LevelRight (v ∷ vs) k
level_back u v vs k r = record { above = λ j e. r.above (suc j) (omega arith); full = λ e. r.full (omega arith) }

level_first : (u v : ℕ) (vs : List ℕ) → LevelRight (u ∷ (v ∷ vs)) 0
level_first u v vs = record { above = λ j e. absurd (omega arith); full = λ e. absurd (omega arith) }

-- the check of the levels after the first
rest_judged : (at u : ℕ) (vs : List ℕ) → Judged (LevelRight (u ∷ vs)) bad_level at (suc (length vs)) (rising_from at u vs)
rest_judged at u [] =
    elim (eqb u 100) as (λ t. eqb u 100 ≡ t → Judged (LevelRight (u ∷ [])) bad_level at 1 (cond t (Ok tt) (Err (bad_level at)))) [
      | true ↦ λ e. record { passes = λ _ k h. only k h (eqb-true u 100 e); fails = λ f q. absurd (not_both (sym q)) }
      | false ↦ λ e.
          let n : at + 0 ≡ at = omega arith in
          subst (λ n. Judged (LevelRight (u ∷ [])) bad_level at 1 (Err (bad_level n))) n
          (stops (LevelRight (u ∷ [])) bad_level at 1 0 (omega arith) (λ r. eqb-false u 100 e (r.full refl)) (λ j h. absurd (omega arith)))
    ] refl
  where
    only : (k : ℕ) → k < 1 → u ≡ 100 → LevelRight (u ∷ []) k
    only zero h e = record { above = λ j q. absurd (omega arith); full = λ _. e }
    only (suc k) h e = absurd (omega arith)
rest_judged at u (v ∷ vs) =
    elim (ltb u v) as (λ t. ltb u v ≡ t → Judged (LevelRight (u ∷ (v ∷ vs))) bad_level at (suc (suc (length vs))) (cond t (rising_from (at + 1) v vs) (Err (bad_level (at + 1))))) [
      | true ↦ λ e.
          let more = rest_judged (at + 1) v vs in
          let up : u < v = ltb-true u v e in
          record {
            passes = λ q k h. rights up (more.passes q) k h;
            fails = λ f q.
                let w = more.fails f q in
                let n : at + 1 + w.0 ≡ at + suc w.0 = omega arith in
                (suc w.0, omega (arith, w.1), w.2 ∙ ap bad_level n, (λ r. w.3 (level_back u v vs w.0 r)), before up w.0 w.4);
          }
      | false ↦ λ e.
          stops (LevelRight (u ∷ (v ∷ vs))) bad_level at (suc (suc (length vs))) 1 (omega arith)
          (λ r. let no : v ≤ u = ltb-false u v e in omega (arith, r.above 0 refl)) (λ j h. first j h)
    ] refl
  where
    first : (j : ℕ) → j < 1 → LevelRight (u ∷ (v ∷ vs)) j
    first zero h = level_first u v vs
    first (suc j) h = absurd (omega arith)

    before : u < v → (k : ℕ) → ((j : ℕ) → j < k → LevelRight (v ∷ vs) j) → (j : ℕ) → j < suc k → LevelRight (u ∷ (v ∷ vs)) j
    before up k h zero q = level_first u v vs
    before up k h (suc j) q = level_later u v vs j up (h j (omega arith))

    rights : u < v → ((k : ℕ) → k < suc (length vs) → LevelRight (v ∷ vs) k) → (k : ℕ) → k < suc (suc (length vs)) → LevelRight (u ∷ (v ∷ vs)) k
    rights up h = before up (suc (length vs)) h

-- the check of all levels, of which the heading is line `heading`
pub levels_judged : (heading : ℕ) (vs : List ℕ) → 1 ≤ length vs → 1 ≤ get_or vs 0 0 → Judged (LevelRight vs) bad_level (heading + 1) (length vs) (rising_from heading 0 vs)
levels_judged heading [] some least = absurd (omega arith)
levels_judged heading (u ∷ vs) some least =
    subst (Judged (LevelRight (u ∷ vs)) bad_level (heading + 1) (suc (length vs)))
    (sym (cond-true (ltb 0 u) (rising_from (heading + 1) u vs) (Err (bad_level (heading + 1))) (lt-ltb 0 u least)))
    (rest_judged (heading + 1) u vs)

-- ## Tasks

-- a task has this name exactly when the test says so
named_there : (name : List ℕ) (ts : List TaskLine) → is_named name ts ≡ true → (j : ℕ) × (j < length ts) × (name_at ts j ≡ name)
named_there name [] h = absurd (both_ways false refl h)
named_there name (t ∷ ts) h =
    ⊎_elim (λ (e : bytes_eq (spelled t.name) name ≡ true). (0, omega arith, (bytes_eq-Decides (spelled t.name) name).0 e))
    (λ (e : is_named name ts ≡ true). let k = named_there name ts e in (suc k.0, omega (arith, k.1), k.2))
    (or_cases _ _ h)

not_named : (name : List ℕ) (ts : List TaskLine) → is_named name ts ≡ false → (j : ℕ) → j < length ts → name_at ts j ≢ name
not_named name [] h j few e = omega arith
not_named name (t ∷ ts) h zero few e = both_ways _ (or_parts _ _ h).0 ((bytes_eq-Decides (spelled t.name) name).1 e)
not_named name (t ∷ ts) h (suc j) few e = not_named name ts (or_parts _ _ h).1 j (omega arith) e

module _ (earlier : List TaskLine) (t : TaskLine) (ts : List TaskLine) where
  abbrev all : List TaskLine
  all = earlier ++ t ∷ ts

  here : get_or all (length earlier) no_task ≡ t
  here = get_or_at earlier t ts no_task (length earlier) refl

  before_here : (j : ℕ) → j < length earlier → name_at all j ≡ name_at earlier j
  before_here j h = ap (λ (t : TaskLine). spelled t.name) (get_or_append_left earlier (t ∷ ts) no_task j h)

  -- a task that is not barred is right
  task_right : is_barred t earlier ≡ false → TaskRight all (length earlier)
  task_right h =
      let p = or_parts _ _ h in
      let q = or_parts _ _ p.1 in
      let name : name_at all (length earlier) ≡ spelled t.name = ap (λ (t : TaskLine). spelled t.name) here in
      record {
        own = λ j few e. not_named (spelled t.name) earlier p.0 j few (sym (before_here j few) ∙ e ∙ name);
        other = λ e. both_ways _ q.0 ((bytes_eq-Decides (spelled t.name) (codes "rest")).1 (sym name ∙ e));
        fits = subst (λ (t : TaskLine). t.work ≤ t.period) (sym here) (ltb-false t.period t.work q.1);
      }

  -- one that is barred is not
  task_wrong : is_barred t earlier ≡ true → TaskRight all (length earlier) → ⊥
  task_wrong h r =
      let name : name_at all (length earlier) ≡ spelled t.name = ap (λ (t : TaskLine). spelled t.name) here in
      ⊎_elim (λ (e : is_named (spelled t.name) earlier ≡ true).
      let k = named_there (spelled t.name) earlier e in
      r.own k.0 k.1 (before_here k.0 k.1 ∙ k.2 ∙ sym name))
      (λ (o : (bytes_eq (spelled t.name) (codes "rest") || ltb t.period t.work) ≡ true).
      ⊎_elim (λ (e : bytes_eq (spelled t.name) (codes "rest") ≡ true). r.other (name ∙ (bytes_eq-Decides (spelled t.name) (codes "rest")).0 e))
      (λ (e : ltb t.period t.work ≡ true).
      let few : t.work ≤ t.period = subst (λ (t : TaskLine). t.work ≤ t.period) here r.fits in
      omega (arith, ltb-true t.period t.work e))
      (or_cases _ _ o))
      (or_cases _ _ h)

-- the check of the tasks after some
later_judged : (at : ℕ) (earlier ts : List TaskLine) → Judged (λ k. TaskRight (earlier ++ ts) (length earlier + k)) bad_task at (length ts) (apart_from at earlier ts)
later_judged at earlier [] = record { passes = λ _ k h. absurd (omega arith); fails = λ f e. absurd (not_both (sym e)) }
later_judged at earlier (t ∷ ts) =
    elim (is_barred t earlier) as (λ v. is_barred t earlier ≡ v
    → Judged (λ k. TaskRight (earlier ++ t ∷ ts) (length earlier + k)) bad_task at (suc (length ts)) (cond v (Err (bad_task at)) (apart_from (at + 1) (earlier ++ t ∷ []) ts))) [
      | true ↦ λ e.
          let n : at + 0 ≡ at = omega arith in
          let m : length earlier + 0 ≡ length earlier = omega arith in
          subst (λ n. Judged (λ k. TaskRight (earlier ++ t ∷ ts) (length earlier + k)) bad_task at (suc (length ts)) (Err (bad_task n))) n
          (stops (λ k. TaskRight (earlier ++ t ∷ ts) (length earlier + k)) bad_task at (suc (length ts)) 0 (omega arith)
          (λ r. task_wrong earlier t ts e (subst (TaskRight (earlier ++ t ∷ ts)) m r)) (λ j h. absurd (omega arith)))
      | false ↦ λ e.
          let more = later_judged (at + 1) (earlier ++ t ∷ []) ts in
          record {
            passes = λ q k h. rights e (length ts) (more.passes q) k h;
            fails = λ f q.
                let w = more.fails f q in
                let n : at + 1 + w.0 ≡ at + suc w.0 = omega arith in
                (suc w.0, omega (arith, w.1), w.2 ∙ ap bad_task n, (λ r. w.3 ((moved w.0).1 r)), rights e w.0 w.4);
          }
    ] refl
  where
    -- a place seen from the tasks after the first
    moved : (k : ℕ) → (TaskRight ((earlier ++ t ∷ []) ++ ts) (length (earlier ++ t ∷ []) + k) → TaskRight (earlier ++ t ∷ ts) (length earlier + suc k))
        × (TaskRight (earlier ++ t ∷ ts) (length earlier + suc k) → TaskRight ((earlier ++ t ∷ []) ++ ts) (length (earlier ++ t ∷ []) + k))
    moved k =
        let list : (earlier ++ t ∷ []) ++ ts ≡ earlier ++ t ∷ ts = append_assoc earlier (t ∷ []) ts in
        let place : length (earlier ++ t ∷ []) + k ≡ length earlier + suc k = omega (arith, length-append earlier (t ∷ [])) in (
          (λ r. subst (TaskRight (earlier ++ t ∷ ts)) place (subst (λ (ts : List TaskLine). TaskRight ts (length (earlier ++ t ∷ []) + k)) list r)),
          (λ r. subst (λ (x : List TaskLine). TaskRight x (length (earlier ++ t ∷ []) + k)) (sym list) (subst (TaskRight (earlier ++ t ∷ ts)) (sym place) r)),
        )

    rights : is_barred t earlier ≡ false → (few : ℕ) → ((j : ℕ) → j < few → TaskRight ((earlier ++ t ∷ []) ++ ts) (length (earlier ++ t ∷ []) + j))
        → (k : ℕ) → k < suc few → TaskRight (earlier ++ t ∷ ts) (length earlier + k)
    rights e few h zero q = let m : length earlier ≡ length earlier + 0 = omega arith in subst (TaskRight (earlier ++ t ∷ ts)) m (task_right earlier t ts e)
    rights e few h (suc k) q = (moved k).0 (h k (omega arith))

-- the check of all tasks, of which the first is line `at`
pub tasks_judged : (at : ℕ) (ts : List TaskLine) → Judged (TaskRight ts) bad_task at (length ts) (apart_from at [] ts)
tasks_judged at ts =
    let more = later_judged at [] ts in
    record {
      passes = λ e k h. subst (TaskRight ts) (zero-add k) (more.passes e k h);
      fails = λ f e.
          let w = more.fails f e in
          (w.0, w.1, w.2, (λ r. w.3 (subst (TaskRight ts) (sym (zero-add w.0)) r)), λ j h. subst (TaskRight ts) (zero-add j) (w.4 j h));
    }
