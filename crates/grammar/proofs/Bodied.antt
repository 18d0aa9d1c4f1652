-- The bodies, as a pass over lines and in their own words.
use Rattle.std.proofs.Common.{◌≡◌, ℕ, zero, suc, ◌+◌, ◌<◌, ◌≤◌, ◌≢◌, List, [], ◌∷◌, ◌++◌, length, replicate, Some, Ok, Err, Option, Result, sym, refl, ap, ◌∙◌, subst, ⊎_elim, append_assoc, append-nil, arith}
use Rattle.std.specs.List.{slice_get}
use Rattle.basis.specs.declared.fault.Fault.{Fault}
use Rattle.grammar.specs.declared.section.Entry.{Entry}
use Rattle.grammar.specs.declared.section.Section.{Section}
use Rattle.grammar.specs.declared.section.Section.TheVariants.{Levels, Power, Tasks}
use Rattle.grammar.specs.declared.task.Power.{Power as PowerLine}
use Rattle.grammar.specs.declared.task.TaskLine.{TaskLine}
use Rattle.grammar.specs.Bodies.{items_from, Body, body_lines, Told, section_from, body_of}
use Rattle.grammar.specs.Contents.{heading_of, most_lines, fixed_line_of}
use Rattle.grammar.specs.Fields.{bad_line, level_of, power_of, task_of}
use Rattle.grammar.specs.Grammar.{Pairs, IsLevel, IsPower, IsTask, Says, Tells}
use Rattle.grammar.specs.Refusals.{Form, heading, item, layout, OfForm, NotOfForm}
use Rattle.grammar.specs.Sheets.{Content}
use Rattle.grammar.specs.Texts.{Lines, first_of}
use Rattle.grammar.proofs.Bound.{not_both, bind_ok, bind_then, bind_err, bind-last}
use Rattle.grammar.proofs.Fronts.{fixed_ok, fixed_there, fixed_err, first_ok, first_err}
use Rattle.grammar.proofs.Worded.{level_sound, level_complete, level_fault, power-sound, power_complete, power-fault, task_sound, task_complete, task_fault}

-- ## Lines that have to be of some forms

-- the first that is not, of which the first is line `at` of the file
abbrev pub FirstNot : List Form → Lines → ℕ → Fault → Type 0
FirstNot forms ls at f = (i : ℕ) × (f ≡ bad_line (at + i)) × NotOfForm forms ls i × ((j : ℕ) → j < i → NotOfForm forms ls j → ⊥)

-- the very first line
not_first : (x : Form) (forms : List Form) (ls : Lines) (at : ℕ) (f : Fault) → f ≡ bad_line at → ((l : List ℕ) → slice_get ls 0 ≡ Some l → OfForm x l → ⊥) → FirstNot (x ∷ forms) ls at f
not_first x forms ls at f e none =
    let n : at ≡ at + 0 = omega arith in
    (0, e ∙ ap bad_line n, (x, refl, none), λ j k _. omega arith)

-- a line in front that is of its form
not_later : (x : Form) (forms : List Form) (l : List ℕ) (ls : Lines) (at : ℕ) (f : Fault) → OfForm x l → FirstNot forms ls (at + 1) f → FirstNot (x ∷ forms) (l ∷ ls) at f
not_later x forms l ls at f is h =
    let n : at + 1 + h.0 ≡ at + suc h.0 = omega arith in
    (suc h.0, h.1 ∙ ap bad_line n, h.2, before)
  where
    before : (j : ℕ) → j < suc h.0 → NotOfForm (x ∷ forms) (l ∷ ls) j → ⊥
    before zero k w = let same : x ≡ w.0 = (let q = w.1 in cc) in w.2 l refl (subst (λ (x : Form). OfForm x l) same is)
    before (suc j) k w = h.3 j (omega arith) w

-- ## Items

-- what a line reads to, as a pass and in its own words
pub record Reads (T : Type 0) : Type 1 where
  pub of : ℕ → List ℕ → Result T Fault
  pub Is : List ℕ → T → Type 0
  pub sound : (at : ℕ) (l : List ℕ) (x : T) → of at l ≡ Ok x → Is l x
  pub complete : (at : ℕ) (l : List ℕ) (x : T) → Is l x → of at l ≡ Ok x
  pub fault : (at : ℕ) (l : List ℕ) (g : Fault) → of at l ≡ Err g → g ≡ bad_line at

abbrev pub level_reads : Reads ℕ
level_reads = record { of = level_of; Is = IsLevel; sound = level_sound; complete = level_complete; fault = level_fault }

abbrev pub power_reads : Reads PowerLine
power_reads = record { of = power_of; Is = IsPower; sound = power-sound; complete = power_complete; fault = power-fault }

abbrev pub task_reads : Reads TaskLine
task_reads = record { of = task_of; Is = IsTask; sound = task_sound; complete = task_complete; fault = task_fault }

module _ {T : Type 0} (r : Reads T) where
  -- a line says one thing
  is-once : (l : List ℕ) (x y : T) → r.Is l x → r.Is l y → x ≡ y
  is-once l x y h k = let p = r.complete 0 l x h in let q = r.complete 0 l y k in cc

  pub pairs_once : (ls : Lines) (xs ys : List T) → Pairs r.Is ls xs → Pairs r.Is ls ys → xs ≡ ys
  pairs_once [] [] [] h k = refl
  pairs_once [] [] (y ∷ ys) h k = absurd k
  pairs_once [] (x ∷ xs) ys h k = absurd h
  pairs_once (l ∷ ls) [] ys h k = absurd h
  pairs_once (l ∷ ls) (x ∷ xs) [] h k = absurd k
  pairs_once (l ∷ ls) (x ∷ xs) (y ∷ ys) h k =
      let p : x ≡ y = is-once l x y h.0 k.0 in
      let q : xs ≡ ys = pairs_once ls xs ys h.1 k.1 in
      cc

  -- lines that pass say the items
  pub items_ok : (at count : ℕ) (got : List T) (ls : Lines) (x : List T × Lines) → items_from r.of at count got ls ≡ Ok x
      → (front : Lines) × (items : List T) × (ls ≡ front ++ x.1) × (x.0 ≡ got ++ items) × Pairs r.Is front items × (length front ≡ count)
  items_ok at zero got ls x h =
      let same : (got, ls) ≡ x = cc in
      ([], [], ap (λ (y : List T × Lines). y.1) same, sym (ap (λ (y : List T × Lines). y.0) same) ∙ sym (append-nil got), tt, refl)
  items_ok at (suc count) got ls x h =
      let k = bind_ok (first_of (bad_line at) (r.of at) ls) (λ y. items_from r.of (at + 1) count (got ++ y.0 ∷ []) y.1) x h in
      let l = first_ok (bad_line at) (r.of at) ls k.0 k.1 in
      let more = items_ok (at + 1) count (got ++ k.0.0 ∷ []) k.0.1 x k.2 in (
        l.0 ∷ more.0,
        k.0.0 ∷ more.1,
        l.1 ∙ ap (λ (ls : Lines). l.0 ∷ ls) more.2,
        more.3 ∙ append_assoc got (k.0.0 ∷ []) more.1,
        (r.sound at l.0 k.0.0 l.2, more.4),
        ap suc more.5,
      )

  -- lines that say items pass
  pub items_there : (at : ℕ) (got : List T) (front : Lines) (items : List T) (rest : Lines) → Pairs r.Is front items
      → items_from r.of at (length front) got (front ++ rest) ≡ Ok (got ++ items, rest)
  items_there at got [] [] rest h = ap (λ (got : List T). Ok (got, rest)) (sym (append-nil got))
  items_there at got [] (x ∷ items) rest h = absurd h
  items_there at got (l ∷ front) [] rest h = absurd h
  items_there at got (l ∷ front) (x ∷ items) rest h =
      bind_then (first_of (bad_line at) (r.of at) (l ∷ (front ++ rest))) (λ y. items_from r.of (at + 1) (length front) (got ++ y.0 ∷ []) y.1) (x, front ++ rest)
      (Ok (got ++ (x ∷ items), rest))
      (bind_then (r.of at l) (λ y. Ok (y, front ++ rest)) x (Ok (x, front ++ rest)) (r.complete at l x h.0) refl)
      (items_there (at + 1) (got ++ x ∷ []) front items rest h.1 ∙ ap (λ (got : List T). Ok (got, rest)) (append_assoc got (x ∷ []) items))

  module _ (s : Section) (forward : (l : List ℕ) (x : T) → r.Is l x → OfForm (item s) l) (back : (l : List ℕ) → OfForm (item s) l → (x : T) × r.Is l x) where
    -- the first line that does not pass
    pub items_not : (at count : ℕ) (got : List T) (ls : Lines) (more : List Form) (f : Fault) → items_from r.of at count got ls ≡ Err f
        → FirstNot (replicate count (item s) ++ more) ls at f
    items_not at zero got ls more f h = absurd (not_both (sym h))
    items_not at (suc count) got ls more f h =
        ⊎_elim (λ (k : first_of (bad_line at) (r.of at) ls ≡ Err f).
        let w = first_err (bad_line at) f (r.of at) ls (r.fault at) k in
        not_first (item s) (replicate count (item s) ++ more) ls at f w.0
        (λ l is form. let x = back l form in w.1 l x.0 is (r.complete at l x.0 x.1)))
        (λ (k : (y : T × Lines) × (first_of (bad_line at) (r.of at) ls ≡ Ok y) × (items_from r.of (at + 1) count (got ++ y.0 ∷ []) y.1 ≡ Err f)).
        let l = first_ok (bad_line at) (r.of at) ls k.0 k.1 in
        subst (λ (ls : Lines). FirstNot (item s ∷ (replicate count (item s) ++ more)) ls at f) (sym l.1)
        (not_later (item s) (replicate count (item s) ++ more) l.0 k.0.1 at f (forward l.0 k.0.0 (r.sound at l.0 k.0.0 l.2))
        (items_not (at + 1) count (got ++ k.0.0 ∷ []) k.0.1 more f k.2)))
        (bind_err (first_of (bad_line at) (r.of at) ls) (λ y. items_from r.of (at + 1) count (got ++ y.0 ∷ []) y.1) f h)

    -- of lines that say items, none is not of its form
    pub items_right : (front : Lines) (items : List T) (more : List Form) (rest : Lines) → Pairs r.Is front items
        → ((k : ℕ) → NotOfForm more rest k → ⊥) → (k : ℕ) → NotOfForm (replicate (length front) (item s) ++ more) (front ++ rest) k → ⊥
    items_right [] [] more rest h after k w = after k w
    items_right [] (x ∷ items) more rest h after k w = absurd h
    items_right (l ∷ front) [] more rest h after k w = absurd h
    items_right (l ∷ front) (x ∷ items) more rest h after zero w =
        let same : item s ≡ w.0 = (let q = w.1 in cc) in
        w.2 l refl (subst (λ (x : Form). OfForm x l) same (forward l x h.0))
    items_right (l ∷ front) (x ∷ items) more rest h after (suc k) w = items_right front items more rest h.1 after k w

    -- nor is the first after them
    pub items_past : (front : Lines) (items : List T) (more : List Form) (rest : Lines) (at : ℕ) (f : Fault) → Pairs r.Is front items
        → FirstNot more rest (at + length front) f → FirstNot (replicate (length front) (item s) ++ more) (front ++ rest) at f
    items_past [] [] more rest at f h after = let n : at + 0 ≡ at = omega arith in subst (λ at. FirstNot more rest at f) n after
    items_past [] (x ∷ items) more rest at f h after = absurd h
    items_past (l ∷ front) [] more rest at f h after = absurd h
    items_past (l ∷ front) (x ∷ items) more rest at f h after =
        let n : at + suc (length front) ≡ at + 1 + length front = omega arith in
        not_later (item s) (replicate (length front) (item s) ++ more) l (front ++ rest) at f (forward l x h.0)
        (items_past front items more rest (at + 1) f h.1 (subst (λ at. FirstNot more rest at f) n after))

    -- the lines of a body that do not pass
    pub lines_not : (at count : ℕ) (ls : Lines) (more : List Form) (f : Fault) → body_lines r.of at count ls ≡ Err f
        → FirstNot (replicate count (item s) ++ more) ls (at + 1) f
    lines_not at count ls more f h =
        items_not (at + 1) count [] ls more f
        (bind-last (items_from r.of (at + 1) count [] ls) (λ (x : List T × Lines). (record { items = x.0; heading = at }, x.1)) f h)

  -- the lines of a body
  pub lines_ok : (at count : ℕ) (ls : Lines) (y : Body T × Lines) → body_lines r.of at count ls ≡ Ok y
      → (body : Lines) × (ls ≡ body ++ y.1) × (length body ≡ count) × Pairs r.Is body y.0.items × (y.0.heading ≡ at)
  lines_ok at count ls y h =
      let k = bind_ok (items_from r.of (at + 1) count [] ls) (λ x. Ok (record { items = x.0; heading = at }, x.1)) y h in
      let p = items_ok (at + 1) count [] ls k.0 k.1 in
      let same : (record { items = k.0.0; heading = at }, k.0.1) ≡ y = (let q = k.2 in cc) in
      subst (λ (y : Body T × Lines). (body : Lines) × (ls ≡ body ++ y.1) × (length body ≡ count) × Pairs r.Is body y.0.items × (y.0.heading ≡ at)) same
      (p.0, p.2, p.5, subst (λ (xs : List T). Pairs r.Is p.0 xs) (sym p.3) p.4, refl)

  pub lines_there : (at : ℕ) (body : Lines) (items : List T) (rest : Lines) → Pairs r.Is body items
      → body_lines r.of at (length body) (body ++ rest) ≡ Ok (record { items = items; heading = at }, rest)
  lines_there at body items rest h =
      bind_then (items_from r.of (at + 1) (length body) [] (body ++ rest)) (λ x. Ok (record { items = x.0; heading = at }, x.1)) (items, rest) _
      (items_there (at + 1) [] body items rest h) refl

-- ## Sections

-- what a body says of its section, of which the heading is line `at`
abbrev pub Has : Section → Told → Lines → ℕ → Type 0
Has Levels told body at = Pairs IsLevel body told.levels.items × (told.levels.heading ≡ at)
Has Power told body at = Pairs IsPower body (told.power ∷ []) × Unit {0}
Has Tasks told body at = Pairs IsTask body told.tasks.items × (told.tasks.heading ≡ at)

-- the same is told of a section
abbrev pub Same : Section → Told → Told → Type 0
Same Levels a b = a.levels ≡ b.levels
Same Power a b = a.power ≡ b.power
Same Tasks a b = a.tasks ≡ b.tasks

pub has_same : (s : Section) (a b : Told) (body : Lines) (at : ℕ) → Same s a b → Has s a body at → Has s b body at
has_same Levels a b body at e h = subst (λ (x : Body ℕ). Pairs IsLevel body x.items × (x.heading ≡ at)) e h
has_same Power a b body at e h = subst (λ (x : PowerLine). Pairs IsPower body (x ∷ []) × Unit {0}) e h
has_same Tasks a b body at e h = subst (λ (x : Body TaskLine). Pairs IsTask body x.items × (x.heading ≡ at)) e h

-- what is told after a body more of the levels, the power figures or the tasks
abbrev with_levels : Told → Body ℕ × Lines → Told × Lines
with_levels told y = (record { levels = y.0; power = told.power; tasks = told.tasks }, y.1)

abbrev with_power : Told → PowerLine × Lines → Told × Lines
with_power told y = (record { levels = told.levels; power = y.0; tasks = told.tasks }, y.1)

abbrev with_tasks : Told → Body TaskLine × Lines → Told × Lines
with_tasks told y = (record { levels = told.levels; power = told.power; tasks = y.0 }, y.1)

-- a section that passes has its body told, and what is told of the others stays
abbrev Read : Section → ℕ → ℕ → Told → Lines → Told × Lines → Type 0
Read s at count told ls x =
    (body : Lines) × (ls ≡ body ++ x.1) × (length body ≡ count) × Has s x.0 body at × ((t : Section) → t ≢ s → Same t told x.0)

keeps_levels : (told : Told) (y : Body ℕ × Lines) (t : Section) → t ≢ Levels → Same t told (with_levels told y).0
keeps_levels told y Levels other = absurd (other refl)
keeps_levels told y Power other = refl
keeps_levels told y Tasks other = refl

keeps_power : (told : Told) (y : PowerLine × Lines) (t : Section) → t ≢ Power → Same t told (with_power told y).0
keeps_power told y Levels other = refl
keeps_power told y Power other = absurd (other refl)
keeps_power told y Tasks other = refl

keeps_tasks : (told : Told) (y : Body TaskLine × Lines) (t : Section) → t ≢ Tasks → Same t told (with_tasks told y).0
keeps_tasks told y Levels other = refl
keeps_tasks told y Power other = refl
keeps_tasks told y Tasks other = absurd (other refl)

section_ok : (s : Section) (at count : ℕ) (told : Told) (ls : Lines) (x : Told × Lines) → 1 ≤ count → count ≤ most_lines s
    → section_from s at count told ls ≡ Ok x → Read s at count told ls x
section_ok Levels at count told ls x few most h =
    let k = bind_ok (body_lines level_of at count ls) (λ y. Ok (with_levels told y)) x h in
    let p = lines_ok level_reads at count ls k.0 k.1 in
    let same : with_levels told k.0 ≡ x = (let q = k.2 in cc) in
    subst (Read Levels at count told ls) same (p.0, p.1, p.2, (p.3, p.4), keeps_levels told k.0)
section_ok Power at count told ls x few most h =
    let k = bind_ok (first_of (bad_line (at + 1)) (power_of (at + 1)) ls) (λ y. Ok (with_power told y)) x h in
    let l = first_ok (bad_line (at + 1)) (power_of (at + 1)) ls k.0 k.1 in
    let same : with_power told k.0 ≡ x = (let q = k.2 in cc) in
    subst (Read Power at count told ls) same
    (l.0 ∷ [], l.1, omega arith, ((power-sound (at + 1) l.0 k.0.0 l.2, tt), tt), keeps_power told k.0)
section_ok Tasks at count told ls x few most h =
    let k = bind_ok (body_lines task_of at count ls) (λ y. Ok (with_tasks told y)) x h in
    let p = lines_ok task_reads at count ls k.0 k.1 in
    let same : with_tasks told k.0 ≡ x = (let q = k.2 in cc) in
    subst (Read Tasks at count told ls) same (p.0, p.1, p.2, (p.3, p.4), keeps_tasks told k.0)

-- a body that says what the sheet holds passes
section_there : (s : Section) (at : ℕ) (told : Told) (c : Content) (body rest : Lines) → Says c s body
    → (x : Told) × (section_from s at (length body) told (body ++ rest) ≡ Ok (x, rest))
section_there Levels at told c body rest h =
    (_, bind_then (body_lines level_of at (length body) (body ++ rest)) (λ y. Ok (with_levels told y)) _ _ (lines_there level_reads at body c.levels rest h) refl)
section_there Power at told c [] rest h = absurd h
section_there Power at told c (l ∷ []) rest h = (
  _,
  bind_then (first_of (bad_line (at + 1)) (power_of (at + 1)) (l ∷ rest)) (λ y. Ok (with_power told y)) (c.power, rest) _
      (bind_then (power_of (at + 1) l) _ c.power _ (power_complete (at + 1) l c.power h.0) refl) refl,
)
section_there Power at told c (l ∷ m ∷ body) rest h = absurd h.1
section_there Tasks at told c body rest h =
    (_, bind_then (body_lines task_of at (length body) (body ++ rest)) (λ y. Ok (with_tasks told y)) _ _ (lines_there task_reads at body c.tasks rest h) refl)

-- a section that does not pass has a first line that is not of its form
section_not : (s : Section) (at count : ℕ) (told : Told) (ls : Lines) (more : List Form) (f : Fault) → 1 ≤ count → count ≤ most_lines s
    → section_from s at count told ls ≡ Err f → FirstNot (replicate count (item s) ++ more) ls (at + 1) f
section_not Levels at count told ls more f few most h =
    lines_not level_reads Levels (λ l x is. (x, is)) (λ l form. form) at count ls more f (bind-last (body_lines level_of at count ls) (with_levels told) f h)
section_not Power at count told ls more f few most h =
    let one : count ≡ 1 = omega arith in
    let k = bind-last (first_of (bad_line (at + 1)) (power_of (at + 1)) ls) (with_power told) f h in
    let w = first_err (bad_line (at + 1)) f (power_of (at + 1)) ls (power-fault (at + 1)) k in
    subst (λ n. FirstNot (replicate n (item Power) ++ more) ls (at + 1) f) (sym one)
    (not_first (item Power) more ls (at + 1) f w.0 (λ l is form. w.1 l form.0 is (power_complete (at + 1) l form.0 form.1)))
section_not Tasks at count told ls more f few most h =
    lines_not task_reads Tasks (λ l x is. (x, is)) (λ l form. form) at count ls more f (bind-last (body_lines task_of at count ls) (with_tasks told) f h)

-- of a body that is told, no line is not of its form; and the first that is not is after it
section_right : (s : Section) (at : ℕ) (told : Told) (body : Lines) (more : List Form) (rest : Lines) → Has s told body at
    → ((k : ℕ) → NotOfForm more rest k → ⊥) → (k : ℕ) → NotOfForm (replicate (length body) (item s) ++ more) (body ++ rest) k → ⊥
section_right Levels at told body more rest h = items_right level_reads Levels (λ l x is. (x, is)) (λ l form. form) body told.levels.items more rest h.0
section_right Power at told body more rest h = items_right power_reads Power (λ l x is. (x, is)) (λ l form. form) body (told.power ∷ []) more rest h.0
section_right Tasks at told body more rest h = items_right task_reads Tasks (λ l x is. (x, is)) (λ l form. form) body told.tasks.items more rest h.0

section_past : (s : Section) (at to : ℕ) (told : Told) (body : Lines) (more : List Form) (rest : Lines) (f : Fault) → Has s told body at
    → FirstNot more rest (to + length body) f → FirstNot (replicate (length body) (item s) ++ more) (body ++ rest) to f
section_past Levels at to told body more rest f h = items_past level_reads Levels (λ l x is. (x, is)) (λ l form. form) body told.levels.items more rest to f h.0
section_past Power at to told body more rest f h = items_past power_reads Power (λ l x is. (x, is)) (λ l form. form) body (told.power ∷ []) more rest to f h.0
section_past Tasks at to told body more rest f h = items_past task_reads Tasks (λ l x is. (x, is)) (λ l form. form) body told.tasks.items more rest to f h.0

-- ## Bodies with their headings

-- the contents give a section as many lines as it may have
abbrev pub Counted : Entry → Type 0
Counted e = (1 ≤ e.count) × (e.count ≤ most_lines e.section)

-- a body that passes is told after its heading
pub record Passed (e : Entry) (at : ℕ) (told : Told) (ls : Lines) (x : Told × Lines) : Type 0 where
  pub body : Lines
  pub lines : ls ≡ heading_of e.section ∷ (body ++ x.1)
  pub counted : length body ≡ e.count
  pub has : Has e.section x.0 body at
  pub keeps : (t : Section) → t ≢ e.section → Same t told x.0

pub body_ok : (e : Entry) (at : ℕ) (told : Told) (ls : Lines) (x : Told × Lines) → Counted e → body_of e at told ls ≡ Ok x → Passed e at told ls x
body_ok e at told ls x few h =
    let k = bind_ok (fixed_line_of (bad_line at) (heading_of e.section) ls) (λ body. section_from e.section at e.count told body) x h in
    let p = section_ok e.section at e.count told k.0 x few.0 few.1 k.2 in
    let first = fixed_ok (bad_line at) (heading_of e.section) ls k.0 k.1 in
    record {
      body = p.0;
      lines = first ∙ ap (λ (ls : Lines). heading_of e.section ∷ ls) p.1;
      counted = p.2;
      has = p.3;
      keeps = p.4;
    }

-- one that is as the grammar has it passes
pub body_there : (e : Entry) (at : ℕ) (told : Told) (c : Content) (ls rest : Lines) → Tells e c ls rest → (x : Told) × (body_of e at told ls ≡ Ok (x, rest))
body_there e at told c ls rest h =
    let p = section_there e.section at told c h.body rest h.says in
    let q : section_from e.section at e.count told (h.body ++ rest) ≡ Ok (p.0, rest) =
    subst (λ n. section_from e.section at n told (h.body ++ rest) ≡ Ok (p.0, rest)) h.counted p.1 in (
      p.0,
      ap (body_of e at told) h.lines
          ∙ bind_then (fixed_line_of (bad_line at) (heading_of e.section) (heading_of e.section ∷ (h.body ++ rest))) (λ body. section_from e.section at e.count told body)
          (h.body ++ rest) _ (fixed_there (bad_line at) (heading_of e.section) (h.body ++ rest)) q,
    )

-- one that does not pass has a first line that is not of its form
pub body_not : (e : Entry) (at : ℕ) (told : Told) (ls : Lines) (es : List Entry) (f : Fault) → Counted e → body_of e at told ls ≡ Err f → FirstNot (layout (e ∷ es)) ls at f
body_not e at told ls es f few h =
    ⊎_elim (λ (k : fixed_line_of (bad_line at) (heading_of e.section) ls ≡ Err f).
    let w = fixed_err (bad_line at) f (heading_of e.section) ls k in
    not_first (heading e.section) _ ls at f w.0 (λ l is form. w.1 (is ∙ ap {B = Option (List ℕ)} (λ l. Some l) form)))
    (λ (k : (body : Lines) × (fixed_line_of (bad_line at) (heading_of e.section) ls ≡ Ok body) × (section_from e.section at e.count told body ≡ Err f)).
    let first = fixed_ok (bad_line at) (heading_of e.section) ls k.0 k.1 in
    subst (λ (ls : Lines). FirstNot (layout (e ∷ es)) ls at f) (sym first)
    (not_later (heading e.section) (replicate e.count (item e.section) ++ layout es) (heading_of e.section) k.0 at f refl
    (section_not e.section at e.count told k.0 (layout es) f few.0 few.1 k.2)))
    (bind_err (fixed_line_of (bad_line at) (heading_of e.section) ls) (λ body. section_from e.section at e.count told body) f h)

-- after one that passes, the first line that is not of its form is among the others
pub body_past : (e : Entry) (at : ℕ) (told : Told) (ls : Lines) (x : Told × Lines) (es : List Entry) (f : Fault) → Passed e at told ls x
    → FirstNot (layout es) x.1 (at + 1 + e.count) f → FirstNot (layout (e ∷ es)) ls at f
body_past e at told ls x es f h after =
    let more : FirstNot (replicate (length h.body) (item e.section) ++ layout es) (h.body ++ x.1) (at + 1) f =
    section_past e.section at (at + 1) x.0 h.body (layout es) x.1 f h.has
    (subst (λ n. FirstNot (layout es) x.1 (at + 1 + n) f) (sym h.counted) after) in
    subst (λ (ls : Lines). FirstNot (layout (e ∷ es)) ls at f) (sym h.lines)
    (not_later (heading e.section) (replicate e.count (item e.section) ++ layout es) (heading_of e.section) (h.body ++ x.1) at f refl
    (subst (λ n. FirstNot (replicate n (item e.section) ++ layout es) (h.body ++ x.1) (at + 1) f) h.counted more))

pub body_right : (e : Entry) (at : ℕ) (told : Told) (ls : Lines) (x : Told × Lines) (es : List Entry) → Passed e at told ls x
    → ((k : ℕ) → NotOfForm (layout es) x.1 k → ⊥) → (k : ℕ) → NotOfForm (layout (e ∷ es)) ls k → ⊥
body_right e at told ls x es h after k w = rights k (subst (λ (ls : Lines). NotOfForm (layout (e ∷ es)) ls k) h.lines w)
  where
    rights : (k : ℕ) → NotOfForm (layout (e ∷ es)) (heading_of e.section ∷ (h.body ++ x.1)) k → ⊥
    rights zero w =
        let same : heading e.section ≡ w.0 = (let q = w.1 in cc) in
        w.2 (heading_of e.section) refl (subst (λ (x : Form). OfForm x (heading_of e.section)) same refl)
    rights (suc k) w =
        section_right e.section at x.0 h.body (layout es) x.1 h.has after k
        (subst (λ n. NotOfForm (replicate n (item e.section) ++ layout es) (h.body ++ x.1) k) (sym h.counted) w)
