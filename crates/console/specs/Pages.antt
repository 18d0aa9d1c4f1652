-- What the program `spare` prints: the plan of the spare, and each task's first job on both boards.
use Rattle.std.specs.Prelude.{ℕ, zero, suc, ◌-◌, Bool, true, false, not, List, [], ◌∷◌, ◌++◌, length, Ok, Err, None, codes, decimal, Option, Result, slice_index_or}
use Rattle.basis.specs.declared.fault.Fault.{Fault}
use Rattle.basis.specs.Faults.{fault_text}
use Rattle.grammar.specs.declared.name.Name.{Name}
use Rattle.grammar.specs.Names.{spelled}
use Rattle.theory.specs.Sums.{between}
use Rattle.theory.specs.Loads.{no_load}
use Rattle.theory.specs.declared.Load.{Load}
use Rattle.theory.specs.Laws.{always, cyclic}
use Rattle.theory.specs.Slots.{is, owns}
use Rattle.theory.specs.Lates.{edl}
use Rattle.grammar.specs.Binds.{bind}
use Rattle.grammar.specs.Files.{read_of}
use Rattle.table.specs.Admissions.{Admitted, admit_of}
use Rattle.console.specs.declared.page.Page.{Page}
use Rattle.console.specs.declared.page.Page.TheVariants.{Plan as PlanPage, Refusal}
use Rattle.console.specs.Spans.{spans_from, spans_of}

-- the text of the lines 0 to n − 1, one after the other
abbrev pub joined : (ℕ → List ℕ) → ℕ → List ℕ
joined line zero = []
joined line (suc n) = joined line n ++ line n

-- a line feed
abbrev pub feed : List ℕ
feed = 10 ∷ []

-- a refusal: `refused NUMBER LAYER line LINE`
abbrev pub refusal_text : Fault → List ℕ
refusal_text f = fault_text f ++ feed

-- the name, the work and period, and the allowance and period of the task at a place
abbrev pub name_at : Admitted → ℕ → Name
name_at a i = slice_index_or a.names i (record { bytes = [] })

abbrev pub load_at : Admitted → ℕ → Load
load_at a i = slice_index_or a.works i no_load

abbrev pub allowance_at : Admitted → ℕ → Load
allowance_at a i = slice_index_or a.allowances i no_load

-- a task: `NAME work C period P allowance E`
abbrev pub task_line : Name → Load → ℕ → List ℕ
task_line n l e =
    spelled n ++ (codes " work " ++ (decimal l.work ++ (codes " period " ++ (decimal l.period ++ (codes " allowance " ++ (decimal e ++ feed))))))

-- the line of the task at a place
unfoldable pub task_text : Admitted → ℕ → List ℕ
task_text a i = task_line (name_at a i) (load_at a i) (allowance_at a i).work

-- the rest ticks of a plan in a cycle of H ticks
abbrev pub rests_in : ℕ → (ℕ → Bool) → ℕ
rests_in H awake = between (λ t. not (awake t)) 0 H

-- the numbers of awake and of rest ticks: `awake ticks A rest ticks R`
abbrev pub counts_line : ℕ → ℕ → List ℕ
counts_line awake rests = codes "awake ticks " ++ (decimal awake ++ (codes " rest ticks " ++ (decimal rests ++ feed)))

-- a plan's awake ticks in a cycle as spans, and the numbers of awake and of rest ticks
abbrev pub awake_lines : ℕ → (ℕ → Bool) → List ℕ
awake_lines H awake = codes "awake" ++ (spans_of (cyclic H awake) H ++ (feed ++ counts_line (H - rests_in H awake) (rests_in H awake)))

-- those of the spare
unfoldable pub awake_text : Admitted → List ℕ
awake_text a = awake_lines a.cycle (edl a.works a.cycle)

-- a task's first job: `NAME primary SPANS spare SPANS`, from the ticks of both boards, marked where the task owns them
abbrev pub owned_line : Name → List Bool → List Bool → List ℕ
owned_line n primary spare =
    spelled n ++ (codes " primary" ++ (spans_from 0 None primary ++ (codes " spare" ++ (spans_from 0 None spare ++ feed))))

-- the same, from the owners of the ticks of both boards up to its first deadline
abbrev pub first_line : Name → ℕ → (ℕ → Option ℕ) → (ℕ → Option ℕ) → ℕ → List ℕ
first_line n i primary spare period =
    spelled n ++ (codes " primary" ++ (spans_of (λ t. is i (primary t)) period ++ (codes " spare" ++ (spans_of (λ t. is i (spare t)) period ++ feed))))

-- who owns each tick of the primary: it is always awake, and serves the allowances
abbrev pub primary_owner : Admitted → ℕ → Option ℕ
primary_owner a = owns a.allowances (cyclic a.cycle always)

-- who owns each tick of the spare: it follows the EDL plan, and serves the works
abbrev pub spare_owner : Admitted → ℕ → Option ℕ
spare_owner a = owns a.works (cyclic a.cycle (edl a.works a.cycle))

-- the line of the first job at a place
unfoldable pub first_text : Admitted → ℕ → List ℕ
first_text a i = first_line (name_at a i) i (primary_owner a) (spare_owner a) (load_at a i).period

-- the cycle and the base level: `cycle H` and `base S`
abbrev pub head_lines : ℕ → ℕ → List ℕ
head_lines H s = codes "cycle " ++ (decimal H ++ (feed ++ (codes "base " ++ (decimal s ++ feed))))

-- all that is printed of an admitted table
unfoldable pub plan_text : Admitted → List ℕ
plan_text a =
    head_lines a.cycle a.base
    ++ (joined (task_text a) (length a.names) ++ (awake_text a ++ joined (first_text a) (length a.names)))

-- the whole page, of a table or of a refusal
abbrev pub page_text : Result Admitted Fault → List ℕ
page_text (Ok a) = plan_text a
page_text (Err f) = refusal_text f

-- the table that a machine file means: its sheet, admitted; or the first refusal
unfoldable pub table_in : List ℕ → Result Admitted Fault
table_in text = bind (read_of text) admit_of

-- the text of a page
abbrev pub text_of : Page → List ℕ
text_of (PlanPage text) = text.items
text_of (Refusal text) = text.items

-- whether it is a plan and no refusal
abbrev pub is_plan : Page → Bool
is_plan (PlanPage text) = true
is_plan (Refusal text) = false
