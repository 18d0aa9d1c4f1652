-- The numbers of each task that was read are in their range.
use Rattle.std.proofs.Common.{◌≡◌, ℕ, ◌+◌, true, List, [], ◌∷◌, Ok, sym, refl, subst}
use Rattle.std.proofs.lemmas.Bool.{and_from, le-leb}
use Rattle.grammar.specs.declared.task.TaskLine.{TaskLine}
use Rattle.grammar.specs.declared.section.Entry.{Entry}
use Rattle.grammar.specs.declared.section.Section.{Section}
use Rattle.grammar.specs.declared.section.Section.TheVariants.{Levels, Power, Tasks}
use Rattle.grammar.specs.Bodies.{Body, Told, untold, items_from, body_lines, section_from, body_of, bodies_of, ranged}
use Rattle.grammar.specs.Bytes.{within}
use Rattle.grammar.specs.Contents.{Listed, heading_of, fixed_line_of}
use Rattle.grammar.specs.Fields.{bad_line, level_of, power_of, task_of}
use Rattle.grammar.specs.Grammar.{Pairs, IsTask, IsWithin}
use Rattle.grammar.specs.Texts.{Lines, first_of}
use Rattle.grammar.proofs.Bodied.{items_ok, task_reads}
use Rattle.grammar.proofs.Bound.{ok_injective, bind_ok}

in_range : (low high : ℕ) (s : List ℕ) (v : ℕ) → IsWithin low high s v → within low high v ≡ true
in_range low high s v h = and_from _ _ (le-leb low v h.least) (le-leb v high h.most)

-- of all the tasks that lines say
all-ranged : (ls : Lines) (ts : List TaskLine) → Pairs IsTask ls ts → ranged ts ≡ true
all-ranged ls [] h = refl
all-ranged [] (t ∷ ts) h = absurd h
all-ranged (l ∷ ls) (t ∷ ts) h =
    let k = h.0 in
    and_from _ _ (and_from _ _ (in_range 1 30000 k.work t.work k.works) (in_range 1 30000 k.period t.period k.periods))
    (all-ranged ls ts h.1)

-- of all the tasks of a body
pub items-ranged : (at count : ℕ) (ls : Lines) (x : List TaskLine × Lines) → items_from task_of at count [] ls ≡ Ok x → ranged x.0 ≡ true
items-ranged at count ls x e =
    let k = items_ok task_reads at count [] ls x e in
    subst (λ (ts : List TaskLine). ranged ts ≡ true) (sym k.3) (all-ranged k.0 k.1 k.4)

-- a body leaves them so, whatever its section
section_ranged : (s : Section) (heading count : ℕ) (t : Told) (ls : Lines) (x : Told × Lines) → ranged t.tasks.items ≡ true
    → section_from s heading count t ls ≡ Ok x → ranged x.0.tasks.items ≡ true
section_ranged Levels heading count t ls x h e =
    let k = bind_ok (body_lines level_of heading count ls) _ x e in
    subst (λ (x : Told × Lines). ranged x.0.tasks.items ≡ true) (ok_injective k.2) h
section_ranged Power heading count t ls x h e =
    let k = bind_ok (first_of (bad_line (heading + 1)) (power_of (heading + 1)) ls) _ x e in
    subst (λ (x : Told × Lines). ranged x.0.tasks.items ≡ true) (ok_injective k.2) h
section_ranged Tasks heading count t ls x h e =
    let k = bind_ok (body_lines task_of heading count ls) _ x e in
    let i = bind_ok (items_from task_of (heading + 1) count [] ls) _ k.0 k.1 in
    let n : ranged k.0.0.items ≡ true =
    subst (λ (y : Body TaskLine × Lines). ranged y.0.items ≡ true) (ok_injective i.2) (items-ranged (heading + 1) count ls i.0 i.1) in
    subst (λ (x : Told × Lines). ranged x.0.tasks.items ≡ true) (ok_injective k.2) n

body_ranged : (e : Entry) (at : ℕ) (t : Told) (ls : Lines) (x : Told × Lines) → ranged t.tasks.items ≡ true → body_of e at t ls ≡ Ok x → ranged x.0.tasks.items ≡ true
body_ranged e at t ls x h k =
    let b = bind_ok (fixed_line_of (bad_line at) (heading_of e.section) ls) _ x k in
    section_ranged e.section at e.count t b.0 x h b.2

-- and so do all three
pub bodies_ranged : (c : Listed) (x : Told × Lines) → bodies_of c ≡ Ok x → ranged x.0.tasks.items ≡ true
bodies_ranged c x e =
    let a = bind_ok (body_of c.first 6 untold c.rest) _ x e in
    let b = bind_ok (body_of c.second (7 + c.first.count) a.0.0 a.0.1) _ x a.2 in
    body_ranged c.third _ b.0.0 b.0.1 x (body_ranged c.second _ a.0.0 a.0.1 b.0 (body_ranged c.first 6 untold c.rest a.0 refl a.1) b.1) b.2
