-- The contents, as a pass over lines and in their own words.
use Rattle.std.proofs.Common.{◌≡◌, ℕ, zero, suc, ◌+◌, ◌<◌, ◌≤◌, Bool, true, false, cond, ◌≢◌, List, ◌∷◌, Some, Ok, Err, codes, Result, sym, refl, ap, ◌∙◌, subst, ⊎_elim, arith}
use Rattle.std.specs.List.{slice_get}
use Rattle.std.specs.Str.{bytes_eq}
use Rattle.std.proofs.lemmas.Slice.Eq.{bytes_eq-Decides}
use Rattle.std.proofs.lemmas.Bool.{both_ways}
use Rattle.basis.specs.declared.fault.Fault.{Fault}
use Rattle.grammar.specs.declared.section.Entry.{Entry}
use Rattle.grammar.specs.declared.section.Section.{Section}
use Rattle.grammar.specs.declared.section.Section.TheVariants.{Levels, Power, Tasks}
use Rattle.grammar.specs.Binds.{bind}
use Rattle.grammar.specs.Contents.{Listed, heading_of, bad_contents, entry_of, entry_line_of, fixed_line_of, other_than, contents_of}
use Rattle.grammar.specs.Grammar.{IsEntry, Sequence, Announces}
use Rattle.grammar.specs.Refusals.{EntryAt, EntryRight, ContentsRight}
use Rattle.grammar.specs.Texts.{Lines}
use Rattle.grammar.proofs.Bound.{not_both, bind_ok, bind_then, bind_err}
use Rattle.grammar.proofs.Fronts.{fixed_ok, fixed_there, fixed_err, first_ok, first_err}
use Rattle.grammar.proofs.Worded.{entry-sound, entry_complete, entry-fault}

-- ## Sections by their headings

pub heading_same : (s t : Section) → bytes_eq (heading_of s) (heading_of t) ≡ true → s ≡ t
heading_same Levels Levels h = refl
heading_same Levels Power h = absurd (both_ways false refl h)
heading_same Levels Tasks h = absurd (both_ways false refl h)
heading_same Power Levels h = absurd (both_ways false refl h)
heading_same Power Power h = refl
heading_same Power Tasks h = absurd (both_ways false refl h)
heading_same Tasks Levels h = absurd (both_ways false refl h)
heading_same Tasks Power h = absurd (both_ways false refl h)
heading_same Tasks Tasks h = refl

pub heading-other : (s t : Section) → s ≢ t → bytes_eq (heading_of s) (heading_of t) ≡ false
heading-other s t h = told (bytes_eq (heading_of s) (heading_of t)) refl
  where
    told : (v : Bool) → bytes_eq (heading_of s) (heading_of t) ≡ v → bytes_eq (heading_of s) (heading_of t) ≡ false
    told true e = absurd (h (heading_same s t e))
    told false e = e

other_ok : (a b : Entry) (at : ℕ) (x : Unit {0}) → other_than a b at ≡ Ok x → a.section ≢ b.section
other_ok a b at x h e =
    let k : bytes_eq (heading_of a.section) (heading_of b.section) ≡ true = (bytes_eq-Decides _ _).1 (ap heading_of e) in
    not_both (sym (ap (λ v. cond v (Err (bad_contents at)) (Ok tt)) k) ∙ h)

other_there : (a b : Entry) (at : ℕ) → a.section ≢ b.section → other_than a b at ≡ Ok tt
other_there a b at h = ap (λ v. cond v (Err (bad_contents at)) (Ok tt)) (heading-other a.section b.section h)

other_err : (a b : Entry) (at : ℕ) (g : Fault) → other_than a b at ≡ Err g → (g ≡ bad_contents at) × (a.section ≡ b.section)
other_err a b at g h =
    elim (bytes_eq (heading_of a.section) (heading_of b.section)) as (λ v. bytes_eq (heading_of a.section) (heading_of b.section) ≡ v
    → cond v (Err (bad_contents at)) (Ok (tt {0})) ≡ Err g → (g ≡ bad_contents at) × (a.section ≡ b.section)) [
      | true ↦ λ e k. (cc, heading_same a.section b.section e)
      | false ↦ λ e k. absurd (not_both (sym k))
    ] refl h

-- ## Lines of the contents

-- a line announces one section at most
entry-once : (l : List ℕ) (d e : Entry) → IsEntry l d → IsEntry l e → d ≡ e
entry-once l d e h k = let p = entry_complete (bad_contents 0) l d h in let q = entry_complete (bad_contents 0) l e k in cc

at_once : (ls : Lines) (i : ℕ) (d e : Entry) → EntryAt ls i d → EntryAt ls i e → d ≡ e
at_once ls i d e h k =
    let same : h.0 ≡ k.0 = (let p = h.1 in let q = k.1 in cc) in
    entry-once k.0 d e (subst (λ (l : List ℕ). IsEntry l d) same h.2) k.2

-- a line that is taken announces a section
line_ok : (at : ℕ) (ls : Lines) (x : Entry × Lines) → entry_line_of at ls ≡ Ok x → (l : List ℕ) × (ls ≡ l ∷ x.1) × IsEntry l x.0
line_ok at ls x h =
    let k = first_ok (bad_contents at) (entry_of (bad_contents at)) ls x h in
    (k.0, k.1, entry-sound (bad_contents at) k.0 x.0 k.2)

line_there : (at : ℕ) (l : List ℕ) (e : Entry) (rest : Lines) → IsEntry l e → entry_line_of at (l ∷ rest) ≡ Ok (e, rest)
line_there at l e rest h = bind_then (entry_of (bad_contents at) l) (λ x. Ok (x, rest)) e (Ok (e, rest)) (entry_complete (bad_contents at) l e h) refl

-- one that is not does not, or is missing
line_err : (at : ℕ) (ls : Lines) (g : Fault) → entry_line_of at ls ≡ Err g
    → (g ≡ bad_contents at) × ((l : List ℕ) (e : Entry) → slice_get ls 0 ≡ Some l → IsEntry l e → ⊥)
line_err at ls g h =
    let k = first_err (bad_contents at) g (entry_of (bad_contents at)) ls (λ l e. entry-fault (bad_contents at) e l) h in
    (k.0, λ l e is entry. k.1 l e is (entry_complete (bad_contents at) l e entry))

-- ## The pass

abbrev pub listed : Sequence → Lines → Listed
listed s rest = record { first = s.first; second = s.second; third = s.third; rest = rest }

abbrev pub sequence_of : Listed → Sequence
sequence_of x = record { first = x.first; second = x.second; third = x.third }

-- what is left of the pass before each line
abbrev fifth : Entry → Entry → Entry → Lines → Result Listed Fault
fifth a b c ls = bind (fixed_line_of (bad_contents 5) (codes "end") ls) (λ rest. Ok (record { first = a; second = b; third = c; rest = rest }))

abbrev fourth : Entry → Entry → Lines → Result Listed Fault
fourth a b ls =
    bind (entry_line_of 4 ls) (λ c. bind (other_than a c.0 4) (λ _. bind (other_than b c.0 4) (λ _. fifth a b c.0 c.1)))

abbrev third : Entry → Lines → Result Listed Fault
third a ls = bind (entry_line_of 3 ls) (λ b. bind (other_than a b.0 3) (λ _. fourth a b.0 b.1))

abbrev second : Lines → Result Listed Fault
second ls = bind (entry_line_of 2 ls) (λ a. third a.0 a.1)

-- what passes announces the three sections
pub contents-sound : (ls : Lines) (x : Listed) → contents_of ls ≡ Ok x → Announces ls (sequence_of x) x.rest
contents-sound ls x h =
    let k₁ = bind_ok (fixed_line_of (bad_contents 1) (codes "contents") ls) second x h in
    let k₂ = bind_ok (entry_line_of 2 k₁.0) (λ a. third a.0 a.1) x k₁.2 in
    let a : Entry = k₂.0.0 in
    let k₃ = bind_ok (entry_line_of 3 k₂.0.1) (λ b. bind (other_than a b.0 3) (λ _. fourth a b.0 b.1)) x k₂.2 in
    let b : Entry = k₃.0.0 in
    let o₁ = bind_ok (other_than a b 3) (λ _. fourth a b k₃.0.1) x k₃.2 in
    let k₄ = bind_ok (entry_line_of 4 k₃.0.1) (λ c. bind (other_than a c.0 4) (λ _. bind (other_than b c.0 4) (λ _. fifth a b c.0 c.1))) x o₁.2 in
    let c : Entry = k₄.0.0 in
    let o₂ = bind_ok (other_than a c 4) (λ _. bind (other_than b c 4) (λ _. fifth a b c k₄.0.1)) x k₄.2 in
    let o₃ = bind_ok (other_than b c 4) (λ _. fifth a b c k₄.0.1) x o₂.2 in
    let k₅ = bind_ok (fixed_line_of (bad_contents 5) (codes "end") k₄.0.1) _ x o₃.2 in
    let is : record { first = a; second = b; third = c; rest = k₅.0 } ≡ x = (let q = k₅.2 in cc) in
    let l₂ = line_ok 2 k₁.0 k₂.0 k₂.1 in
    let l₃ = line_ok 3 k₂.0.1 k₃.0 k₃.1 in
    let l₄ = line_ok 4 k₃.0.1 k₄.0 k₄.1 in
    let e₁ = fixed_ok (bad_contents 1) (codes "contents") ls k₁.0 k₁.1 in
    let e₅ = fixed_ok (bad_contents 5) (codes "end") k₄.0.1 k₅.0 k₅.1 in
    subst (λ (x : Listed). Announces ls (sequence_of x) x.rest) is
    (record {
      one = l₂.0;
      two = l₃.0;
      three = l₄.0;
      lines = (let e₂ = l₂.1 in let e₃ = l₃.1 in let e₄ = l₄.1 in cc);
      first = l₂.2;
      second = l₃.2;
      third = l₄.2;
      other₁₂ = other_ok a b 3 o₁.0 o₁.1;
      other₁₃ = other_ok a c 4 o₂.0 o₂.1;
      other₂₃ = other_ok b c 4 o₃.0 o₃.1;
    })

-- what announces them passes
pub contents_complete : (ls : Lines) (s : Sequence) (rest : Lines) → Announces ls s rest → contents_of ls ≡ Ok (listed s rest)
contents_complete ls s rest h =
    ap contents_of h.lines
    ∙ bind_then (fixed_line_of (bad_contents 1) (codes "contents") (codes "contents" ∷ three₁)) second three₁ goal (fixed_there (bad_contents 1) (codes "contents") three₁)
    (bind_then (entry_line_of 2 three₁) (λ a. third a.0 a.1) (a, two₁) goal (line_there 2 h.one a two₁ h.first)
    (bind_then (entry_line_of 3 two₁) (λ b. bind (other_than a b.0 3) (λ _. fourth a b.0 b.1)) (b, one₁) goal (line_there 3 h.two b one₁ h.second)
    (bind_then (other_than a b 3) (λ _. fourth a b one₁) tt goal (other_there a b 3 h.other₁₂)
    (bind_then (entry_line_of 4 one₁) (λ c. bind (other_than a c.0 4) (λ _. bind (other_than b c.0 4) (λ _. fifth a b c.0 c.1))) (c, codes "end" ∷ rest) goal
    (line_there 4 h.three c (codes "end" ∷ rest) h.third)
    (bind_then (other_than a c 4) (λ _. bind (other_than b c 4) (λ _. fifth a b c (codes "end" ∷ rest))) tt goal (other_there a c 4 h.other₁₃)
    (bind_then (other_than b c 4) (λ _. fifth a b c (codes "end" ∷ rest)) tt goal (other_there b c 4 h.other₂₃)
    (bind_then (fixed_line_of (bad_contents 5) (codes "end") (codes "end" ∷ rest)) (λ (rest : Lines). Ok (listed s rest)) rest goal (fixed_there (bad_contents 5) (codes "end") rest) refl)))))))
  where
    a : Entry
    a = s.first

    b : Entry
    b = s.second

    c : Entry
    c = s.third

    one₁ : Lines
    one₁ = h.three ∷ codes "end" ∷ rest

    two₁ : Lines
    two₁ = h.two ∷ one₁

    three₁ : Lines
    three₁ = h.one ∷ two₁

    goal : Result Listed Fault
    goal = Ok (listed s rest)

-- ## Which line is right

module _ (ls : Lines) where
  -- the first line that announces a section is right
  right₁ : (a : Entry) → EntryAt ls 1 a → EntryRight ls 1
  right₁ a h = record { entry = a; here = h; once = λ j d p q _. absurd (omega arith) }

  -- the second, of another section
  right₂ : (a b : Entry) → EntryAt ls 1 a → EntryAt ls 2 b → a.section ≢ b.section → EntryRight ls 2
  right₂ a b h k other = record { entry = b; here = k; once = once }
    where
      once : (j : ℕ) (d : Entry) → 1 ≤ j → j < 2 → EntryAt ls j d → d.section ≢ b.section
      once zero d p q is e = absurd (omega arith)
      once (suc zero) d p q is e = other (ap (λ (e : Entry). e.section) (at_once ls 1 a d h is) ∙ e)
      once (suc (suc j)) d p q is e = absurd (omega arith)

  -- the third, of yet another
  right₃ : (a b c : Entry) → EntryAt ls 1 a → EntryAt ls 2 b → EntryAt ls 3 c → a.section ≢ c.section → b.section ≢ c.section → EntryRight ls 3
  right₃ a b c h k m other₁ other₂ = record { entry = c; here = m; once = once }
    where
      once : (j : ℕ) (d : Entry) → 1 ≤ j → j < 3 → EntryAt ls j d → d.section ≢ c.section
      once zero d p q is e = absurd (omega arith)
      once (suc zero) d p q is e = other₁ (ap (λ (e : Entry). e.section) (at_once ls 1 a d h is) ∙ e)
      once (suc (suc zero)) d p q is e = other₂ (ap (λ (e : Entry). e.section) (at_once ls 2 b d k is) ∙ e)
      once (suc (suc (suc j))) d p q is e = absurd (omega arith)

  -- a line is wrong that announces no section
  wrong_none : (i : ℕ) → ((l : List ℕ) (e : Entry) → slice_get ls i ≡ Some l → IsEntry l e → ⊥) → EntryRight ls i → ⊥
  wrong_none i none r = none r.here.0 r.entry r.here.1 r.here.2

  -- or one that a line before it announces
  wrong_again : (i j : ℕ) (a b : Entry) → 1 ≤ j → j < i → EntryAt ls j a → EntryAt ls i b → a.section ≡ b.section → EntryRight ls i → ⊥
  wrong_again i j a b p q h k e r = r.once j a p q h (e ∙ ap (λ (e : Entry). e.section) (at_once ls i b r.entry k r.here))

-- every line of contents that pass is right
pub contents_right : (ls : Lines) (s : Sequence) (rest : Lines) → Announces ls s rest → (i : ℕ) → ContentsRight ls i
contents_right ls s rest h = rights
  where
    at₁ : EntryAt ls 1 s.first
    at₁ = (h.one, ap (λ (ls : Lines). slice_get ls 1) h.lines, h.first)

    at₂ : EntryAt ls 2 s.second
    at₂ = (h.two, ap (λ (ls : Lines). slice_get ls 2) h.lines, h.second)

    at₃ : EntryAt ls 3 s.third
    at₃ = (h.three, ap (λ (ls : Lines). slice_get ls 3) h.lines, h.third)

    rights : (i : ℕ) → ContentsRight ls i
    rights zero = ap (λ (ls : Lines). slice_get ls 0) h.lines
    rights (suc zero) = right₁ ls s.first at₁
    rights (suc (suc zero)) = right₂ ls s.first s.second at₁ at₂ h.other₁₂
    rights (suc (suc (suc zero))) = right₃ ls s.first s.second s.third at₁ at₂ at₃ h.other₁₃ h.other₂₃
    rights (suc (suc (suc (suc zero)))) = ap (λ (ls : Lines). slice_get ls 4) h.lines
    rights (suc (suc (suc (suc (suc i))))) = tt

-- ## Which line is at fault

-- the first line that is not right
abbrev pub FirstWrong : Lines → Fault → Type 0
FirstWrong ls f = (i : ℕ) × (f ≡ bad_contents (i + 1)) × (ContentsRight ls i → ⊥) × ((j : ℕ) → j < i → ContentsRight ls j)

module _ (ls : Lines) (f : Fault) where
  fails₅ : (a b c : Entry) (rest : Lines) → slice_get ls 0 ≡ Some (codes "contents") → EntryRight ls 1 → EntryRight ls 2 → EntryRight ls 3 → slice_get ls 4 ≡ slice_get rest 0
      → fifth a b c rest ≡ Err f → FirstWrong ls f
  fails₅ a b c rest r₀ r₁ r₂ r₃ n h =
      ⊎_elim (λ (k : fixed_line_of (bad_contents 5) (codes "end") rest ≡ Err f).
      let w = fixed_err (bad_contents 5) f (codes "end") rest k in
      (4, w.0, (λ e. w.1 (sym n ∙ e)), rights))
      (λ (k : (x : Lines) × (fixed_line_of (bad_contents 5) (codes "end") rest ≡ Ok x) × (Ok (record { first = a; second = b; third = c; rest = x }) ≡ Err f)).
      absurd (not_both (sym k.2)))
      (bind_err (fixed_line_of (bad_contents 5) (codes "end") rest) _ f h)
    where
      rights : (j : ℕ) → j < 4 → ContentsRight ls j
      rights zero p = r₀
      rights (suc zero) p = r₁
      rights (suc (suc zero)) p = r₂
      rights (suc (suc (suc zero))) p = r₃
      rights (suc (suc (suc (suc j)))) p = absurd (omega arith)

  fails₄ : (a b : Entry) (rest : Lines) → slice_get ls 0 ≡ Some (codes "contents") → EntryAt ls 1 a → EntryAt ls 2 b → a.section ≢ b.section
      → ((i : ℕ) → slice_get ls (suc (suc (suc i))) ≡ slice_get rest i) → fourth a b rest ≡ Err f → FirstWrong ls f
  fails₄ a b rest r₀ h₁ h₂ other n h =
      ⊎_elim (λ (k : entry_line_of 4 rest ≡ Err f).
      let w = line_err 4 rest f k in
      (3, w.0, wrong_none ls 3 (λ l e is. w.1 l e (sym (n 0) ∙ is)), rights))
      (λ (k : (x : Entry × Lines) × (entry_line_of 4 rest ≡ Ok x) × (more x ≡ Err f)).
      let c : Entry = k.0.0 in
      let l = line_ok 4 rest k.0 k.1 in
      let h₃ : EntryAt ls 3 c = (l.0, n 0 ∙ ap (λ (ls : Lines). slice_get ls 0) l.1, l.2) in
      ⊎_elim (λ (o : other_than a c 4 ≡ Err f).
      let w = other_err a c 4 f o in
      (3, w.0, wrong_again ls 3 1 a c (omega arith) (omega arith) h₁ h₃ w.1, rights))
      (λ (o : (y : Unit {0}) × (other_than a c 4 ≡ Ok y) × (bind (other_than b c 4) (λ _. fifth a b c k.0.1) ≡ Err f)).
      ⊎_elim (λ (p : other_than b c 4 ≡ Err f).
      let w = other_err b c 4 f p in
      (3, w.0, wrong_again ls 3 2 b c (omega arith) (omega arith) h₂ h₃ w.1, rights))
      (λ (p : (y : Unit {0}) × (other_than b c 4 ≡ Ok y) × (fifth a b c k.0.1 ≡ Err f)).
      fails₅ a b c k.0.1 r₀ (right₁ ls a h₁) (right₂ ls a b h₁ h₂ other)
      (right₃ ls a b c h₁ h₂ h₃ (other_ok a c 4 o.0 o.1) (other_ok b c 4 p.0 p.1))
      (n 1 ∙ ap (λ (ls : Lines). slice_get ls 1) l.1) p.2)
      (bind_err (other_than b c 4) (λ _. fifth a b c k.0.1) f o.2))
      (bind_err (other_than a c 4) (λ _. bind (other_than b c 4) (λ _. fifth a b c k.0.1)) f k.2))
      (bind_err (entry_line_of 4 rest) more f h)
    where
      more : Entry × Lines → Result Listed Fault
      more c = bind (other_than a c.0 4) (λ _. bind (other_than b c.0 4) (λ _. fifth a b c.0 c.1))

      rights : (j : ℕ) → j < 3 → ContentsRight ls j
      rights zero p = r₀
      rights (suc zero) p = right₁ ls a h₁
      rights (suc (suc zero)) p = right₂ ls a b h₁ h₂ other
      rights (suc (suc (suc j))) p = absurd (omega arith)

  fails₃ : (a : Entry) (rest : Lines) → slice_get ls 0 ≡ Some (codes "contents") → EntryAt ls 1 a
      → ((i : ℕ) → slice_get ls (suc (suc i)) ≡ slice_get rest i) → third a rest ≡ Err f → FirstWrong ls f
  fails₃ a rest r₀ h₁ n h =
      ⊎_elim (λ (k : entry_line_of 3 rest ≡ Err f).
      let w = line_err 3 rest f k in
      (2, w.0, wrong_none ls 2 (λ l e is. w.1 l e (sym (n 0) ∙ is)), rights))
      (λ (k : (x : Entry × Lines) × (entry_line_of 3 rest ≡ Ok x) × (more x ≡ Err f)).
      let b : Entry = k.0.0 in
      let l = line_ok 3 rest k.0 k.1 in
      let h₂ : EntryAt ls 2 b = (l.0, n 0 ∙ ap (λ (ls : Lines). slice_get ls 0) l.1, l.2) in
      ⊎_elim (λ (o : other_than a b 3 ≡ Err f).
      let w = other_err a b 3 f o in
      (2, w.0, wrong_again ls 2 1 a b (omega arith) (omega arith) h₁ h₂ w.1, rights))
      (λ (o : (y : Unit {0}) × (other_than a b 3 ≡ Ok y) × (fourth a b k.0.1 ≡ Err f)).
      fails₄ a b k.0.1 r₀ h₁ h₂ (other_ok a b 3 o.0 o.1) (λ i. n (suc i) ∙ ap (λ (ls : Lines). slice_get ls (suc i)) l.1) o.2)
      (bind_err (other_than a b 3) (λ _. fourth a b k.0.1) f k.2))
      (bind_err (entry_line_of 3 rest) more f h)
    where
      more : Entry × Lines → Result Listed Fault
      more b = bind (other_than a b.0 3) (λ _. fourth a b.0 b.1)

      rights : (j : ℕ) → j < 2 → ContentsRight ls j
      rights zero p = r₀
      rights (suc zero) p = right₁ ls a h₁
      rights (suc (suc j)) p = absurd (omega arith)

  fails₂ : (rest : Lines) → slice_get ls 0 ≡ Some (codes "contents") → ((i : ℕ) → slice_get ls (suc i) ≡ slice_get rest i) → second rest ≡ Err f → FirstWrong ls f
  fails₂ rest r₀ n h =
      ⊎_elim (λ (k : entry_line_of 2 rest ≡ Err f).
      let w = line_err 2 rest f k in
      (1, w.0, wrong_none ls 1 (λ l e is. w.1 l e (sym (n 0) ∙ is)), rights))
      (λ (k : (x : Entry × Lines) × (entry_line_of 2 rest ≡ Ok x) × (third x.0 x.1 ≡ Err f)).
      let l = line_ok 2 rest k.0 k.1 in
      fails₃ k.0.0 k.0.1 r₀ (l.0, n 0 ∙ ap (λ (ls : Lines). slice_get ls 0) l.1, l.2)
      (λ i. n (suc i) ∙ ap (λ (ls : Lines). slice_get ls (suc i)) l.1) k.2)
      (bind_err (entry_line_of 2 rest) (λ a. third a.0 a.1) f h)
    where
      rights : (j : ℕ) → j < 1 → ContentsRight ls j
      rights zero p = r₀
      rights (suc j) p = absurd (omega arith)

  -- contents that do not pass are refused at the first line that is not right
  pub contents_fail : contents_of ls ≡ Err f → FirstWrong ls f
  contents_fail h =
      ⊎_elim (λ (k : fixed_line_of (bad_contents 1) (codes "contents") ls ≡ Err f).
      let w = fixed_err (bad_contents 1) f (codes "contents") ls k in
      (0, w.0, w.1, λ j p. absurd (omega arith)))
      (λ (k : (x : Lines) × (fixed_line_of (bad_contents 1) (codes "contents") ls ≡ Ok x) × (second x ≡ Err f)).
      let e = fixed_ok (bad_contents 1) (codes "contents") ls k.0 k.1 in
      fails₂ k.0 (ap (λ (ls : Lines). slice_get ls 0) e) (λ i. ap (λ (ls : Lines). slice_get ls (suc i)) e) k.2)
      (bind_err (fixed_line_of (bad_contents 1) (codes "contents") ls) second f h)
