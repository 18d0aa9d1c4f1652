-- The three bodies after the contents that announce them.
use Rattle.std.proofs.Common.{◌≡◌, ℕ, ◌+◌, ◌≤◌, cond, ◌≢◌, ◌⊎◌, List, [], ◌∷◌, ◌++◌, length, get_or, Ok, Err, Result, sym, refl, ap, ◌∙◌, subst, inl, inr, ⊎_elim, arith}
use Rattle.std.proofs.lemmas.Slice.Eq.{bytes_eq-Decides}
use Rattle.std.proofs.lemmas.List.{append_cancel_right}
use Rattle.std.proofs.lemmas.Bool.{cases_eq}
use Rattle.basis.specs.declared.fault.Fault.{Fault}
use Rattle.grammar.specs.declared.section.Entry.{Entry}
use Rattle.grammar.specs.declared.section.Section.{Section}
use Rattle.grammar.specs.declared.section.Section.TheVariants.{Levels, Power, Tasks}
use Rattle.grammar.specs.Binds.{bind}
use Rattle.grammar.specs.Bodies.{Told, untold, body_of, bodies_of}
use Rattle.grammar.specs.Contents.{heading_of}
use Rattle.grammar.specs.Files.{content_of}
use Rattle.grammar.specs.Grammar.{Pairs, IsLevel, Says, Tells, Sequence, heading_from, heading_line}
use Rattle.grammar.specs.Refusals.{layout, NotOfForm}
use Rattle.grammar.specs.Sheets.{Content}
use Rattle.grammar.specs.Texts.{Lines}
use Rattle.grammar.proofs.Announced.{heading-other, listed}
use Rattle.grammar.proofs.Bodied.{FirstNot, Has, has_same, pairs_once, level_reads, power_reads, task_reads, Counted, Passed, body_ok, body_there, body_not, body_past, body_right}
use Rattle.grammar.proofs.Bound.{bind_ok, bind_then, bind_err}
use Rattle.grammar.proofs.Fronts.{nowhere}

-- ## Which of three sections

abbrev code : Section → ℕ
code Levels = 0
code Power = 1
code Tasks = 2

code_few : (s : Section) → code s ≤ 2
code_few Levels = omega arith
code_few Power = omega arith
code_few Tasks = omega arith

code_once : (s t : Section) → code s ≡ code t → s ≡ t
code_once Levels Levels e = refl
code_once Levels Power e = absurd (omega arith)
code_once Levels Tasks e = absurd (omega arith)
code_once Power Levels e = absurd (omega arith)
code_once Power Power e = refl
code_once Power Tasks e = absurd (omega arith)
code_once Tasks Levels e = absurd (omega arith)
code_once Tasks Power e = absurd (omega arith)
code_once Tasks Tasks e = refl

-- of three sections that differ, each section is one
which : (x a b c : Section) → a ≢ b → a ≢ c → b ≢ c → (x ≡ a) ⊎ (((x ≢ a) × (x ≡ b)) ⊎ ((x ≢ a) × (x ≢ b) × (x ≡ c)))
which x a b c ab ac bc =
    ⊎_elim (λ (e : code x ≡ code a). inl (code_once x a e))
    (λ (na : code x ≡ code a → ⊥).
    ⊎_elim (λ (e : code x ≡ code b). inr (inl ((λ q. na (ap code q)), code_once x b e)))
    (λ (nb : code x ≡ code b → ⊥).
    let p : code a ≢ code b = (λ e. ab (code_once a b e)) in
    let q : code a ≢ code c = (λ e. ac (code_once a c e)) in
    let r : code b ≢ code c = (λ e. bc (code_once b c e)) in
    let e : code x ≡ code c = omega (arith, na, nb, p, q, r, code_few x, code_few a, code_few b, code_few c) in
    inr (inr ((λ q. na (ap code q)), (λ q. nb (ap code q)), code_once x c e)))
    (cases_eq (code x) (code b)))
    (cases_eq (code x) (code a))

-- where its heading is
heading-here : (x : Section) (at : ℕ) (e : Entry) (es : List Entry) → x ≡ e.section → heading_from x at (e ∷ es) ≡ at
heading-here x at e es h =
    ap (λ v. cond v at (heading_from x (at + 1 + e.count) es)) ((bytes_eq-Decides (heading_of x) (heading_of e.section)).1 (ap heading_of h))

heading_after : (x : Section) (at : ℕ) (e : Entry) (es : List Entry) → x ≢ e.section → heading_from x at (e ∷ es) ≡ heading_from x (at + 1 + e.count) es
heading_after x at e es h = ap (λ v. cond v at (heading_from x (at + 1 + e.count) es)) (heading-other x e.section h)

-- ## Three bodies

says_of : (t : Section) (told : Told) (body : Lines) (at : ℕ) → Has t told body at → Says (content_of told) t body
says_of Levels told body at h = h.0
says_of Power told body at h = h.0
says_of Tasks told body at h = h.0

-- the sheet holds what is told of a section
abbrev Agrees : Section → Told → Content → Type 0
Agrees Levels told c = told.levels.items ≡ c.levels
Agrees Power told c = told.power ≡ c.power
Agrees Tasks told c = told.tasks.items ≡ c.tasks

agrees : (t : Section) (told : Told) (c : Content) (body : Lines) (at : ℕ) → Has t told body at → Says c t body → Agrees t told c
agrees Levels told c body at h k = pairs_once level_reads body told.levels.items c.levels h.0 k
agrees Power told c body at h k = let e = pairs_once power_reads body (told.power ∷ []) (c.power ∷ []) h.0 k in cc
agrees Tasks told c body at h k = pairs_once task_reads body told.tasks.items c.tasks h.0 k

-- there is a first level, and it is at least 1
first_level : (body : Lines) (vs : List ℕ) → Pairs IsLevel body vs → 1 ≤ length body → (1 ≤ length vs) × (1 ≤ get_or vs 0 0)
first_level [] vs h k = absurd (omega arith)
first_level (l ∷ body) [] h k = absurd h
first_level (l ∷ body) (v ∷ vs) h k = (omega arith, h.0.least)

-- the bodies of a text say what the sheet holds, and their headings stand where they have to
pub record Bodied (s : Sequence) (rest : Lines) (x : Told × Lines) : Type 0 where
  pub later : Lines
  pub last : Lines
  pub first : Tells s.first (content_of x.0) rest later
  pub second : Tells s.second (content_of x.0) later last
  pub third : Tells s.third (content_of x.0) last x.1
  pub levels : x.0.levels.heading ≡ heading_line Levels s
  pub tasks : x.0.tasks.heading ≡ heading_line Tasks s
  pub some : 1 ≤ length x.0.levels.items
  pub least : 1 ≤ get_or x.0.levels.items 0 0
  pub right : (k : ℕ) → NotOfForm (layout (s.first ∷ s.second ∷ s.third ∷ [])) rest k → ⊥

module _ (s : Sequence) (other₁₂ : s.first.section ≢ s.second.section) (other₁₃ : s.first.section ≢ s.third.section)
    (other₂₃ : s.second.section ≢ s.third.section) where
  -- what is said of each of the three is said of every section, at the line of its heading
  everywhere : (P : Section → ℕ → Type 0) → P s.first.section 6 → P s.second.section (7 + s.first.count)
      → P s.third.section (8 + s.first.count + s.second.count) → (x : Section) → P x (heading_line x s)
  everywhere P p q r x =
      ⊎_elim (λ (e : x ≡ s.first.section).
      subst (P x) (sym (heading-here x 6 s.first (s.second ∷ s.third ∷ []) e)) (subst (λ (x : Section). P x 6) (sym e) p))
      (λ (o : ((x ≢ s.first.section) × (x ≡ s.second.section)) ⊎ ((x ≢ s.first.section) × (x ≢ s.second.section) × (x ≡ s.third.section))).
      ⊎_elim (λ (e : (x ≢ s.first.section) × (x ≡ s.second.section)).
      let n : 7 + s.first.count ≡ 6 + 1 + s.first.count = omega arith in
      let at = heading_after x 6 s.first (s.second ∷ s.third ∷ []) e.0 ∙ heading-here x (6 + 1 + s.first.count) s.second (s.third ∷ []) e.1 in
      subst (P x) (n ∙ sym at) (subst (λ (x : Section). P x (7 + s.first.count)) (sym e.1) q))
      (λ (e : (x ≢ s.first.section) × (x ≢ s.second.section) × (x ≡ s.third.section)).
      let n : 8 + s.first.count + s.second.count ≡ 6 + 1 + s.first.count + 1 + s.second.count = omega arith in
      let at =
      heading_after x 6 s.first (s.second ∷ s.third ∷ []) e.0
      ∙ heading_after x (6 + 1 + s.first.count) s.second (s.third ∷ []) e.1
      ∙ heading-here x (6 + 1 + s.first.count + 1 + s.second.count) s.third [] e.2 in
      subst (P x) (n ∙ sym at) (subst (λ (x : Section). P x (8 + s.first.count + s.second.count)) (sym e.2) r))
      o)
      (which x s.first.section s.second.section s.third.section other₁₂ other₁₃ other₂₃)

  module _ (few₁ : Counted s.first) (few₂ : Counted s.second) (few₃ : Counted s.third) (rest : Lines) where
    -- what the pass goes through
    record Through (x : Told × Lines) : Type 0 where
      a : Told × Lines
      b : Told × Lines
      first : Passed s.first 6 untold rest a
      second : Passed s.second (7 + s.first.count) a.0 a.1 b
      third : Passed s.third (8 + s.first.count + s.second.count) b.0 b.1 x

    through : (x : Told × Lines) → bodies_of (listed s rest) ≡ Ok x → Through x
    through x h =
        let k = bind_ok (body_of s.first 6 untold rest) _ x h in
        let m = bind_ok (body_of s.second (7 + s.first.count) k.0.0 k.0.1) _ x k.2 in
        record {
          a = k.0;
          b = m.0;
          first = body_ok s.first 6 untold rest k.0 few₁ k.1;
          second = body_ok s.second (7 + s.first.count) k.0.0 k.0.1 m.0 few₂ m.1;
          third = body_ok s.third (8 + s.first.count + s.second.count) m.0.0 m.0.1 x few₃ m.2;
        }

    -- each of the three is told at the end
    has₁ : (x : Told × Lines) (t : Through x) → Has s.first.section x.0 t.first.body 6
    has₁ x t =
        has_same s.first.section t.b.0 x.0 t.first.body 6 (t.third.keeps s.first.section other₁₃)
        (has_same s.first.section t.a.0 t.b.0 t.first.body 6 (t.second.keeps s.first.section other₁₂) t.first.has)

    has₂ : (x : Told × Lines) (t : Through x) → Has s.second.section x.0 t.second.body (7 + s.first.count)
    has₂ x t =
        has_same s.second.section t.b.0 x.0 t.second.body (7 + s.first.count) (t.third.keeps s.second.section other₂₃) t.second.has

    headed : (x : Told × Lines) → Through x → (t : Section) → (body : Lines) × Has t x.0 body (heading_line t s) × (1 ≤ length body)
    headed x t =
        everywhere (λ (t : Section) at. (body : Lines) × Has t x.0 body at × (1 ≤ length body))
        (t.first.body, has₁ x t, omega (arith, t.first.counted, few₁.0)) (t.second.body, has₂ x t, omega (arith, t.second.counted, few₂.0))
        (t.third.body, t.third.has, omega (arith, t.third.counted, few₃.0))

    -- bodies that pass say what the sheet holds
    pub bodies_ok : (x : Told × Lines) → bodies_of (listed s rest) ≡ Ok x → Bodied s rest x
    bodies_ok x h =
        let t = through x h in
        let levels = headed x t Levels in
        let first = first_level levels.0 x.0.levels.items levels.1.0 levels.2 in
        record {
          later = t.a.1;
          last = t.b.1;
          first = record { body = t.first.body; lines = t.first.lines; counted = t.first.counted; says = says_of s.first.section x.0 _ 6 (has₁ x t) };
          second = record { body = t.second.body; lines = t.second.lines; counted = t.second.counted; says = says_of s.second.section x.0 _ _ (has₂ x t) };
          third = record { body = t.third.body; lines = t.third.lines; counted = t.third.counted; says = says_of s.third.section x.0 _ _ t.third.has };
          levels = levels.1.1;
          tasks = (headed x t Tasks).1.1;
          some = first.0;
          least = first.1;
          right =
              body_right s.first 6 untold rest t.a (s.second ∷ s.third ∷ []) t.first
              (body_right s.second (7 + s.first.count) t.a.0 t.a.1 t.b (s.third ∷ []) t.second
              (body_right s.third (8 + s.first.count + s.second.count) t.b.0 t.b.1 x [] t.third (λ k w. nowhere w.1)));
        }

    -- bodies that say it pass
    pub bodies_there : (c : Content) (later last script : Lines) → Tells s.first c rest later → Tells s.second c later last → Tells s.third c last script
        → c.first ≡ heading_line Tasks s + 1 → (told : Told) × (bodies_of (listed s rest) ≡ Ok (told, script)) × (content_of told ≡ c)
    bodies_there c later last script p q r line =
        let k = body_there s.first 6 untold c rest later p in
        let m = body_there s.second (7 + s.first.count) k.0 c later last q in
        let n = body_there s.third (8 + s.first.count + s.second.count) m.0 c last script r in
        let is : bodies_of (listed s rest) ≡ Ok (n.0, script) =
        bind_then (body_of s.first 6 untold rest) _ (k.0, later) _ k.1 (bind_then (body_of s.second (7 + s.first.count) k.0 later) _ (m.0, last) _ m.1 n.1) in
        let t : Through (n.0, script) = record {
          a = (k.0, later);
          b = (m.0, last);
          first = body_ok s.first 6 untold rest (k.0, later) few₁ k.1;
          second = body_ok s.second (7 + s.first.count) k.0 later (m.0, last) few₂ m.1;
          third = body_ok s.third (8 + s.first.count + s.second.count) m.0 last (n.0, script) few₃ n.1;
        } in
        let all : (x : Section) → Agrees x n.0 c =
        everywhere (λ (x : Section) at. Agrees x n.0 c)
        (agrees s.first.section n.0 c p.body 6 (subst (λ (b : Lines). Has s.first.section n.0 b 6) (same_body _ _ _ _ t.first.lines p.lines) (has₁ (n.0, script) t)) p.says)
        (agrees s.second.section n.0 c q.body _ (subst (λ (b : Lines). Has s.second.section n.0 b (7 + s.first.count)) (same_body _ _ _ _ t.second.lines q.lines) (has₂ (n.0, script) t)) q.says)
        (agrees s.third.section n.0 c r.body _ (subst (λ (b : Lines). Has s.third.section n.0 b (8 + s.first.count + s.second.count)) (same_body _ _ _ _ t.third.lines r.lines) t.third.has) r.says) in
        let head : n.0.tasks.heading + 1 ≡ c.first = ap (λ n. n + 1) (headed (n.0, script) t Tasks).1.1 ∙ sym line in
        (n.0, is, λ i. record { levels = all Levels i; power = all Power i; tasks = all Tasks i; first = head i })
      where
        same_body : (l : List ℕ) (b d r : Lines) → {ls : Lines} → ls ≡ l ∷ (b ++ r) → ls ≡ l ∷ (d ++ r) → b ≡ d
        same_body l b d r h k = let e : b ++ r ≡ d ++ r = cc in append_cancel_right b d r e

    -- bodies that do not pass have a first line that is not of its form
    pub bodies_not : (f : Fault) → bodies_of (listed s rest) ≡ Err f → FirstNot (layout (s.first ∷ s.second ∷ s.third ∷ [])) rest 6 f
    bodies_not f h =
        ⊎_elim (λ (k : body_of s.first 6 untold rest ≡ Err f). body_not s.first 6 untold rest (s.second ∷ s.third ∷ []) f few₁ k)
        (λ (k : (a : Told × Lines) × (body_of s.first 6 untold rest ≡ Ok a) × (after a ≡ Err f)).
        body_past s.first 6 untold rest k.0 (s.second ∷ s.third ∷ []) f (body_ok s.first 6 untold rest k.0 few₁ k.1)
        (second k.0 k.2))
        (bind_err (body_of s.first 6 untold rest) after f h)
      where
        after : Told × Lines → Result (Told × Lines) Fault
        after a = bind (body_of s.second (7 + s.first.count) a.0 a.1) (λ b. body_of s.third (8 + s.first.count + s.second.count) b.0 b.1)

        second : (a : Told × Lines) → after a ≡ Err f → FirstNot (layout (s.second ∷ s.third ∷ [])) a.1 (6 + 1 + s.first.count) f
        second a h =
            let n : 7 + s.first.count ≡ 6 + 1 + s.first.count = omega arith in
            let m : 8 + s.first.count + s.second.count ≡ 7 + s.first.count + 1 + s.second.count = omega arith in
            subst (λ at. FirstNot (layout (s.second ∷ s.third ∷ [])) a.1 at f) n
            (⊎_elim (λ (k : body_of s.second (7 + s.first.count) a.0 a.1 ≡ Err f). body_not s.second (7 + s.first.count) a.0 a.1 (s.third ∷ []) f few₂ k)
            (λ (k : (b : Told × Lines) × (body_of s.second (7 + s.first.count) a.0 a.1 ≡ Ok b) × (body_of s.third (8 + s.first.count + s.second.count) b.0 b.1 ≡ Err f)).
            body_past s.second (7 + s.first.count) a.0 a.1 k.0 (s.third ∷ []) f
            (body_ok s.second (7 + s.first.count) a.0 a.1 k.0 few₂ k.1)
            (subst (λ at. FirstNot (layout (s.third ∷ [])) k.0.1 at f) m
            (body_not s.third (8 + s.first.count + s.second.count) k.0.0 k.0.1 [] f few₃ k.2)))
            (bind_err (body_of s.second (7 + s.first.count) a.0 a.1) (λ b. body_of s.third (8 + s.first.count + s.second.count) b.0 b.1) f h))
