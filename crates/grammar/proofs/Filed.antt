-- What is read of a text is what it means, and a text is refused at the first line at fault.
use Rattle.std.proofs.Common.{◌≡◌, ℕ, zero, suc, ◌+◌, ◌<◌, ◌⊎◌, List, [], ◌∷◌, length, Some, Ok, Err, Result, sym, refl, ap, ◌∙◌, subst, ⊎_elim, arith}
use Rattle.std.proofs.lemmas.Bool.{cases_order}
use Rattle.basis.specs.declared.fault.Fault.{Fault}
use Rattle.basis.specs.Faults.{number_of}
use Rattle.basis.proofs.Reasons.{same_reason}
use Rattle.grammar.specs.declared.section.Section.TheVariants.{Levels, Tasks}
use Rattle.grammar.specs.Binds.{bind}
use Rattle.grammar.specs.Bodies.{Told, bodies_of}
use Rattle.grammar.specs.Contents.{Listed, contents_of}
use Rattle.grammar.specs.Files.{content_of, file_of, unread_of, content_after, script_start}
use Rattle.grammar.specs.Grammar.{Sequence, Announces, Formed, heading_line, LevelRight, TaskRight, Means}
use Rattle.grammar.specs.Passes.{bad_level, bad_task, rising_from, apart_from}
use Rattle.grammar.specs.Refusals.{NotOfForm, layout, BodiesFault, LevelFault, TaskFault, AtFault, Refused, ReadAs}
use Rattle.grammar.specs.Sheets.{Content}
use Rattle.grammar.specs.Texts.{Lines, lines, bytes_from}
use Rattle.grammar.proofs.Announced.{listed, sequence_of, contents-sound, contents_complete, contents_right, contents_fail}
use Rattle.grammar.proofs.Bodied.{Counted}
use Rattle.grammar.proofs.Bound.{not_both, bind_ok, bind_then, bind_err, bind-last}
use Rattle.grammar.proofs.Cleaned.{bytes_pass, bytes-sound, bytes_fail, bytes_complete, lines_of}
use Rattle.grammar.proofs.Ranked.{Judged, judged_right, levels_judged, tasks_judged}
use Rattle.grammar.proofs.Sectioned.{Bodied, bodies_ok, bodies_there, bodies_not}

module _ (text : List ℕ) where
  -- ## A text of the form of a machine file

  -- the bodies after contents of their form
  module _ (s : Sequence) (rest : Lines) (h : Announces (lines text) s rest) where
    few₁ : Counted s.first
    few₁ = (h.first.counts.least, h.first.counts.most)

    few₂ : Counted s.second
    few₂ = (h.second.counts.least, h.second.counts.most)

    few₃ : Counted s.third
    few₃ = (h.third.counts.least, h.third.counts.most)

    bodied : (x : Told × Lines) → bodies_of (listed s rest) ≡ Ok x → Bodied s rest x
    bodied = bodies_ok s h.other₁₂ h.other₁₃ h.other₂₃ few₁ few₂ few₃ rest

    formed : bytes_from 0 0 text ≡ Ok tt → (x : Told × Lines) → bodies_of (listed s rest) ≡ Ok x → Formed text s (content_of x.0) x.1
    formed clean x k =
        let b = bodied x k in
        let pass = bytes_pass text clean in
        record {
          all = lines text;
          bodies = rest;
          later = b.later;
          last = b.last;
          whole = sym pass.1;
          clean = pass.0;
          contents = h;
          first = b.first;
          second = b.second;
          third = b.third;
          line = ap (λ n. n + 1) b.tasks;
        }

  -- what the passes make of such a text
  record Went (s : Sequence) (c : Content) (script : Lines) : Type 0 where
    rest : Lines
    told : Told
    clean : bytes_from 0 0 text ≡ Ok tt
    announces : Announces (lines text) s rest
    contents : contents_of (lines text) ≡ Ok (listed s rest)
    bodies : bodies_of (listed s rest) ≡ Ok (told, script)
    content : content_of told ≡ c

  went : (s : Sequence) (c : Content) (script : Lines) → Formed text s c script → Went s c script
  went s c script h =
      let is : h.all ≡ lines text = sym (ap lines h.whole ∙ lines_of h.all h.clean) in
      let a : Announces (lines text) s h.bodies = subst (λ (ls : Lines). Announces ls s h.bodies) is h.contents in
      let b =
      bodies_there s a.other₁₂ a.other₁₃ a.other₂₃ (few₁ s h.bodies a) (few₂ s h.bodies a) (few₃ s h.bodies a) h.bodies
      c h.later h.last script h.first h.second h.third h.line in
      record {
        rest = h.bodies;
        told = b.0;
        clean = ap (bytes_from 0 0) h.whole ∙ bytes_complete h.all h.clean;
        announces = a;
        contents = contents_complete (lines text) s h.bodies a;
        bodies = b.1;
        content = b.2;
      }

  -- contents announce one sequence, and one rest follows
  announced_once : (s t : Sequence) (p q : Lines) → Announces (lines text) s p → Announces (lines text) t q → listed s p ≡ listed t q
  announced_once s t p q h k = let a = contents_complete (lines text) s p h in let b = contents_complete (lines text) t q k in cc

  formed-once : (s t : Sequence) (c d : Content) (p q : Lines) → Formed text s c p → Formed text t d q → (s ≡ t) × (c ≡ d) × (p ≡ q)
  formed-once s t c d p q h k =
      let a = went s c p h in
      let b = went t d q k in
      let list : listed s a.rest ≡ listed t b.rest = (let x = a.contents in let y = b.contents in cc) in
      let told : (a.told, p) ≡ (b.told, q) = (let x = a.bodies in let y = ap bodies_of list in let z = b.bodies in cc) in (
        ap sequence_of list,
        sym a.content ∙ ap (λ (x : Told × Lines). content_of x.0) told ∙ b.content,
        ap (λ (x : Told × Lines). x.1) told,
      )

  -- ## No line is at fault

  none₃ : (s : Sequence) (rest : Lines) → Announces (lines text) s rest → (x : Told × Lines) → bodies_of (listed s rest) ≡ Ok x → (i : ℕ) → BodiesFault text i → ⊥
  none₃ s rest h x k i w =
      let same = announced_once w.sequence s w.rest rest w.contents h in
      (bodied s rest h x k).right w.k
      (subst (λ (l : Listed). NotOfForm (layout (l.first ∷ l.second ∷ l.third ∷ [])) l.rest w.k) same w.wrong)

  none₄ : (s : Sequence) (c : Content) (p : Lines) → Formed text s c p → ((k : ℕ) → k < length c.levels → LevelRight c.levels k) → (i : ℕ) → LevelFault text i → ⊥
  none₄ s c p h all i w =
      let same : w.content ≡ c = (formed-once w.sequence s w.content c w.script p w.formed h).1 in
      w.wrong (subst (λ (c : Content). (k : ℕ) → k < length c.levels → LevelRight c.levels k) (sym same) all w.k w.few)

  none₅ : (s : Sequence) (c : Content) (p : Lines) → Formed text s c p → ((k : ℕ) → k < length c.tasks → TaskRight c.tasks k) → (i : ℕ) → TaskFault text i → ⊥
  none₅ s c p h all i w =
      let same : w.content ≡ c = (formed-once w.sequence s w.content c w.script p w.formed h).1 in
      w.wrong (subst (λ (c : Content). (k : ℕ) → k < length c.tasks → TaskRight c.tasks k) (sym same) all w.k w.few)

  -- ## What is left of reading after each pass

  abbrev after_levels : Told × Lines → Result (Content × Lines) Fault
  after_levels x = bind (apart_from (x.0.tasks.heading + 1) [] x.0.tasks.items) (λ _. Ok (content_of x.0, x.1))

  abbrev after_bodies : Told × Lines → Result (Content × Lines) Fault
  after_bodies x = bind (rising_from x.0.levels.heading 0 x.0.levels.items) (λ _. after_levels x)

  abbrev after_contents : Listed → Result (Content × Lines) Fault
  after_contents l = bind (bodies_of l) after_bodies

  abbrev after_bytes : Result (Content × Lines) Fault
  after_bytes = bind (contents_of (lines text)) after_contents

  -- the levels and the tasks of bodies that pass
  levels_of : (s : Sequence) (rest : Lines) (h : Announces (lines text) s rest) (x : Told × Lines) → bodies_of (listed s rest) ≡ Ok x
      → Judged (LevelRight x.0.levels.items) bad_level (x.0.levels.heading + 1) (length x.0.levels.items) (rising_from x.0.levels.heading 0 x.0.levels.items)
  levels_of s rest h x k = let b = bodied s rest h x k in levels_judged x.0.levels.heading x.0.levels.items b.some b.least

  tasks_of : (x : Told × Lines) → Judged (TaskRight x.0.tasks.items) bad_task (x.0.tasks.heading + 1) (length x.0.tasks.items) (apart_from (x.0.tasks.heading + 1) [] x.0.tasks.items)
  tasks_of x = tasks_judged (x.0.tasks.heading + 1) x.0.tasks.items

  -- ## What is read

  -- a text that is accepted means what is read, and no line of it is at fault
  accepted : (c : Content) (script : Lines) → file_of text ≡ Ok (c, script) → Means text c script × ((n i : ℕ) → AtFault text n i → ⊥)
  accepted c script e =
      let k₁ = bind_ok (bytes_from 0 0 text) (λ _. after_bytes) (c, script) e in
      let k₂ = bind_ok (contents_of (lines text)) after_contents (c, script) k₁.2 in
      let s : Sequence = sequence_of k₂.0 in
      let rest : Lines = k₂.0.rest in
      let h : Announces (lines text) s rest = contents-sound (lines text) k₂.0 k₂.1 in
      let k₃ = bind_ok (bodies_of k₂.0) after_bodies (c, script) k₂.2 in
      let x : Told × Lines = k₃.0 in
      let k₄ = bind_ok (rising_from x.0.levels.heading 0 x.0.levels.items) (λ _. after_levels x) (c, script) k₃.2 in
      let k₅ = bind_ok (apart_from (x.0.tasks.heading + 1) [] x.0.tasks.items) (λ _. Ok (content_of x.0, x.1)) (c, script) k₄.2 in
      let f : Formed text s (content_of x.0) x.1 = formed s rest h k₁.1 x k₃.1 in
      let ls : (k : ℕ) → k < length x.0.levels.items → LevelRight x.0.levels.items k = (levels_of s rest h x k₃.1).passes k₄.1 in
      let ts : (k : ℕ) → k < length x.0.tasks.items → TaskRight x.0.tasks.items k = (tasks_of x).passes k₅.1 in
      let same : (content_of x.0, x.1) ≡ (c, script) = (let q = k₅.2 in cc) in (
        subst (λ (y : Content × Lines). Means text y.0 y.1) same (record { sequence = s; formed = f; levels = ls; tasks = ts }),
        none k₁.1 s rest h x k₃.1 f ls ts,
      )
    where
      none : bytes_from 0 0 text ≡ Ok tt → (s : Sequence) (rest : Lines) → Announces (lines text) s rest → (x : Told × Lines) → bodies_of (listed s rest) ≡ Ok x
          → Formed text s (content_of x.0) x.1 → ((k : ℕ) → k < length x.0.levels.items → LevelRight x.0.levels.items k)
          → ((k : ℕ) → k < length x.0.tasks.items → TaskRight x.0.tasks.items k) → (n i : ℕ) → AtFault text n i → ⊥
      none clean s rest h x b f ls ts zero i w = w
      none clean s rest h x b f ls ts (suc zero) i w = bytes-sound text clean i w
      none clean s rest h x b f ls ts (suc (suc zero)) i w = w (contents_right (lines text) s rest h i)
      none clean s rest h x b f ls ts (suc (suc (suc zero))) i w = none₃ s rest h x b i w
      none clean s rest h x b f ls ts (suc (suc (suc (suc zero)))) i w = none₄ s (content_of x.0) x.1 f ls i w
      none clean s rest h x b f ls ts (suc (suc (suc (suc (suc zero))))) i w = none₅ s (content_of x.0) x.1 f ts i w
      none clean s rest h x b f ls ts (suc (suc (suc (suc (suc (suc n)))))) i w = w

  -- a text that means something is accepted with it
  meant : (c : Content) (script : Lines) → Means text c script → file_of text ≡ Ok (c, script)
  meant c script m =
      let w = went m.sequence c script m.formed in
      let x : Told × Lines = (w.told, script) in
      let ls = judged_right _ bad_level _ _ _ (levels_of m.sequence w.rest w.announces x w.bodies)
      (subst (λ (c : Content). (k : ℕ) → k < length c.levels → LevelRight c.levels k) (sym w.content) m.levels) in
      let ts = judged_right _ bad_task _ _ _ (tasks_of x)
      (subst (λ (c : Content). (k : ℕ) → k < length c.tasks → TaskRight c.tasks k) (sym w.content) m.tasks) in
      bind_then (bytes_from 0 0 text) (λ _. after_bytes) tt _ w.clean
      (bind_then (contents_of (lines text)) after_contents (listed m.sequence w.rest) _ w.contents
      (bind_then (bodies_of (listed m.sequence w.rest)) after_bodies x _ w.bodies
      (bind_then (rising_from w.told.levels.heading 0 w.told.levels.items) (λ _. after_levels x) tt _ ls
      (bind_then (apart_from (w.told.tasks.heading + 1) [] w.told.tasks.items) (λ _. Ok (content_of w.told, script)) tt _ ts
      (ap (λ (c : Content). Ok (c, script)) w.content)))))

  -- ## What is refused

  -- no line is at fault by an earlier number
  earlier₁ : (n i : ℕ) → n < 1 → AtFault text n i → ⊥
  earlier₁ zero i h w = w
  earlier₁ (suc n) i h w = absurd (omega arith)

  module _ (clean : bytes_from 0 0 text ≡ Ok tt) where
    earlier₂ : (n i : ℕ) → n < 2 → AtFault text n i → ⊥
    earlier₂ zero i h w = w
    earlier₂ (suc zero) i h w = bytes-sound text clean i w
    earlier₂ (suc (suc n)) i h w = absurd (omega arith)

    module _ (s : Sequence) (rest : Lines) (a : Announces (lines text) s rest) where
      earlier₃ : (n i : ℕ) → n < 3 → AtFault text n i → ⊥
      earlier₃ zero i h w = w
      earlier₃ (suc zero) i h w = bytes-sound text clean i w
      earlier₃ (suc (suc zero)) i h w = w (contents_right (lines text) s rest a i)
      earlier₃ (suc (suc (suc n))) i h w = absurd (omega arith)

      -- a line of the bodies
      refused₃ : (f : Fault) → bodies_of (listed s rest) ≡ Err f → Refused text f
      refused₃ f h =
          let w = bodies_not s a.other₁₂ a.other₁₃ a.other₂₃ (few₁ s rest a) (few₂ s rest a) (few₃ s rest a) rest f h in
          subst (Refused text) (sym w.1)
          (record {
            before = 5 + w.0;
            line = ap Some (omega arith);
            own = tt;
            fault = record { sequence = s; rest = rest; k = w.0; contents = a; line = refl; wrong = w.2 };
            first = λ j few v.
                let same = announced_once v.sequence s v.rest rest v.contents a in
                w.3 v.k (omega (arith, v.line))
                (subst (λ (l : Listed). NotOfForm (layout (l.first ∷ l.second ∷ l.third ∷ [])) l.rest v.k) same v.wrong);
            earlier = earlier₃;
          })

      module _ (x : Told × Lines) (b : bodies_of (listed s rest) ≡ Ok x) where
        form : Formed text s (content_of x.0) x.1
        form = formed s rest a clean x b

        earlier₄ : (n i : ℕ) → n < 4 → AtFault text n i → ⊥
        earlier₄ zero i h w = w
        earlier₄ (suc zero) i h w = bytes-sound text clean i w
        earlier₄ (suc (suc zero)) i h w = w (contents_right (lines text) s rest a i)
        earlier₄ (suc (suc (suc zero))) i h w = none₃ s rest a x b i w
        earlier₄ (suc (suc (suc (suc n)))) i h w = absurd (omega arith)

        -- a level
        refused₄ : (f : Fault) → rising_from x.0.levels.heading 0 x.0.levels.items ≡ Err f → Refused text f
        refused₄ f h =
            let w = (levels_of s rest a x b).fails f h in
            let heading : x.0.levels.heading ≡ heading_line Levels s = (bodied s rest a x b).levels in
            subst (Refused text) (sym w.2)
            (record {
              before = x.0.levels.heading + w.0;
              line = ap Some (omega arith);
              own = tt;
              fault = record {
                sequence = s;
                content = content_of x.0;
                script = x.1;
                k = w.0;
                formed = form;
                few = w.1;
                line = ap (λ n. n + w.0) heading;
                wrong = w.3;
              };
              first = λ j few v.
                  let same = formed-once v.sequence s v.content (content_of x.0) v.script x.1 v.formed form in
                  let lines : heading_line Levels v.sequence ≡ heading_line Levels s = ap (heading_line Levels) same.0 in
                  let place : v.k < w.0 = omega (arith, v.line, heading) in
                  v.wrong (subst (λ (c : Content). LevelRight c.levels v.k) (sym same.1) (w.4 v.k place));
              earlier = earlier₄;
            })

        module _ (rises : rising_from x.0.levels.heading 0 x.0.levels.items ≡ Ok tt) where
          earlier₅ : (n i : ℕ) → n < 5 → AtFault text n i → ⊥
          earlier₅ zero i h w = w
          earlier₅ (suc zero) i h w = bytes-sound text clean i w
          earlier₅ (suc (suc zero)) i h w = w (contents_right (lines text) s rest a i)
          earlier₅ (suc (suc (suc zero))) i h w = none₃ s rest a x b i w
          earlier₅ (suc (suc (suc (suc zero)))) i h w = none₄ s (content_of x.0) x.1 form ((levels_of s rest a x b).passes rises) i w
          earlier₅ (suc (suc (suc (suc (suc n))))) i h w = absurd (omega arith)

          -- a task
          refused₅ : (f : Fault) → apart_from (x.0.tasks.heading + 1) [] x.0.tasks.items ≡ Err f → Refused text f
          refused₅ f h =
              let w = (tasks_of x).fails f h in
              let heading : x.0.tasks.heading ≡ heading_line Tasks s = (bodied s rest a x b).tasks in
              subst (Refused text) (sym w.2)
              (record {
                before = x.0.tasks.heading + w.0;
                line = ap Some (omega arith);
                own = tt;
                fault = record {
                  sequence = s;
                  content = content_of x.0;
                  script = x.1;
                  k = w.0;
                  formed = form;
                  few = w.1;
                  line = ap (λ n. n + w.0) heading;
                  wrong = w.3;
                };
                first = λ j few v.
                    let same = formed-once v.sequence s v.content (content_of x.0) v.script x.1 v.formed form in
                    let lines : heading_line Tasks v.sequence ≡ heading_line Tasks s = ap (heading_line Tasks) same.0 in
                    let place : v.k < w.0 = omega (arith, v.line, heading) in
                    v.wrong (subst (λ (c : Content). TaskRight c.tasks v.k) (sym same.1) (w.4 v.k place));
                earlier = earlier₅;
              })

    -- a line of the contents
    refused₂ : (f : Fault) → contents_of (lines text) ≡ Err f → Refused text f
    refused₂ f h =
        let w = contents_fail (lines text) f h in
        subst (Refused text) (sym w.1)
        (record { before = w.0; line = refl; own = tt; fault = w.2; first = λ j few v. v (w.3 j few); earlier = earlier₂ })

  -- a line's bytes
  refused₁ : (f : Fault) → bytes_from 0 0 text ≡ Err f → Refused text f
  refused₁ f h =
      let w = bytes_fail text f h in
      subst (Refused text) (sym w.1) (record { before = w.0; line = refl; own = tt; fault = w.2; first = w.3; earlier = earlier₁ })

  -- a text that is refused has its fault there
  refused : (f : Fault) → file_of text ≡ Err f → Refused text f
  refused f e =
      ⊎_elim (refused₁ f)
      (λ (k₁ : (u : Unit {0}) × (bytes_from 0 0 text ≡ Ok u) × (after_bytes ≡ Err f)).
      ⊎_elim (refused₂ k₁.1 f)
      (λ (k₂ : (l : Listed) × (contents_of (lines text) ≡ Ok l) × (after_contents l ≡ Err f)).
      let s : Sequence = sequence_of k₂.0 in
      let rest : Lines = k₂.0.rest in
      let a : Announces (lines text) s rest = contents-sound (lines text) k₂.0 k₂.1 in
      ⊎_elim (refused₃ k₁.1 s rest a f)
      (λ (k₃ : (x : Told × Lines) × (bodies_of k₂.0 ≡ Ok x) × (after_bodies x ≡ Err f)).
      let x : Told × Lines = k₃.0 in
      ⊎_elim (refused₄ k₁.1 s rest a x k₃.1 f)
      (λ (k₄ : (u : Unit {0}) × (rising_from x.0.levels.heading 0 x.0.levels.items ≡ Ok u) × (after_levels x ≡ Err f)).
      refused₅ k₁.1 s rest a x k₃.1 k₄.1 f
      (bind-last (apart_from (x.0.tasks.heading + 1) [] x.0.tasks.items) (λ _. (content_of x.0, x.1)) f k₄.2))
      (bind_err (rising_from x.0.levels.heading 0 x.0.levels.items) (λ _. after_levels x) f k₃.2))
      (bind_err (bodies_of k₂.0) after_bodies f k₂.2))
      (bind_err (contents_of (lines text)) after_contents f k₁.2))
      (bind_err (bytes_from 0 0 text) (λ _. after_bytes) f e)

  -- ## Both ways

  -- a text is refused with one fault
  refused-once : (f g : Fault) → Refused text f → Refused text g → f ≡ g
  refused-once f g h k =
      ⊎_elim (λ (n : number_of f.reason ≡ number_of g.reason).
      ⊎_elim (λ (b : h.before ≡ k.before).
      let line : f.line ≡ g.line = h.line ∙ ap (λ (x : ℕ). Some (x + 1)) b ∙ sym k.line in
      let why : f.reason ≡ g.reason = same_reason f.reason g.reason h.own k.own n in
      (λ i. record { reason = why i; line = line i }))
      (λ (o : (h.before < k.before) ⊎ (k.before < h.before)).
      absurd (⊎_elim (λ (l : h.before < k.before). k.first h.before l (subst (λ n. AtFault text n h.before) n h.fault))
      (λ (l : k.before < h.before). h.first k.before l (subst (λ n. AtFault text n k.before) (sym n) k.fault)) o))
      (cases_order h.before k.before))
      (λ (o : (number_of f.reason < number_of g.reason) ⊎ (number_of g.reason < number_of f.reason)).
      absurd (⊎_elim (λ (l : number_of f.reason < number_of g.reason). k.earlier (number_of f.reason) h.before l h.fault)
      (λ (l : number_of g.reason < number_of f.reason). h.earlier (number_of g.reason) k.before l k.fault) o))
      (cases_order (number_of f.reason) (number_of g.reason))

  -- what reading answers and its sheet then holds is what the text means, or how it is refused
  pub read_as : ReadAs text (unread_of (file_of text)) (content_after (file_of text))
  read_as =
      record {
        accepted = λ c s h. (accepted c s (is_ok (file_of text) c s h.0 h.1)).0;
        accepts = λ c s m. let k = meant c s m in (ap unread_of k, ap content_after k);
        refused = λ f h. refused f (is_err (file_of text) f h);
        refuses = λ f h. ap unread_of (refuses (file_of text) refl f h);
        once = λ c d s t p q.
            let k : (c, s) ≡ (d, t) = (let x = meant c s p in let y = meant d t q in cc) in
            (ap (λ (x : Content × Lines). x.0) k, ap (λ (x : Content × Lines). x.1) k);
      }
    where
      is_ok : (r : Result (Content × Lines) Fault) (c : Content) (s : Lines) → unread_of r ≡ Ok (script_start c, s) → content_after r ≡ c → r ≡ Ok (c, s)
      is_ok (Ok x) c s h k =
          let p : (script_start x.0, x.1) ≡ (script_start c, s) = cc in
          (λ i. Ok (k i, ap (λ (x : ℕ × Lines). x.1) p i))
      is_ok (Err e) c s h k = absurd (not_both h)

      is_err : (r : Result (Content × Lines) Fault) (f : Fault) → unread_of r ≡ Err f → r ≡ Err f
      is_err (Ok x) f h = absurd (not_both (sym h))
      is_err (Err e) f h = let k : e ≡ f = cc in (λ i. Err (k i))

      refuses : (r : Result (Content × Lines) Fault) → file_of text ≡ r → (f : Fault) → Refused text f → r ≡ Err f
      refuses (Ok x) e f h = absurd ((accepted x.0 x.1 e).1 (number_of f.reason) h.before h.fault)
      refuses (Err g) e f h = let k : g ≡ f = refused-once g f (refused g e) h in (λ i. Err (k i))
