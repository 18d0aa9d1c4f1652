-- The check of the bytes, line by line.
use Rattle.std.proofs.Common.{◌≡◌, ℕ, zero, suc, ◌+◌, ◌<◌, true, false, cond, ◌&&◌, ◌||◌, eqb, ltb, leb, ◌≢◌, ◌⊎◌, List, [], ◌∷◌, ◌++◌, length, Some, Ok, Err, Result, sym, refl, ap, ◌∙◌, subst, inl, inr, ⊎_elim, append_assoc, append-nil, arith, lit≤, length-append}
use Rattle.std.specs.List.{slice_get}
use Rattle.std.proofs.lemmas.Bool.{eqb-true, or_cases, or_parts, or_from, cases_Bool, and_parts, and_from, le-leb, leb-true, eq-eqb, or_left, or_right, lt-ltb, ltb-true, cond-true, ne_eqb, both_ways}
use Rattle.basis.specs.declared.fault.Fault.{Fault}
use Rattle.grammar.specs.Grammar.{Each, Letter, Digit, IsClean, text_of}
use Rattle.grammar.specs.Refusals.{fed, end_of, BytesFault}
use Rattle.grammar.specs.Texts.{Lines, allowed, bad_bytes, bytes_from, lines, onto}
use Rattle.grammar.proofs.Bound.{not_both}

-- ## Where a text is cut

-- no line feed is in the one nor in the other
fed-append : (a b : List ℕ) → fed a ≡ false → fed (a ++ b) ≡ fed b
fed-append [] b h = refl
fed-append (x ∷ a) b h =
    let p = or_parts (eqb x 10) (fed a) h in
    let q = fed-append a b p.1 in
    ap (λ v. v || fed (a ++ b)) p.0 ∙ q

fed_there : (a b : List ℕ) → fed (a ++ 10 ∷ b) ≡ true
fed_there [] b = refl
fed_there (x ∷ a) b = or_right (eqb x 10) (fed (a ++ 10 ∷ b)) (fed_there a b)

-- the first line of a text, and what follows its line feed
pub lines_cut : (a b : List ℕ) → fed a ≡ false → lines (a ++ 10 ∷ b) ≡ a ∷ lines b
lines_cut [] b h = refl
lines_cut (x ∷ a) b h =
    let p = or_parts (eqb x 10) (fed a) h in
    ap (λ v. cond v ([] ∷ lines (a ++ 10 ∷ b)) (onto x (lines (a ++ 10 ∷ b)))) p.0 ∙ ap (onto x) (lines_cut a b p.1)

pub end_cut : (a b : List ℕ) → end_of (a ++ 10 ∷ b) ≡ end_of b
end_cut [] b = refl
end_cut (x ∷ a) b =
    ap (λ v. cond v (end_of (a ++ 10 ∷ b)) (x ∷ (a ++ 10 ∷ b))) (fed_there (x ∷ a) b) ∙ end_cut a b

-- a text without a line feed is no line
lines_none : (a : List ℕ) → fed a ≡ false → lines a ≡ []
lines_none [] h = refl
lines_none (x ∷ a) h =
    let p = or_parts (eqb x 10) (fed a) h in
    ap (λ v. cond v ([] ∷ lines a) (onto x (lines a))) p.0 ∙ ap (onto x) (lines_none a p.1)

end_none : (a : List ℕ) → fed a ≡ false → end_of a ≡ a
end_none [] h = refl
end_none (x ∷ a) h = ap (λ v. cond v (end_of a) (x ∷ a)) h

-- a text with a line feed has a first line
first-line : (a : List ℕ) → fed a ≡ true → (l : List ℕ) × (b : List ℕ) × (a ≡ l ++ 10 ∷ b) × (fed l ≡ false)
first-line [] h = absurd (both_ways false refl h)
first-line (x ∷ a) h =
    elim (eqb x 10) as (λ v. eqb x 10 ≡ v → (l : List ℕ) × (b : List ℕ) × (x ∷ a ≡ l ++ 10 ∷ b) × (fed l ≡ false)) [
      | true ↦ λ e. ([], a, ap (λ y. y ∷ a) (eqb-true x 10 e), refl)
      | false ↦ λ e.
          let more = first-line a (ap (λ v. v || fed a) (sym e) ∙ h) in
          (x ∷ more.0, more.1, ap (λ y. x ∷ y) more.2, or_from (eqb x 10) (fed more.0) e more.3)
    ] refl

-- ## What a clean line has

-- an allowed byte is a letter, a digit or a space, and so no line feed
abbrev Fair : ℕ → Type 0
Fair b = Letter b ⊎ (Digit b ⊎ (b ≡ 32))

fair_allowed : (b : ℕ) → Fair b → allowed b ≡ true
fair_allowed b (inl h) = or_left _ _ (and_from _ _ (le-leb 97 b h.0) (le-leb b 122 h.1))
fair_allowed b (inr (inl h)) = or_right _ _ (or_left _ _ (and_from _ _ (le-leb 48 b h.0) (le-leb b 57 h.1)))
fair_allowed b (inr (inr h)) = or_right (leb 97 b && leb b 122) _ (or_right (leb 48 b && leb b 57) _ (eq-eqb b 32 h))

allowed_fair : (b : ℕ) → allowed b ≡ true → Fair b
allowed_fair b h =
    ⊎_elim (λ (k : (leb 97 b && leb b 122) ≡ true). let p = and_parts _ _ k in inl (leb-true 97 b p.0, leb-true b 122 p.1))
    (λ (k : ((leb 48 b && leb b 57) || eqb b 32) ≡ true).
    ⊎_elim (λ (k : (leb 48 b && leb b 57) ≡ true). let p = and_parts _ _ k in inr (inl (leb-true 48 b p.0, leb-true b 57 p.1)))
    (λ (k : eqb b 32 ≡ true). inr (inr (eqb-true b 32 k))) (or_cases _ _ k)) (or_cases _ _ h)

fair_no_feed : (b : ℕ) → Fair b → eqb b 10 ≡ false
fair_no_feed b (inl h) = ne_eqb b 10 (λ e. omega arith)
fair_no_feed b (inr (inl h)) = ne_eqb b 10 (λ e. omega arith)
fair_no_feed b (inr (inr h)) = ne_eqb b 10 (λ e. omega arith)

each_unfed : (l : List ℕ) → Each Fair l → fed l ≡ false
each_unfed [] h = refl
each_unfed (b ∷ l) h = or_from (eqb b 10) (fed l) (fair_no_feed b h.0) (each_unfed l h.1)

pub clean_unfed : (l : List ℕ) → IsClean l → fed l ≡ false
clean_unfed l h = each_unfed l h.bytes

each_push : (l : List ℕ) (b : ℕ) → Each Fair l → Fair b → Each Fair (l ++ b ∷ [])
each_push [] b h k = (k, tt)
each_push (x ∷ l) b h k = (h.0, each_push l b h.1 k)

each_at : (l : List ℕ) (b : ℕ) (m : List ℕ) → Each Fair (l ++ b ∷ m) → Fair b
each_at [] b m h = h.0
each_at (x ∷ l) b m h = each_at l b m h.1

-- ## The check, line by line

-- line i + 1 of some lines is not clean, or is missing its line feed
abbrev Wrong : Lines → List ℕ → ℕ → Type 0
Wrong ls end i = ((l : List ℕ) × (slice_get ls i ≡ Some l) × (IsClean l → ⊥)) ⊎ ((i ≡ length ls) × (end ≢ []))

-- what the check says of a text with these lines, after `before` others
record Judged (before : ℕ) (r : Result (Unit {0}) Fault) (text : List ℕ) (ls : Lines) (end : List ℕ) : Type 0 where
  passes : r ≡ Ok tt → Each IsClean ls × (text_of ls ≡ text) × (end ≡ [])
  fails : (f : Fault) → r ≡ Err f → (i : ℕ) × (f ≡ bad_bytes (before + 1 + i)) × Wrong ls end i × ((j : ℕ) → j < i → Wrong ls end j → ⊥)

-- a line more in front
wrong-later : (p : List ℕ) (ls : Lines) (end : List ℕ) (i : ℕ) → Wrong ls end i → Wrong (p ∷ ls) end (suc i)
wrong-later p ls end i (inl h) = inl h
wrong-later p ls end i (inr h) = inr (omega (arith, h.0), h.1)

not_later : (p : List ℕ) (ls : Lines) (end : List ℕ) (i : ℕ) → IsClean p → ((j : ℕ) → j < i → Wrong ls end j → ⊥) → (j : ℕ) → j < suc i → Wrong (p ∷ ls) end j → ⊥
not_later p ls end i clean before zero k (inl h) = h.2 (let same : p ≡ h.0 = (let q = h.1 in cc) in subst IsClean same clean)
not_later p ls end i clean before zero k (inr h) = omega (arith, h.0)
not_later p ls end i clean before (suc j) k (inl h) = before j (omega arith) (inl h)
not_later p ls end i clean before (suc j) k (inr h) = before j (omega arith) (inr (omega (arith, h.0), h.1))

with_line : (before : ℕ) (r : Result (Unit {0}) Fault) (p b : List ℕ) (ls : Lines) (end : List ℕ)
    → IsClean p → Judged (before + 1) r b ls end → Judged before r (p ++ 10 ∷ b) (p ∷ ls) end
with_line before r p b ls end clean h =
    record {
      passes = λ e. let k = h.passes e in ((clean, k.0), ap (λ t. p ++ 10 ∷ t) k.1, k.2);
      fails = λ f e.
          let k = h.fails f e in
          let n : before + 1 + 1 + k.0 ≡ before + 1 + suc k.0 = omega arith in
          (suc k.0, k.1 ∙ ap bad_bytes n, wrong-later p ls end k.0 k.2, not_later p ls end k.0 clean k.3);
    }

-- a byte that is not allowed, or one too many, is in the first line or in what is missing its line feed
wrong-here : (p : List ℕ) (b : ℕ) (bs : List ℕ) → IsClean p → eqb b 10 ≡ false → (allowed b && ltb (length p) 40) ≡ false
    → Wrong (lines (p ++ b ∷ bs)) (end_of (p ++ b ∷ bs)) 0
wrong-here p b bs clean nofeed bad =
    ⊎_elim (λ (h : fed bs ≡ true).
    let k = first-line bs h in
    let l : List ℕ = p ++ b ∷ k.0 in
    let unfed : fed l ≡ false = fed-append p (b ∷ k.0) (clean_unfed p clean) ∙ or_from (eqb b 10) (fed k.0) nofeed k.3 in
    let cut : p ++ b ∷ bs ≡ l ++ 10 ∷ k.1 = ap (λ t. p ++ b ∷ t) k.2 ∙ sym (append_assoc p (b ∷ k.0) (10 ∷ k.1)) in
    let here : lines (p ++ b ∷ bs) ≡ l ∷ lines k.1 = ap lines cut ∙ lines_cut l k.1 unfed in
    let dirty : IsClean l → ⊥ =
    (λ c. both_ways _ bad (and_from _ _ (fair_allowed b (each_at p b k.0 c.bytes))
    (lt-ltb (length p) 40 (omega (arith, c.few, length-append p (b ∷ k.0)))))) in
    inl (l, ap (λ (ls : Lines). slice_get ls 0) here, dirty))
    (λ (h : fed bs ≡ false).
    let unfed : fed (p ++ b ∷ bs) ≡ false = fed-append p (b ∷ bs) (clean_unfed p clean) ∙ or_from (eqb b 10) (fed bs) nofeed h in
    inr (
      ap length (sym (lines_none (p ++ b ∷ bs) unfed)),
      λ e. omega (arith, ap length (sym (end_none (p ++ b ∷ bs) unfed) ∙ e), length-append p (b ∷ bs)),
    ))
    (cases_Bool (fed bs))

refused-here : (before : ℕ) (text : List ℕ) (ls : Lines) (end : List ℕ) → Wrong ls end 0 → Judged before (Err (bad_bytes (before + 1))) text ls end
refused-here before text ls end wrong =
    record {
      passes = λ e. absurd (not_both e);
      fails = λ f e.
          let same : bad_bytes (before + 1) ≡ f = cc in
          let n : before + 1 ≡ before + 1 + 0 = omega arith in
          (0, sym same ∙ ap bad_bytes n, wrong, λ j k _. omega arith);
    }

nothing_left : (p : List ℕ) (before : ℕ) → IsClean p → Judged before (bytes_from before (length p) []) p (lines p) (end_of p)
nothing_left [] before clean = record { passes = λ e. (tt, refl, refl); fails = λ f e. absurd (not_both (sym e)) }
nothing_left (b ∷ p) before clean =
    let unfed : fed (b ∷ p) ≡ false = clean_unfed (b ∷ p) clean in
    let short : Err (bad_bytes (before + 1)) ≡ bytes_from before (length (b ∷ p)) [] =
    sym (cond-true (ltb 0 (length (b ∷ p))) (Err (bad_bytes (before + 1))) (Ok tt) (lt-ltb 0 (length (b ∷ p)) (omega arith))) in
    subst (λ (r : Result (Unit {0}) Fault). Judged before r (b ∷ p) (lines (b ∷ p)) (end_of (b ∷ p))) short
    (refused-here before (b ∷ p) (lines (b ∷ p)) (end_of (b ∷ p))
    (inr (ap length (sym (lines_none (b ∷ p) unfed)), λ e. omega (arith, ap length (sym (end_none (b ∷ p) unfed) ∙ e)))))

clean_push : (p : List ℕ) (b : ℕ) → IsClean p → (allowed b && ltb (length p) 40) ≡ true → IsClean (p ++ b ∷ [])
clean_push p b clean h =
    let k = and_parts (allowed b) (ltb (length p) 40) h in
    record {
      bytes = each_push p b clean.bytes (allowed_fair b k.0);
      few = omega (arith, ltb-true (length p) 40 k.1, length-append p (b ∷ []));
    }

-- the check of what follows a clean start of a line
judge : (t p : List ℕ) (before : ℕ) → IsClean p → Judged before (bytes_from before (length p) t) (p ++ t) (lines (p ++ t)) (end_of (p ++ t))
judge [] p before clean = rw (append-nil p) (nothing_left p before clean)
judge (b ∷ bs) p before clean =
    elim (eqb b 10) as (λ v. eqb b 10 ≡ v →
    Judged before (cond v (bytes_from (before + 1) 0 bs)
    (cond (allowed b && ltb (length p) 40) (bytes_from before (length p + 1) bs) (Err (bad_bytes (before + 1)))))
    (p ++ b ∷ bs) (lines (p ++ b ∷ bs)) (end_of (p ++ b ∷ bs))) [
      | true ↦ λ e.
          let feed : b ≡ 10 = eqb-true b 10 e in
          let unfed : fed p ≡ false = clean_unfed p clean in
          rw (feed, lines_cut p bs unfed, end_cut p bs)
          (with_line before _ p bs (lines bs) (end_of bs) clean (judge bs [] (before + 1) (record { bytes = tt; few = lit≤ tt })))
      | false ↦ λ e.
          elim (allowed b && ltb (length p) 40) as (λ v. (allowed b && ltb (length p) 40) ≡ v →
          Judged before (cond v (bytes_from before (length p + 1) bs) (Err (bad_bytes (before + 1)))) (p ++ b ∷ bs) (lines (p ++ b ∷ bs)) (end_of (p ++ b ∷ bs))) [
            | true ↦ λ k.
                let more = judge bs (p ++ b ∷ []) before (clean_push p b clean k) in
                let n : length (p ++ b ∷ []) ≡ length p + 1 = length-append p (b ∷ []) in
                rw (n, append_assoc p (b ∷ []) bs) at more
            | false ↦ λ k. refused-here before (p ++ b ∷ bs) _ _ (wrong-here p b bs clean e k)
          ] refl
    ] refl

-- ## The whole text

judged : (text : List ℕ) → Judged 0 (bytes_from 0 0 text) text (lines text) (end_of text)
judged text = judge text [] 0 (record { bytes = tt; few = lit≤ tt })

-- a text that passes is made up of clean lines
pub bytes_pass : (text : List ℕ) → bytes_from 0 0 text ≡ Ok tt → Each IsClean (lines text) × (text_of (lines text) ≡ text)
bytes_pass text h = let k = (judged text).passes h in (k.0, k.1)

each_nth : {A : Type 0} (P : A → Type 0) (xs : List A) (i : ℕ) (x : A) → Each P xs → slice_get xs i ≡ Some x → P x
each_nth P [] i x h e = absurd (let z : ◌≡◌ {A = ℕ} 0 1 = cc in omega arith)
each_nth P (y ∷ xs) zero x h e = let same : y ≡ x = cc in subst P same h.0
each_nth P (y ∷ xs) (suc i) x h e = each_nth P xs i x h.1 e

-- of clean lines none is at fault
pub no_bytes_fault : (text : List ℕ) → Each IsClean (lines text) → end_of text ≡ [] → (i : ℕ) → BytesFault text i → ⊥
no_bytes_fault text clean end i (inl h) = h.2 (each_nth IsClean (lines text) i h.0 clean h.1)
no_bytes_fault text clean end i (inr h) = h.1 end

pub bytes-sound : (text : List ℕ) → bytes_from 0 0 text ≡ Ok tt → (i : ℕ) → BytesFault text i → ⊥
bytes-sound text h = let k = (judged text).passes h in no_bytes_fault text k.0 k.2

-- a text that does not pass is refused at the first line at fault
pub bytes_fail : (text : List ℕ) (f : Fault) → bytes_from 0 0 text ≡ Err f
    → (i : ℕ) × (f ≡ bad_bytes (i + 1)) × BytesFault text i × ((j : ℕ) → j < i → BytesFault text j → ⊥)
bytes_fail text f h =
    let k = (judged text).fails f h in
    let n : 0 + 1 + k.0 ≡ k.0 + 1 = omega arith in
    (k.0, k.1 ∙ ap bad_bytes n, k.2, k.3)

-- ## Text of lines

-- the lines of a text of clean lines are these
pub lines_of : (ls : Lines) → Each IsClean ls → lines (text_of ls) ≡ ls
lines_of [] h = refl
lines_of (l ∷ ls) h = lines_cut l (text_of ls) (clean_unfed l h.0) ∙ ap (λ (ls : Lines). l ∷ ls) (lines_of ls h.1)

pub end_of_lem : (ls : Lines) → end_of (text_of ls) ≡ []
end_of_lem [] = refl
end_of_lem (l ∷ ls) = end_cut l (text_of ls) ∙ end_of_lem ls

-- and it passes
pub bytes_complete : (ls : Lines) → Each IsClean ls → bytes_from 0 0 (text_of ls) ≡ Ok tt
bytes_complete ls h = none (bytes_from 0 0 (text_of ls)) refl
  where
    none : (r : Result (Unit {0}) Fault) → bytes_from 0 0 (text_of ls) ≡ r → r ≡ Ok tt
    none (Ok x) e = refl
    none (Err f) e =
        let k = bytes_fail (text_of ls) f e in
        absurd (no_bytes_fault (text_of ls) (subst (Each IsClean) (sym (lines_of ls h)) h) (end_of_lem ls) k.0 k.2)
