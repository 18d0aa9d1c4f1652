-- The lines of the script, and the script, are as the grammar says.
use Rattle.std.proofs.Common.{◌≡◌, ℕ, zero, suc, ◌+◌, ◌<◌, ◌&&◌, ◌⊎◌, List, [], ◌∷◌, Ok, Err, Decides, Result, sym, refl, ap, ◌∙◌, subst, ⊎_elim, arith}
use Rattle.std.proofs.lemmas.Bool.{cases_order}
use Rattle.std.proofs.lemmas.Bool.Decides.{Decides-eqb, Decides-and, Decides-or}
use Rattle.basis.specs.declared.fault.Fault.{Fault}
use Rattle.grammar.specs.declared.letters.Letters.{Letters}
use Rattle.grammar.specs.Binds.{bind}
use Rattle.grammar.specs.Grammar.{Pairs, IsMark, IsScriptLine}
use Rattle.grammar.specs.Refusals.{ScriptFault, ScriptRefused, ScriptReadAs}
use Rattle.grammar.specs.Scripts.{mark, bad_script, script_line_of, script_from}
use Rattle.grammar.specs.Texts.{Lines}
use Rattle.grammar.proofs.Answered.{Gives, fault, gives_ok, gives_err, gives_cond}
use Rattle.grammar.proofs.Bound.{not_both, bind_ok, bind_then, bind_err, bind-last}
use Rattle.grammar.proofs.Fronts.{nowhere}

-- the test of a mark tells whether the grammar has it, and so does the test of two
decides_mark : (b : ℕ) → Decides (mark b) (IsMark b)
decides_mark b =
    Decides-or _ _ (Decides-eqb b 109) (Decides-or _ _ (Decides-eqb b 103) (Decides-or _ _ (Decides-eqb b 98)
    (Decides-or _ _ (Decides-eqb b 120) (Decides-eqb b 114))))

decides_marks : (p s : ℕ) → Decides (mark p && mark s) (IsMark p × IsMark s)
decides_marks p s = Decides-and _ _ (decides_mark p) (decides_mark s)

-- a line that is read is of its form, and any other gets its fault
script_gives : (at : ℕ) (l : List ℕ) → Gives (bad_script at) (IsScriptLine l) (script_line_of at l)
script_gives at [] = fault
script_gives at (p ∷ []) = fault
script_gives at (p ∷ s ∷ []) =
    gives_cond (mark p && mark s) _ (λ t. let m = (decides_marks p s).0 t in record { line = refl; primary = m.0; spare = m.1 })
script_gives at (p ∷ s ∷ t ∷ ts) = fault

-- a script line is read exactly where the grammar has one, and any other line gets the fault of its number
pub script-sound : (at : ℕ) (l : List ℕ) (x : Letters) → script_line_of at l ≡ Ok x → IsScriptLine l x
script-sound at l x = gives_ok x (script_gives at l)

pub script_complete : (at : ℕ) (l : List ℕ) (x : Letters) → IsScriptLine l x → script_line_of at l ≡ Ok x
script_complete at l x h = rw (h.line, (decides_marks x.primary x.spare).1 (h.primary, h.spare))

pub script-fault : (at : ℕ) (l : List ℕ) (g : Fault) → script_line_of at l ≡ Err g → g ≡ bad_script at
script-fault at l g = gives_err g (script_gives at l)

-- ## The whole script

-- lines that pass say the letters
letters-sound : (at : ℕ) (ls : Lines) (xs : List Letters) → script_from at ls ≡ Ok xs → Pairs IsScriptLine ls xs
letters-sound at [] xs h = let e : [] ≡ xs = cc in subst (Pairs IsScriptLine []) e tt
letters-sound at (l ∷ ls) xs h =
    let k = bind_ok (script_line_of at l) (λ x. bind (script_from (at + 1) ls) (λ xs. Ok (x ∷ xs))) xs h in
    let m = bind_ok (script_from (at + 1) ls) (λ xs. Ok (k.0 ∷ xs)) xs k.2 in
    let e : k.0 ∷ m.0 ≡ xs = (let q = m.2 in cc) in
    subst (Pairs IsScriptLine (l ∷ ls)) e (script-sound at l k.0 k.1, letters-sound (at + 1) ls m.0 m.1)

-- lines that say letters pass
letters_complete : (at : ℕ) (ls : Lines) (xs : List Letters) → Pairs IsScriptLine ls xs → script_from at ls ≡ Ok xs
letters_complete at [] [] h = refl
letters_complete at [] (x ∷ xs) h = absurd h
letters_complete at (l ∷ ls) [] h = absurd h
letters_complete at (l ∷ ls) (x ∷ xs) h =
    bind_then (script_line_of at l) (λ x. bind (script_from (at + 1) ls) (λ xs. Ok (x ∷ xs))) x (Ok (x ∷ xs)) (script_complete at l x h.0)
    (bind_then (script_from (at + 1) ls) (λ xs. Ok (x ∷ xs)) xs (Ok (x ∷ xs)) (letters_complete (at + 1) ls xs h.1) refl)

-- of lines that say letters none is at fault
no_script_fault : (ls : Lines) (xs : List Letters) → Pairs IsScriptLine ls xs → (i : ℕ) → ScriptFault ls i → ⊥
no_script_fault [] xs h i w = nowhere w.1
no_script_fault (l ∷ ls) [] h i w = h
no_script_fault (l ∷ ls) (x ∷ xs) h zero w =
    let same : l ≡ w.0 = (let q = w.1 in cc) in
    w.2 x (subst (λ (l : List ℕ). IsScriptLine l x) same h.0)
no_script_fault (l ∷ ls) (x ∷ xs) h (suc i) w = no_script_fault ls xs h.1 i w

-- lines that do not pass are refused at the first that is at fault
letters_fail : (at : ℕ) (ls : Lines) (f : Fault) → script_from at ls ≡ Err f → ScriptRefused at ls f
letters_fail at [] f h = absurd (not_both (sym h))
letters_fail at (l ∷ ls) f h =
    ⊎_elim (λ (e : script_line_of at l ≡ Err f).
    let n : at ≡ at + 0 = omega arith in
    record {
      before = 0;
      is = script-fault at l f e ∙ ap bad_script n;
      fault = (l, refl, λ x is. not_both (sym e ∙ script_complete at l x is));
      first = λ j few w. omega arith;
    })
    (λ (k : (x : Letters) × (script_line_of at l ≡ Ok x) × (bind (script_from (at + 1) ls) (λ xs. Ok (x ∷ xs)) ≡ Err f)).
    let more = letters_fail (at + 1) ls f (bind-last (script_from (at + 1) ls) (λ xs. k.0 ∷ xs) f k.2) in
    let n : at + 1 + more.before ≡ at + suc more.before = omega arith in
    record {
      before = suc more.before;
      is = more.is ∙ ap bad_script n;
      fault = more.fault;
      first = earlier more.before k.0 (script-sound at l k.0 k.1) more.first;
    })
    (bind_err (script_line_of at l) (λ x. bind (script_from (at + 1) ls) (λ xs. Ok (x ∷ xs))) f h)
  where
    earlier : (n : ℕ) (x : Letters) → IsScriptLine l x → ((j : ℕ) → j < n → ScriptFault ls j → ⊥) → (j : ℕ) → j < suc n → ScriptFault (l ∷ ls) j → ⊥
    earlier n x is more zero few w =
        let same : l ≡ w.0 = (let q = w.1 in cc) in
        w.2 x (subst (λ (l : List ℕ). IsScriptLine l x) same is)
    earlier n x is more (suc j) few w = more j (omega arith) w

-- a script is refused with one fault
script-once : (at : ℕ) (ls : Lines) (f g : Fault) → ScriptRefused at ls f → ScriptRefused at ls g → f ≡ g
script-once at ls f g h k =
    ⊎_elim (λ (b : h.before ≡ k.before). h.is ∙ ap (λ n. bad_script (at + n)) b ∙ sym k.is)
    (λ (o : (h.before < k.before) ⊎ (k.before < h.before)).
    absurd (⊎_elim (λ (l : h.before < k.before). k.first h.before l h.fault) (λ (l : k.before < h.before). h.first k.before l k.fault) o))
    (cases_order h.before k.before)

-- what reading a script answers is what its lines say, or how they are refused
pub script_read_as : (at : ℕ) (ls : Lines) → ScriptReadAs at ls (script_from at ls)
script_read_as at ls =
    record {
      accepted = letters-sound at ls;
      accepts = letters_complete at ls;
      refused = letters_fail at ls;
      refuses = λ f h. refuses (script_from at ls) refl f h;
    }
  where
    refuses : (r : Result (List Letters) Fault) → script_from at ls ≡ r → (f : Fault) → ScriptRefused at ls f → r ≡ Err f
    refuses (Ok xs) e f h = absurd (no_script_fault ls xs (letters-sound at ls xs e) h.before h.fault)
    refuses (Err g) e f h = let k : g ≡ f = script-once at ls g f (letters_fail at ls g e) h in (λ i. Err (k i))
