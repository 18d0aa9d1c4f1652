-- The tests of names and numbers, and the grammar of them, say the same.
use Rattle.std.proofs.Common.{◌≡◌, ℕ, ◌+◌, ◌-◌, ◌*◌, ◌≤◌, Bool, true, false, cond, leb, ◌≢◌, ◌⊎◌, List, [], ◌∷◌, length, get_or, Some, None, Decides, Option, sym, refl, ap, ◌∙◌, subst, inl, inr, ⊎_elim, arith}
use Rattle.std.specs.Option.{option_map}
use Rattle.std.proofs.lemmas.Bool.{leb-true, le-leb, cases_lt}
use Rattle.std.proofs.lemmas.Bool.Decides.{nat_tests, Decides-eqb, Decides-like, Decides-not, Decides-and, Decides-or}
use Rattle.grammar.specs.Bytes.{within, digit, letters, spells_name, digits_from, sized, number_of}
use Rattle.grammar.specs.Grammar.{Each, Letter, Digit, IsName, value_from, IsNumber}
use Rattle.grammar.specs.Words.{Seen, name, number, word_of}

-- each test tells whether the grammar's words hold: of an order
decides_leb : (a b : ℕ) → Decides (leb a b) (a ≤ b)
decides_leb a b = (leb-true a b, le-leb a b)

-- of a range
pub decides_within : (low high v : ℕ) → Decides (within low high v) ((low ≤ v) × (v ≤ high))
decides_within low high v = Decides-and _ _ (decides_leb low v) (decides_leb v high)

-- of letters
decides_letters : (s : List ℕ) → Decides (letters s) (Each Letter s)
decides_letters [] = (λ _. tt, λ _. refl)
decides_letters (b ∷ bs) = Decides-and _ _ (decides_within 97 122 b) (decides_letters bs)

-- of a name
pub decides_name : (s : List ℕ) → Decides (spells_name s) (IsName s)
decides_name s =
    Decides-like (spells_name s) (λ p. record { some = p.0.0; few = p.0.1; letters = p.1 }) (λ h. ((h.some, h.few), h.letters))
    (Decides-and _ _ (decides_within 1 8 (length s)) (decides_letters s))

-- what passed a test
cond-some : {A : Type 0} (t : Bool) (o : Option A) (x : A) → cond t o None ≡ Some x → (t ≡ true) × (o ≡ Some x)
cond-some true o x e = (refl, e)
cond-some false o x e = absurd (let z : ◌≡◌ {A = ℕ} 0 1 = cc in omega arith)

-- digits are read to what they spell, and nothing else is
digits-sound : (v : ℕ) (s : List ℕ) (w : ℕ) → digits_from v s ≡ Some w → Each Digit s × (w ≡ value_from v s)
digits-sound v [] w e = (tt, cc)
digits-sound v (b ∷ bs) w e =
    let k = cond-some (digit b) (digits_from (v * 10 + (b - 48)) bs) w e in
    let d = digits-sound (v * 10 + (b - 48)) bs w k.1 in
    (((decides_within 48 57 b).0 k.0, d.0), d.1)

digits_complete : (v : ℕ) (s : List ℕ) → Each Digit s → digits_from v s ≡ Some (value_from v s)
digits_complete v [] h = refl
digits_complete v (b ∷ bs) h = rw ((decides_within 48 57 b).1 h.0) (digits_complete (v * 10 + (b - 48)) bs h.1)

-- of a number's length, with no zero in front of another byte
decides_sized : (s : List ℕ) → Decides (sized s) (((1 ≤ length s) × (length s ≤ 6)) × ((length s ≤ 1) ⊎ (get_or s 0 0 ≢ 48)))
decides_sized s =
    Decides-and _ _ (decides_within 1 6 (length s)) (Decides-or _ _ (decides_leb (length s) 1) (Decides-not _ (Decides-eqb (get_or s 0 0) 48)))

-- a number is read exactly where the grammar has one
number-sound : (s : List ℕ) (v : ℕ) → number_of s ≡ Some v → IsNumber s v
number-sound s v e =
    let k = cond-some (sized s) (digits_from 0 s) v e in
    let z = (decides_sized s).0 k.0 in
    let d = digits-sound 0 s v k.1 in
    record { some = z.0.0; few = z.0.1; digits = d.0; plain = λ g q. omega arith; spells = d.1 }

number_complete : (s : List ℕ) (v : ℕ) → IsNumber s v → number_of s ≡ Some v
number_complete s v h =
    let plain = ⊎_elim (λ g. inr (h.plain g)) (λ g. inl g) (cases_lt 1 (length s)) in
    let z = (decides_sized s).1 ((h.some, h.few), plain) in
    rw z (digits_complete 0 s h.digits ∙ ap (λ x. Some x) (sym h.spells))

-- a number is no name
not_name : (s : List ℕ) (v : ℕ) → IsNumber s v → spells_name s ≡ false
not_name [] v h = refl
not_name (b ∷ bs) v h = let d = h.digits.0 in grind (arith, nat_tests, d)

-- a piece of a line spells a word
abbrev pub Spells : Seen → List ℕ → Type 0
Spells (name t at) s = IsName s × (t ≡ s)
Spells (number v at) s = IsNumber s v

-- a word is read only from a piece that spells it
pub word_sound : (at : ℕ) (s : List ℕ) (w : Seen) → word_of at s ≡ Some w → Spells w s
word_sound at s w = go (spells_name s) (number_of s) (decides_name s).0 (number-sound s)
  where
    go : (t : Bool) (o : Option ℕ) → (t ≡ true → IsName s) → ((v : ℕ) → o ≡ Some v → IsNumber s v)
        → cond t (Some (name s at)) (option_map (λ v. number v at) o) ≡ Some w → Spells w s
    go true o n d e = let q : name s at ≡ w = cc in subst (λ w. Spells w s) q (n refl, refl)
    go false None n d e = absurd (let z : ◌≡◌ {A = ℕ} 0 1 = cc in omega arith)
    go false (Some v) n d e = let q : number v at ≡ w = cc in subst (λ w. Spells w s) q (d v refl)

-- and from each name and each number
pub name_word : (at : ℕ) (s : List ℕ) → IsName s → word_of at s ≡ Some (name s at)
name_word at s h = rw ((decides_name s).1 h)

pub number_word : (at : ℕ) (s : List ℕ) (v : ℕ) → IsNumber s v → word_of at s ≡ Some (number v at)
number_word at s v h = rw (not_name s v h, number_complete s v h)
