-- The words of a line, and the lines of the contents and the bodies, are as the grammar says.
use Rattle.std.proofs.Common.{◌≡◌, ℕ, suc, ◌+◌, ◌<◌, ◌≤◌, Bool, true, false, cond, not, eqb, ltb, ◌≢◌, List, [], ◌∷◌, ◌++◌, length, take, drop, Some, None, Ok, Err, Option, sym, refl, ap, ◌∙◌, subst, add-one, arith, length-append}
use Rattle.std.specs.Option.{option_map, ok_or}
use Rattle.std.proofs.lemmas.Slice.Eq.{bytes_eq-Decides}
use Rattle.std.proofs.lemmas.List.{append-nil, take_all, take_at, drop_at, drop-drop}
use Rattle.std.proofs.lemmas.Bool.{ltb-true, ltb-false, lt-ltb, le-ltb, eqb-true, ne_eqb}
use Rattle.basis.specs.declared.fault.Fault.{Fault}
use Rattle.grammar.specs.declared.name.Name.{Name}
use Rattle.grammar.specs.declared.section.Entry.{Entry}
use Rattle.grammar.specs.declared.section.Section.{Section}
use Rattle.grammar.specs.declared.section.Section.TheVariants.{Levels, Power, Tasks}
use Rattle.grammar.specs.declared.task.Power.{Power as PowerLine}
use Rattle.grammar.specs.declared.task.TaskLine.{TaskLine}
use Rattle.grammar.specs.Bytes.{within}
use Rattle.grammar.specs.Contents.{heading_of, section_of, most_lines, entry_of}
use Rattle.grammar.specs.Fields.{bad_line, word_in, next_name, next_number, last_number, level_of, power_of, task_of}
use Rattle.grammar.specs.Grammar.{Each, Letter, Digit, IsName, IsNumber, IsWithin, IsEntry, IsLevel, IsPower, IsTask}
use Rattle.grammar.specs.Words.{Seen, Left, Next, name, number, word_of, word_length, next_word}
use Rattle.grammar.proofs.Answered.{Gives, value, fault, gives_ok, gives_err, gives_cond, gives_bind}
use Rattle.grammar.proofs.Bound.{bind_then}
use Rattle.grammar.proofs.Spelled.{decides_within, decides_name, Spells, word_sound, name_word, number_word}

-- a word has no space, so that the first space is one after it
length_each : (P : ℕ → Type 0) → ((b : ℕ) → P b → b ≢ 32) → (p r : List ℕ) → Each P p → word_length (p ++ r) ≡ length p + word_length r
length_each P apart [] r h = omega arith
length_each P apart (b ∷ p) r h = rw (ne_eqb b 32 (apart b h.0)) (omega (arith, length_each P apart p r h.1))

length_word : (w : Seen) (p r : List ℕ) → Spells w p → word_length (p ++ r) ≡ length p + word_length r
length_word (name t at) p r h = length_each Letter (λ b l e. omega arith) p r h.0.letters
length_word (number v at) p r h = length_each Digit (λ b l e. omega arith) p r h.digits

-- the word of a piece is the first of a line, with more after it or as the last
next_more : (at : ℕ) (p r : List ℕ) (w : Seen) → word_of at p ≡ Some w → next_word at (p ++ 32 ∷ r) ≡ Some (w, Some (at + length p + 1, r))
next_more at p r w e =
    let n : word_length (p ++ 32 ∷ r) ≡ length p = omega (arith, length_word w p (32 ∷ r) (word_sound at p w e)) in
    let t = take_at p (32 ∷ r) (length p) refl in
    let d : drop (length p + 1) (p ++ 32 ∷ r) ≡ r = sym (drop-drop 1 (length p) (p ++ 32 ∷ r)) ∙ ap (drop 1) (drop_at p (32 ∷ r) (length p) refl) in
    let l : ltb (length p) (length (p ++ 32 ∷ r)) ≡ true = lt-ltb _ _ (simp length-append (omega arith)) in
    rw (n, t, e, l, d)

next_last : (at : ℕ) (p : List ℕ) (w : Seen) → word_of at p ≡ Some w → next_word at p ≡ Some (w, None)
next_last at p w e =
    let n : word_length p ≡ length p = omega (arith, simp append-nil at (length_word w p [] (word_sound at p w e))) in
    let t = take_all (length p) p (omega arith) in
    let l : ltb (length p) (length p) ≡ false = le-ltb _ _ (omega arith) in
    rw (n, t, e, l)

-- a line is its first piece, a space and the rest
split : (s : List ℕ) → word_length s < length s → s ≡ take (word_length s) s ++ 32 ∷ drop (suc (word_length s)) s
split [] h = absurd (omega arith)
split (b ∷ bs) h =
    elim (eqb b 32) as
    (λ v. (v ≡ true → b ≡ 32) → cond (not v) (1 + word_length bs) 0 < suc (length bs) →
    b ∷ bs ≡ take (cond (not v) (1 + word_length bs) 0) (b ∷ bs) ++ 32 ∷ drop (suc (cond (not v) (1 + word_length bs) 0)) (b ∷ bs)) [
      | true ↦ λ z _. ap (λ b. b ∷ bs) (z refl)
      | false ↦ λ _ g. let e : suc (word_length bs) ≡ 1 + word_length bs = omega arith in
          subst (λ k. b ∷ bs ≡ take k (b ∷ bs) ++ 32 ∷ drop k bs) e (ap (λ x. b ∷ x) (split bs (omega arith)))
    ]
    (eqb-true b 32) h

-- what the first word says of a line
abbrev Reads : Next → List ℕ → Type 0
Reads None s = Unit {0}
Reads (Some (w, None)) s = Spells w s
Reads (Some (w, Some left)) s = (p : List ℕ) × (s ≡ p ++ 32 ∷ left.1) × Spells w p

-- of each line
next_sound : (at : ℕ) (s : List ℕ) → Reads (next_word at s) s
next_sound at s =
    go (word_of at (take (word_length s) s)) (ltb (word_length s) (length s)) (word_sound at (take (word_length s) s)) (ltb-true _ _) (ltb-false _ _)
  where
    go : (o : Option Seen) (t : Bool) → ((w : Seen) → o ≡ Some w → Spells w (take (word_length s) s))
        → (t ≡ true → word_length s < length s) → (t ≡ false → length s ≤ word_length s)
        → Reads (option_map (λ w. (w, cond t (Some (at + word_length s + 1, drop (word_length s + 1) s)) None)) o) s
    go None t h more last = tt
    go (Some w) true h more last = (take (word_length s) s, rw add-one (split s (more refl)), h w refl)
    go (Some w) false h more last = subst (Spells w) (take_all (word_length s) s (last refl)) (h w refl)

-- a name with more after it
abbrev NameFirst : List ℕ → (List ℕ × Left) → Type 0
NameFirst s x = (s ≡ x.0 ++ 32 ∷ x.1.1) × IsName x.0

name_gives : (f : Fault) (left : Left) → Gives f (NameFirst left.1) (next_name f (word_in left))
name_gives f left = go left.1 (word_in left) (next_sound left.0 left.1)
  where
    go : (s : List ℕ) (next : Next) → Reads next s → Gives f (NameFirst s) (next_name f next)
    go s None h = fault
    go s (Some (number v at, None)) h = fault
    go s (Some (number v at, Some rest)) h = fault
    go s (Some (name t at, None)) h = fault
    go s (Some (name t at, Some rest)) h = value (t, rest) (subst (λ p. NameFirst s (p, rest)) (sym h.2.1) (h.1, h.2.0))

name-is : (f : Fault) (at : ℕ) (p r : List ℕ) → IsName p → next_name f (next_word at (p ++ 32 ∷ r)) ≡ Ok (p, (at + length p + 1, r))
name-is f at p r h = rw (next_more at p r (name p at) (name_word at p h))

-- a number from low to high, with more after it or as the last
module _ (f : Fault) (low high : ℕ) where
  is_within : (s : List ℕ) (v : ℕ) → IsNumber s v → within low high v ≡ true → IsWithin low high s v
  is_within s v h t = let k = (decides_within low high v).0 t in record { number = h; least = k.0; most = k.1 }

  abbrev NumberFirst : List ℕ → (ℕ × Left) → Type 0
  NumberFirst s x = (p : List ℕ) × (s ≡ p ++ 32 ∷ x.1.1) × IsWithin low high p x.0

  number_gives : (left : Left) → Gives f (NumberFirst left.1) (next_number f low high (word_in left))
  number_gives left = go left.1 (word_in left) (next_sound left.0 left.1)
    where
      go : (s : List ℕ) (next : Next) → Reads next s → Gives f (NumberFirst s) (next_number f low high next)
      go s None h = fault
      go s (Some (name t at, None)) h = fault
      go s (Some (name t at, Some rest)) h = fault
      go s (Some (number v at, None)) h = fault
      go s (Some (number v at, Some rest)) h = gives_cond (within low high v) (v, rest) (λ t. (h.0, h.1, is_within h.0 v h.2 t))

  last_gives : (left : Left) → Gives f (IsWithin low high left.1) (last_number f low high (word_in left))
  last_gives left = go left.1 (word_in left) (next_sound left.0 left.1)
    where
      go : (s : List ℕ) (next : Next) → Reads next s → Gives f (IsWithin low high s) (last_number f low high next)
      go s None h = fault
      go s (Some (name t at, None)) h = fault
      go s (Some (name t at, Some rest)) h = fault
      go s (Some (number v at, None)) h = gives_cond (within low high v) v (is_within s v h)
      go s (Some (number v at, Some rest)) h = fault

  number_is : (at : ℕ) (p r : List ℕ) (v : ℕ) → IsWithin low high p v → next_number f low high (next_word at (p ++ 32 ∷ r)) ≡ Ok (v, (at + length p + 1, r))
  number_is at p r v h = rw (next_more at p r (number v at) (number_word at p v h.number), (decides_within low high v).1 (h.least, h.most))

  last-is : (at : ℕ) (p : List ℕ) (v : ℕ) → IsWithin low high p v → last_number f low high (next_word at p) ≡ Ok v
  last-is at p v h = rw (next_last at p (number v at) (number_word at p v h.number), (decides_within low high v).1 (h.least, h.most))

-- a line that is read is of its form, and any other gets its fault
level_gives : (at : ℕ) (l : List ℕ) → Gives (bad_line at) (IsLevel l) (level_of at l)
level_gives at l = last_gives (bad_line at) 1 100 (0, l)

power_gives : (at : ℕ) (l : List ℕ) → Gives (bad_line at) (IsPower l) (power_of at l)
power_gives at l =
    gives_bind (number_gives (bad_line at) 0 10000 (0, l)) (λ static a.
    gives_bind (number_gives (bad_line at) 0 10000 static.1) (λ steady b.
    gives_bind (last_gives (bad_line at) 0 10000 steady.1) (λ switching c.
    value _ (record {
      static = a.0;
      steady = b.0;
      switching = steady.1.1;
      line = a.1 ∙ ap (λ r. a.0 ++ 32 ∷ r) b.1;
      first = a.2;
      second = b.2;
      third = c;
    }))))

task_gives : (at : ℕ) (l : List ℕ) → Gives (bad_line at) (IsTask l) (task_of at l)
task_gives at l =
    gives_bind (name_gives (bad_line at) (0, l)) (λ text a.
    gives_bind (number_gives (bad_line at) 1 30000 text.1) (λ work b.
    gives_bind (last_gives (bad_line at) 1 30000 work.1) (λ period c.
    value _ (record {
      name = text.0;
      work = b.0;
      period = work.1.1;
      line = a.0 ∙ ap (λ r. text.0 ++ 32 ∷ r) b.1;
      named = a.1;
      names = refl;
      works = b.2;
      periods = c;
    }))))

-- a section is read from its heading
section_gives : (f : Fault) (t : List ℕ) → Gives f (λ (s : Section). t ≡ heading_of s) (ok_or (section_of t) f)
section_gives f t = go _ _ _ (bytes_eq-Decides t (heading_of Levels)).0 (bytes_eq-Decides t (heading_of Power)).0 (bytes_eq-Decides t (heading_of Tasks)).0
  where
    go : (a b c : Bool) → (a ≡ true → t ≡ heading_of Levels) → (b ≡ true → t ≡ heading_of Power) → (c ≡ true → t ≡ heading_of Tasks)
        → Gives f (λ (s : Section). t ≡ heading_of s) (ok_or (cond a (Some Levels) (cond b (Some Power) (cond c (Some Tasks) None))) f)
    go true b c l p t = value Levels (l refl)
    go false true c l p t = value Power (p refl)
    go false false true l p t = value Tasks (t refl)
    go false false false l p t = fault

-- a line of the contents that is read is of its form
entry_gives : (f : Fault) (l : List ℕ) → Gives f (IsEntry l) (entry_of f l)
entry_gives f l =
    gives_bind (name_gives f (0, l)) (λ text a.
    gives_bind (section_gives f text.0) (λ section b.
    gives_bind (last_gives f 1 (most_lines section) text.1) (λ count c.
    value _ (record { count = text.1.1; line = a.0 ∙ ap (λ t. t ++ 32 ∷ text.1.1) b; counts = c }))))

-- the heading of a section is a name, from which that section is read
heading-name : (s : Section) → IsName (heading_of s)
heading-name Levels = (decides_name (heading_of Levels)).0 refl
heading-name Power = (decides_name (heading_of Power)).0 refl
heading-name Tasks = (decides_name (heading_of Tasks)).0 refl

heading_section : (s : Section) → section_of (heading_of s) ≡ Some s
heading_section Levels = refl
heading_section Power = refl
heading_section Tasks = refl

-- a level line is read exactly where the grammar has one, and any other line gets the fault of its number
pub level_sound : (at : ℕ) (l : List ℕ) (v : ℕ) → level_of at l ≡ Ok v → IsLevel l v
level_sound at l v = gives_ok v (level_gives at l)

pub level_complete : (at : ℕ) (l : List ℕ) (v : ℕ) → IsLevel l v → level_of at l ≡ Ok v
level_complete at l v h = last-is (bad_line at) 1 100 0 l v h

pub level_fault : (at : ℕ) (l : List ℕ) (g : Fault) → level_of at l ≡ Err g → g ≡ bad_line at
level_fault at l g = gives_err g (level_gives at l)

-- so is the power line
pub power-sound : (at : ℕ) (l : List ℕ) (p : PowerLine) → power_of at l ≡ Ok p → IsPower l p
power-sound at l p = gives_ok p (power_gives at l)

pub power_complete : (at : ℕ) (l : List ℕ) (p : PowerLine) → IsPower l p → power_of at l ≡ Ok p
power_complete at l p h =
    rw h.line (
    bind_then _ _ _ _ (number_is (bad_line at) 0 10000 0 h.static (h.steady ++ 32 ∷ h.switching) p.static_mw h.first) (
    bind_then _ _ _ _ (number_is (bad_line at) 0 10000 _ h.steady h.switching p.steady_mw h.second) (
    bind_then _ _ _ _ (last-is (bad_line at) 0 10000 _ h.switching p.switching_mw h.third) refl)))

pub power-fault : (at : ℕ) (l : List ℕ) (g : Fault) → power_of at l ≡ Err g → g ≡ bad_line at
power-fault at l g = gives_err g (power_gives at l)

-- so is a task line
pub task_sound : (at : ℕ) (l : List ℕ) (t : TaskLine) → task_of at l ≡ Ok t → IsTask l t
task_sound at l t = gives_ok t (task_gives at l)

pub task_complete : (at : ℕ) (l : List ℕ) (t : TaskLine) → IsTask l t → task_of at l ≡ Ok t
task_complete at l t h =
    rw h.line (
    bind_then _ _ _ _ (name-is (bad_line at) 0 h.name (h.work ++ 32 ∷ h.period) h.named) (
    bind_then _ _ _ _ (number_is (bad_line at) 1 30000 _ h.work h.period t.work h.works) (
    bind_then _ _ _ _ (last-is (bad_line at) 1 30000 _ h.period t.period h.periods)
    (ap (λ (n : Name). Ok (record { name = n; work = t.work; period = t.period })) (sym h.names)))))

pub task_fault : (at : ℕ) (l : List ℕ) (g : Fault) → task_of at l ≡ Err g → g ≡ bad_line at
task_fault at l g = gives_err g (task_gives at l)

-- so is a line of the contents, of which the fault is given
pub entry-sound : (f : Fault) (l : List ℕ) (e : Entry) → entry_of f l ≡ Ok e → IsEntry l e
entry-sound f l e = gives_ok e (entry_gives f l)

pub entry_complete : (f : Fault) (l : List ℕ) (e : Entry) → IsEntry l e → entry_of f l ≡ Ok e
entry_complete f l e h =
    rw h.line (
    bind_then _ _ _ _ (name-is f 0 (heading_of e.section) h.count (heading-name e.section)) (
    bind_then _ _ _ _ (ap (λ (o : Option Section). ok_or o f) (heading_section e.section)) (
    bind_then _ _ _ _ (last-is f 1 (most_lines e.section) _ h.count e.count h.counts) refl)))

pub entry-fault : (f g : Fault) (l : List ℕ) → entry_of f l ≡ Err g → g ≡ f
entry-fault f g l = gives_err g (entry_gives f l)
