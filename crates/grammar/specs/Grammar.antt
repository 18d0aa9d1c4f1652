-- What a machine file is, in its own words: which bytes mean which sheet, and which lines follow it.
use Rattle.std.specs.Prelude.{◌≡◌, ℕ, suc, ◌+◌, ◌-◌, ◌*◌, ◌<◌, ◌≤◌, cond, ◌≢◌, ◌⊎◌, List, [], ◌∷◌, ◌++◌, length, codes, slice_index, slice_index_or}
use Rattle.std.specs.Str.{bytes_eq}
use Rattle.grammar.specs.declared.letters.Letters.{Letters as LetterPair}
use Rattle.grammar.specs.declared.section.Entry.{Entry}
use Rattle.grammar.specs.declared.section.Section.{Section}
use Rattle.grammar.specs.declared.section.Section.TheVariants.{Levels, Power, Tasks}
use Rattle.grammar.specs.declared.task.Power.{Power as PowerLine}
use Rattle.grammar.specs.declared.task.TaskLine.{TaskLine}
use Rattle.grammar.specs.Contents.{heading_of, most_lines}
use Rattle.grammar.specs.Names.{spelled}
use Rattle.grammar.specs.Sheets.{Content}
use Rattle.grammar.specs.Tasks.{name_for, no_task}
use Rattle.grammar.specs.Texts.{Lines}

-- all of them are so
abbrev pub Each : {A : Type 0} → (A → Type 0) → List A → Type 0
Each P [] = Unit {0}
Each P (x ∷ xs) = P x × Each P xs

-- they go together one by one, and there are as many of the ones as of the others
abbrev pub Pairs : {A B : Type 0} → (A → B → Type 0) → List A → List B → Type 0
Pairs R [] [] = Unit {0}
Pairs R [] (y ∷ ys) = ⊥
Pairs R (x ∷ xs) [] = ⊥
Pairs R (x ∷ xs) (y ∷ ys) = R x y × Pairs R xs ys

-- a to z
abbrev pub Letter : ℕ → Type 0
Letter b = (97 ≤ b) × (b ≤ 122)

-- 0 to 9
abbrev pub Digit : ℕ → Type 0
Digit b = (48 ≤ b) × (b ≤ 57)

-- a line has letters, digits and spaces, at most 40 in all
pub record IsClean (l : List ℕ) : Type 0 where
  pub bytes : Each (λ b. Letter b ⊎ (Digit b ⊎ (b ≡ 32))) l
  pub few : length l ≤ 40

-- a name is 1 to 8 letters
pub record IsName (s : List ℕ) : Type 0 where
  pub some : 1 ≤ length s
  pub few : length s ≤ 8
  pub letters : Each Letter s

-- the number that digits spell after those that spell v
abbrev pub value_from : ℕ → List ℕ → ℕ
value_from v [] = v
value_from v (b ∷ bs) = value_from (v * 10 + (b - 48)) bs

-- a number is 1 to 6 digits without a zero in front of another, which spell v
pub record IsNumber (s : List ℕ) (v : ℕ) : Type 0 where
  pub some : 1 ≤ length s
  pub few : length s ≤ 6
  pub digits : Each Digit s
  pub plain : 1 < length s → slice_index s 0 ≢ 48
  pub spells : v ≡ value_from 0 s

-- such a number from low to high
pub record IsWithin (low high : ℕ) (s : List ℕ) (v : ℕ) : Type 0 where
  pub number : IsNumber s v
  pub least : low ≤ v
  pub most : v ≤ high

-- a line of the contents: the name of a section and its number of lines, from 1 to as many as it may have
pub record IsEntry (l : List ℕ) (e : Entry) : Type 0 where
  pub count : List ℕ
  pub line : l ≡ heading_of e.section ++ 32 ∷ count
  pub counts : IsWithin 1 (most_lines e.section) count e.count

-- a level line: a number from 1 to 100
abbrev pub IsLevel : List ℕ → ℕ → Type 0
IsLevel l v = IsWithin 1 100 l v

-- the power line: static, steady and switching, each from 0 to 10,000
pub record IsPower (l : List ℕ) (p : PowerLine) : Type 0 where
  pub static : List ℕ
  pub steady : List ℕ
  pub switching : List ℕ
  pub line : l ≡ static ++ 32 ∷ (steady ++ 32 ∷ switching)
  pub first : IsWithin 0 10000 static p.static_mw
  pub second : IsWithin 0 10000 steady p.steady_mw
  pub third : IsWithin 0 10000 switching p.switching_mw

-- a task line: name, work and period, the numbers each from 1 to 30,000
pub record IsTask (l : List ℕ) (t : TaskLine) : Type 0 where
  pub name : List ℕ
  pub work : List ℕ
  pub period : List ℕ
  pub line : l ≡ name ++ 32 ∷ (work ++ 32 ∷ period)
  pub named : IsName name
  pub names : t.name ≡ name_for name
  pub works : IsWithin 1 30000 work t.work
  pub periods : IsWithin 1 30000 period t.period

-- one of the letters m, g, b, x and r
abbrev pub IsMark : ℕ → Type 0
IsMark b = (b ≡ 109) ⊎ ((b ≡ 103) ⊎ ((b ≡ 98) ⊎ ((b ≡ 120) ⊎ (b ≡ 114))))

-- a script line: the primary's letter and the spare's
pub record IsScriptLine (l : List ℕ) (x : LetterPair) : Type 0 where
  pub line : l ≡ x.primary ∷ x.spare ∷ []
  pub primary : IsMark x.primary
  pub spare : IsMark x.spare

-- the text of some lines, each ended by a line feed
abbrev pub text_of : Lines → List ℕ
text_of [] = []
text_of (l ∷ ls) = l ++ 10 ∷ text_of ls

-- the three sections in the sequence of the contents
pub record Sequence : Type 0 where
  pub first : Entry
  pub second : Entry
  pub third : Entry

-- some lines begin with contents that announce the three sections, each once, and `rest` follows
pub record Announces (ls : Lines) (s : Sequence) (rest : Lines) : Type 0 where
  pub one : List ℕ
  pub two : List ℕ
  pub three : List ℕ
  pub lines : ls ≡ codes "contents" ∷ one ∷ two ∷ three ∷ codes "end" ∷ rest
  pub first : IsEntry one s.first
  pub second : IsEntry two s.second
  pub third : IsEntry three s.third
  pub other₁₂ : s.first.section ≢ s.second.section
  pub other₁₃ : s.first.section ≢ s.third.section
  pub other₂₃ : s.second.section ≢ s.third.section

-- the lines of a section's body say what the sheet holds of it
abbrev pub Says : Content → Section → Lines → Type 0
Says c Levels ls = Pairs IsLevel ls c.levels
Says c Power ls = Pairs IsPower ls (c.power ∷ [])
Says c Tasks ls = Pairs IsTask ls c.tasks

-- some lines begin with the body that a line of the contents announces, which says what the sheet holds, and `rest` follows
pub record Tells (e : Entry) (c : Content) (ls rest : Lines) : Type 0 where
  pub body : Lines
  pub lines : ls ≡ heading_of e.section ∷ (body ++ rest)
  pub counted : length body ≡ e.count
  pub says : Says c e.section body

-- the line of a section's heading, where the heading of the first of some sections stands on line `at`
abbrev pub heading_from : Section → ℕ → List Entry → ℕ
heading_from s at [] = 0
heading_from s at (e ∷ es) = cond (bytes_eq (heading_of s) (heading_of e.section)) at (heading_from s (at + 1 + e.count) es)

-- the line of a section's heading in a file: the bodies start on line 6, after the contents
abbrev pub heading_line : Section → Sequence → ℕ
heading_line x s = heading_from x 6 (s.first ∷ s.second ∷ s.third ∷ [])

-- a text has the form of a machine file: clean lines, contents, the three bodies in their sequence, and any lines after them
pub record Formed (text : List ℕ) (s : Sequence) (c : Content) (script : Lines) : Type 0 where
  pub all : Lines
  pub bodies : Lines
  pub later : Lines
  pub last : Lines
  pub whole : text ≡ text_of all
  pub clean : Each IsClean all
  pub contents : Announces all s bodies
  pub first : Tells s.first c bodies later
  pub second : Tells s.second c later last
  pub third : Tells s.third c last script
  pub line : c.first ≡ heading_line Tasks s + 1

-- a level is as it has to be: above the one before, and 100 where it is the last
pub record LevelRight (vs : List ℕ) (i : ℕ) : Type 0 where
  pub above : (j : ℕ) → suc j ≡ i → slice_index vs j < slice_index vs i
  pub full : suc i ≡ length vs → slice_index vs i ≡ 100

-- the name of the task at a place
abbrev pub name_at : List TaskLine → ℕ → List ℕ
name_at ts i = spelled (slice_index_or ts i no_task).name

-- a task is as it has to be: its name is no earlier task's and not `rest`, and its work is at most its period
pub record TaskRight (ts : List TaskLine) (i : ℕ) : Type 0 where
  pub own : (j : ℕ) → j < i → name_at ts j ≢ name_at ts i
  pub other : name_at ts i ≢ codes "rest"
  pub fits : (slice_index_or ts i no_task).work ≤ (slice_index_or ts i no_task).period

-- a text is a machine file that means this sheet, with these lines after it
pub record Means (text : List ℕ) (c : Content) (script : Lines) : Type 0 where
  pub sequence : Sequence
  pub formed : Formed text sequence c script
  pub levels : (i : ℕ) → i < length c.levels → LevelRight c.levels i
  pub tasks : (i : ℕ) → i < length c.tasks → TaskRight c.tasks i
