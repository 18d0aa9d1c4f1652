-- Which line of a text is at fault, by the number of the refusal. Lines count from 1, so line i + 1 is the one after i others.
use Rattle.std.specs.Prelude.{◌≡◌, ℕ, zero, suc, ◌+◌, ◌<◌, ◌≤◌, Bool, false, cond, ◌||◌, ◌≢◌, ◌⊎◌, List, [], ◌∷◌, ◌++◌, length, replicate, Some, Ok, Err, codes, Result, ◌==◌}
use Rattle.std.specs.List.{slice_get}
use Rattle.basis.specs.declared.fault.Fault.{Fault}
use Rattle.basis.specs.declared.fault.Reason.TheVariants.{Script}
use Rattle.basis.specs.Faults.{number_of, IsOwn, fault_at}
use Rattle.grammar.specs.declared.letters.Letters.{Letters as LetterPair}
use Rattle.grammar.specs.declared.section.Entry.{Entry}
use Rattle.grammar.specs.declared.section.Section.{Section}
use Rattle.grammar.specs.declared.section.Section.TheVariants.{Levels, Power, Tasks}
use Rattle.grammar.specs.declared.task.Power.{Power as PowerLine}
use Rattle.grammar.specs.declared.task.TaskLine.{TaskLine}
use Rattle.grammar.specs.Contents.{heading_of}
use Rattle.grammar.specs.Files.{script_start}
use Rattle.grammar.specs.Grammar.{Pairs, IsClean, IsEntry, IsLevel, IsPower, IsTask, IsScriptLine, Sequence, Announces, Formed, heading_line, LevelRight, TaskRight, Means}
use Rattle.grammar.specs.Sheets.{Content}
use Rattle.grammar.specs.Texts.{Lines, lines}

-- some byte is a line feed
abbrev pub fed : List ℕ → Bool
fed [] = false
fed (b ∷ bs) = b == 10 || fed bs

-- what stands after the last line feed of a text
abbrev pub end_of : List ℕ → List ℕ
end_of [] = []
end_of (b ∷ bs) = cond (fed (b ∷ bs)) (end_of bs) (b ∷ bs)

-- 1: a line is not clean, or what stands after the last line feed lacks its own
abbrev pub BytesFault : List ℕ → ℕ → Type 0
BytesFault text i =
    ((l : List ℕ) × (slice_get (lines text) i ≡ Some l) × (IsClean l → ⊥)) ⊎ ((i ≡ length (lines text)) × (end_of text ≢ []))

-- line i + 1 announces a section
abbrev pub EntryAt : Lines → ℕ → Entry → Type 0
EntryAt ls i e = (l : List ℕ) × (slice_get ls i ≡ Some l) × IsEntry l e

-- line i + 1 announces a section that no line of the contents before it announces
pub record EntryRight (ls : Lines) (i : ℕ) : Type 0 where
  pub entry : Entry
  pub here : EntryAt ls i entry
  pub once : (j : ℕ) (d : Entry) → 1 ≤ j → j < i → EntryAt ls j d → d.section ≢ entry.section

-- line i + 1 is as the contents have it: `contents`, three lines that announce a section each, `end`
abbrev pub ContentsRight : Lines → ℕ → Type 0
ContentsRight ls zero = slice_get ls 0 ≡ Some (codes "contents")
ContentsRight ls (suc zero) = EntryRight ls 1
ContentsRight ls (suc (suc zero)) = EntryRight ls 2
ContentsRight ls (suc (suc (suc zero))) = EntryRight ls 3
ContentsRight ls (suc (suc (suc (suc zero)))) = slice_get ls 4 ≡ Some (codes "end")
ContentsRight ls (suc (suc (suc (suc (suc i))))) = Unit {0}

-- 2: a line is not as the contents have it, or is missing
abbrev pub ContentsFault : List ℕ → ℕ → Type 0
ContentsFault text i = ContentsRight (lines text) i → ⊥

-- what a line after the contents has to be: the heading of a section, or a line of its body
pub data Form : Type 0 where
  heading : Section → Form
  item : Section → Form

-- what the lines after the contents have to be: for each section its heading, then as many lines as the contents say
abbrev pub layout : List Entry → List Form
layout [] = []
layout (e ∷ es) = heading e.section ∷ (replicate e.count (item e.section) ++ layout es)

-- a line is what it has to be
abbrev pub OfForm : Form → List ℕ → Type 0
OfForm (heading s) l = l ≡ heading_of s
OfForm (item Levels) l = (v : ℕ) × IsLevel l v
OfForm (item Power) l = (p : PowerLine) × IsPower l p
OfForm (item Tasks) l = (t : TaskLine) × IsTask l t

-- of lines that have to be of some forms, line i + 1 is not, or is missing
abbrev pub NotOfForm : List Form → Lines → ℕ → Type 0
NotOfForm forms ls i = (x : Form) × (slice_get forms i ≡ Some x) × ((l : List ℕ) → slice_get ls i ≡ Some l → OfForm x l → ⊥)

-- 3: after contents of their form, a line of a body is not what it has to be, or is missing
pub record BodiesFault (text : List ℕ) (i : ℕ) : Type 0 where
  pub sequence : Sequence
  pub rest : Lines
  pub k : ℕ
  pub contents : Announces (lines text) sequence rest
  pub line : i ≡ 5 + k
  pub wrong : NotOfForm (layout (sequence.first ∷ sequence.second ∷ sequence.third ∷ [])) rest k

-- 4: in a text of the form of a machine file, a level is not above the one before, or is the last and not 100
pub record LevelFault (text : List ℕ) (i : ℕ) : Type 0 where
  pub sequence : Sequence
  pub content : Content
  pub script : Lines
  pub k : ℕ
  pub formed : Formed text sequence content script
  pub few : k < length content.levels
  pub line : i ≡ heading_line Levels sequence + k
  pub wrong : LevelRight content.levels k → ⊥

-- 5: in such a text, a task's name is an earlier one's or `rest`, or its work exceeds its period
pub record TaskFault (text : List ℕ) (i : ℕ) : Type 0 where
  pub sequence : Sequence
  pub content : Content
  pub script : Lines
  pub k : ℕ
  pub formed : Formed text sequence content script
  pub few : k < length content.tasks
  pub line : i ≡ heading_line Tasks sequence + k
  pub wrong : TaskRight content.tasks k → ⊥

-- line i + 1 of a text is at fault by this number
abbrev pub AtFault : List ℕ → ℕ → ℕ → Type 0
AtFault text zero i = ⊥
AtFault text (suc zero) i = BytesFault text i
AtFault text (suc (suc zero)) i = ContentsFault text i
AtFault text (suc (suc (suc zero))) i = BodiesFault text i
AtFault text (suc (suc (suc (suc zero)))) i = LevelFault text i
AtFault text (suc (suc (suc (suc (suc zero))))) i = TaskFault text i
AtFault text (suc (suc (suc (suc (suc (suc n)))))) i = ⊥

-- a text is refused with this fault: it is one of the reader's own, no line is at fault by an earlier number, and its line is the first
-- at fault by its own
pub record Refused (text : List ℕ) (f : Fault) : Type 0 where
  pub before : ℕ
  pub line : f.line ≡ Some (before + 1)
  pub own : IsOwn f.reason
  pub fault : AtFault text (number_of f.reason) before
  pub first : (j : ℕ) → j < before → AtFault text (number_of f.reason) j → ⊥
  pub earlier : (n j : ℕ) → n < number_of f.reason → AtFault text n j → ⊥

-- reading a text answers the line and the lines of its script, and its sheet holds c, exactly when the text means that;
-- it answers a fault exactly when the text is refused with it; and a text means one thing
pub record ReadAs (text : List ℕ) (answer : Result (ℕ × Lines) Fault) (sheet : Content) : Type 0 where
  pub accepted : (c : Content) (s : Lines) → (answer ≡ Ok (script_start c, s)) × (sheet ≡ c) → Means text c s
  pub accepts : (c : Content) (s : Lines) → Means text c s → (answer ≡ Ok (script_start c, s)) × (sheet ≡ c)
  pub refused : (f : Fault) → answer ≡ Err f → Refused text f
  pub refuses : (f : Fault) → Refused text f → answer ≡ Err f
  pub once : (c d : Content) (s t : Lines) → Means text c s → Means text d t → (c ≡ d) × (s ≡ t)

-- of the lines of a script, line i + 1 is not of its form
abbrev pub ScriptFault : Lines → ℕ → Type 0
ScriptFault ls i = (l : List ℕ) × (slice_get ls i ≡ Some l) × ((x : LetterPair) → IsScriptLine l x → ⊥)

-- a script, of which the first line is line `at` of the file, is refused with this fault: its line is the first at fault
pub record ScriptRefused (at : ℕ) (ls : Lines) (f : Fault) : Type 0 where
  pub before : ℕ
  pub is : f ≡ fault_at Script (at + before)
  pub fault : ScriptFault ls before
  pub first : (j : ℕ) → j < before → ScriptFault ls j → ⊥

-- reading the lines after a sheet answers letters exactly when each line is of the script's form and says them, and a fault exactly when
-- they are refused with it
pub record ScriptReadAs (at : ℕ) (ls : Lines) (answer : Result (List LetterPair) Fault) : Type 0 where
  pub accepted : (xs : List LetterPair) → answer ≡ Ok xs → Pairs IsScriptLine ls xs
  pub accepts : (xs : List LetterPair) → Pairs IsScriptLine ls xs → answer ≡ Ok xs
  pub refused : (f : Fault) → answer ≡ Err f → ScriptRefused at ls f
  pub refuses : (f : Fault) → ScriptRefused at ls f → answer ≡ Err f
