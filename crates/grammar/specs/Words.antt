-- The words of a line, as values that borrow nothing.
use Rattle.std.specs.Prelude.{ℕ, ◌+◌, cond, List, length, take, drop, Some, None, Option, nat_lt}
use Rattle.std.specs.Option.{option_map}
use Rattle.grammar.specs.Bytes.{spells_name, number_of}
use Rattle.grammar.specs.Texts.{length_before}

-- a word with the place of its first byte
pub data Seen : Type 0 where
  name : List ℕ → ℕ → Seen
  number : ℕ → ℕ → Seen

-- what is left of a line: the place of its first byte, and its bytes
abbrev pub Left : Type 0
Left = ℕ × List ℕ

-- a word, and what is left after its space where it has one
abbrev pub Next : Type 0
Next = Option (Seen × Option Left)

-- the word that a piece of a line is
abbrev pub word_of : ℕ → List ℕ → Option Seen
word_of at s = cond (spells_name s) (Some (name s at)) (option_map (λ v. number v at) (number_of s))

-- how many bytes stand before the first space
abbrev pub word_length : List ℕ → ℕ
word_length s = length_before 32 s

-- the first word of what is left of a line
abbrev pub next_word : ℕ → List ℕ → Next
next_word at s =
    option_map (λ w. (w, cond (nat_lt (word_length s) (length s)) (Some (at + word_length s + 1, drop (word_length s + 1) s)) None))
    (word_of at (take (word_length s) s))
