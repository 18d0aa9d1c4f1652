-- What names spell.
use Rattle.std.specs.Prelude.{ℕ, cond, List, length, take, Some, None, Option, nat_le}
use Rattle.grammar.specs.declared.name.Name.{Name}
use Rattle.grammar.specs.Tasks.{name_for}
use Rattle.grammar.specs.Texts.{length_before}

-- the letters of a name: its bytes before the first zero, of which it has at most 8
abbrev pub spelled : Name → List ℕ
spelled n = take (length_before 0 n.bytes) n.bytes

-- the name that a text spells, where it is no longer than a name may be
abbrev pub name_of : List ℕ → Option Name
name_of s = cond (nat_le (length s) 8) (Some (name_for s)) None
