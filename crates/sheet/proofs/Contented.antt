-- The contents, read line by line.
use Rattle.std.proofs.Common.{◌≡◌, ℕ, ◌+◌, Ok, Err, codes, Result, sym, refl, ap, ◌∙◌, subst, arith}
use Rattle.basis.specs.declared.fault.Fault.{Fault}
use Rattle.grammar.specs.declared.section.Entry.{Entry}
use Rattle.grammar.specs.Binds.{bind}
use Rattle.grammar.specs.Contents.{Listed, bad_contents, entry_line_of, fixed_line_of, other_than, contents_of}
use Rattle.grammar.specs.Texts.{Lines}
use Rattle.grammar.proofs.Bound.{bind_then}
use Rattle.sheet.specs.declared.part.Part.{Part}
use Rattle.sheet.specs.Parts.{lines_of}

-- a line that is read on the line after another's
moved : (m n : ℕ) (r s : Lines) (e : Entry) → m ≡ n → Ok (e, s) ≡ entry_line_of m r → entry_line_of n r ≡ Ok (e, s)
moved m n r s e l h = sym (subst (λ k. Ok (e, s) ≡ entry_line_of k r) l h)

module _ (ls : Lines) (r₁ r₂ r₃ r₄ : Part) (a b c : Entry)
    (one : Ok (lines_of r₁) ≡ fixed_line_of (bad_contents 1) (codes "contents") ls) (l₁ : r₁.line ≡ 1 + 1)
    (two : Ok (a, lines_of r₂) ≡ entry_line_of r₁.line (lines_of r₁)) (l₂ : r₂.line ≡ r₁.line + 1)
    (three : Ok (b, lines_of r₃) ≡ entry_line_of r₂.line (lines_of r₂)) (l₃ : r₃.line ≡ r₂.line + 1)
    (other : Ok tt ≡ other_than a b 3)
    (four : Ok (c, lines_of r₄) ≡ entry_line_of r₃.line (lines_of r₃)) (l₄ : r₄.line ≡ r₃.line + 1) where
  abbrev made : Lines → Result Listed Fault
  made rest = Ok (record { first = a; second = b; third = c; rest = rest })

  abbrev end : Result Listed Fault
  end = bind (fixed_line_of (bad_contents 5) (codes "end") (lines_of r₄)) made

  -- after its three lines it is left that no section has two, and that the contents end
  third : contents_of ls ≡ bind (other_than a c 4) (λ _. bind (other_than b c 4) (λ _. end))
  third =
      bind_then (fixed_line_of (bad_contents 1) (codes "contents") ls) _ (lines_of r₁) _ (sym one)
      (bind_then (entry_line_of 2 (lines_of r₁)) _ (a, lines_of r₂) _ (moved r₁.line 2 (lines_of r₁) (lines_of r₂) a (omega arith) two)
      (bind_then (entry_line_of 3 (lines_of r₂)) _ (b, lines_of r₃) _ (moved r₂.line 3 (lines_of r₂) (lines_of r₃) b (omega arith) three)
      (bind_then (other_than a b 3) _ tt _ (sym other)
      (bind_then (entry_line_of 4 (lines_of r₃)) _ (c, lines_of r₄) _ (moved r₃.line 4 (lines_of r₃) (lines_of r₄) c (omega arith) four) refl))))

  pub first_again : (e : Fault) → Err e ≡ other_than a c 4 → Err e ≡ contents_of ls
  first_again e h = ap (λ (r : Result (Unit {0}) Fault). bind r (λ _. bind (other_than b c 4) (λ _. end))) h ∙ sym third

  module _ (new : Ok tt ≡ other_than a c 4) (newer : Ok tt ≡ other_than b c 4) where
    all : end ≡ contents_of ls
    all =
        ap (λ (r : Result (Unit {0}) Fault). bind r (λ _. end)) newer
        ∙ (ap (λ (r : Result (Unit {0}) Fault). bind r (λ _. bind (other_than b c 4) (λ _. end))) new ∙ sym third)

    fifth : (r : Result Lines Fault) → r ≡ fixed_line_of (bad_contents r₄.line) (codes "end") (lines_of r₄) → bind r made ≡ contents_of ls
    fifth r h =
        let l : r₄.line ≡ 5 = omega arith in
        ap (λ (r : Result Lines Fault). bind r made) (subst (λ k. r ≡ fixed_line_of (bad_contents k) (codes "end") (lines_of r₄)) l h) ∙ all

    pub unended : (e : Fault) → Err e ≡ fixed_line_of (bad_contents r₄.line) (codes "end") (lines_of r₄) → Err e ≡ contents_of ls
    unended e h = fifth (Err e) h

    pub ended : (rest : Lines) → Ok rest ≡ fixed_line_of (bad_contents r₄.line) (codes "end") (lines_of r₄) → made rest ≡ contents_of ls
    ended rest h = fifth (Ok rest) h
