-- The bodies, read one after another.
use Rattle.std.proofs.Common.{◌≡◌, ℕ, ◌+◌, Ok, Err, Result, ap, ◌∙◌, subst, arith}
use Rattle.basis.specs.declared.fault.Fault.{Fault}
use Rattle.grammar.specs.declared.section.Entry.{Entry}
use Rattle.grammar.specs.Binds.{bind}
use Rattle.grammar.specs.Bodies.{Told, untold, body_of, bodies_of}
use Rattle.grammar.specs.Texts.{Lines}
use Rattle.sheet.specs.declared.contents.Contents.{Contents}
use Rattle.sheet.specs.declared.part.Part.{Part}
use Rattle.sheet.specs.Parts.{lines_of}
use Rattle.sheet.specs.Views.{listed_in}

-- a body that is read on the line of another's
moved : (m n : ℕ) (e : Entry) (t : Told) (ls : Lines) (r : Result (Told × Lines) Fault) → m ≡ n → r ≡ body_of e m t ls → r ≡ body_of e n t ls
moved m n e t ls r l h = subst (λ k. r ≡ body_of e k t ls) l h

module _ (c : Contents) (t₀ t₁ : Told) (r₁ : Part) (nothing : t₀ ≡ untold)
    (one : Ok (t₁, lines_of r₁) ≡ body_of c.first c.rest.line t₀ (lines_of c.rest)) (l₁ : r₁.line ≡ c.rest.line + 1 + c.first.count) where
  abbrev third : Told × Lines → Result (Told × Lines) Fault
  third b = body_of c.third (8 + c.first.count + c.second.count) b.0 b.1

  -- after the first it is left to read two
  second : (r : Result (Told × Lines) Fault) → r ≡ body_of c.second r₁.line t₁ (lines_of r₁) → bind r third ≡ bodies_of (listed_in c)
  second r h =
      let k : r₁.line ≡ 7 + c.first.count = omega (arith, l₁, c.line) in
      let first : Ok (t₁, lines_of r₁) ≡ body_of c.first 6 untold (lines_of c.rest) =
      subst (λ t. Ok (t₁, lines_of r₁) ≡ body_of c.first 6 t (lines_of c.rest)) nothing (moved c.rest.line 6 c.first t₀ (lines_of c.rest) _ c.line one) in
      ap (λ r. bind r third) (moved r₁.line (7 + c.first.count) c.second t₁ (lines_of r₁) r k h)
      ∙ ap (λ r. bind r (λ a. bind (body_of c.second (7 + c.first.count) a.0 a.1) third)) first

  pub second_fails : (e : Fault) → Err e ≡ body_of c.second r₁.line t₁ (lines_of r₁) → Err e ≡ bodies_of (listed_in c)
  second_fails e h = second (Err e) h

  -- and then one
  pub last : (t₂ : Told) (r₂ : Part) → Ok (t₂, lines_of r₂) ≡ body_of c.second r₁.line t₁ (lines_of r₁) → r₂.line ≡ r₁.line + 1 + c.second.count
      → (r : Result (Told × Lines) Fault) → r ≡ body_of c.third r₂.line t₂ (lines_of r₂) → r ≡ bodies_of (listed_in c)
  last t₂ r₂ two l₂ r h =
      let k : r₂.line ≡ 8 + c.first.count + c.second.count = omega (arith, l₁, l₂, c.line) in
      moved r₂.line (8 + c.first.count + c.second.count) c.third t₂ (lines_of r₂) r k h ∙ second (Ok (t₂, lines_of r₂)) two
