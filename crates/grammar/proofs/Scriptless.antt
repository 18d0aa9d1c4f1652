-- What a file means, with the lines after its bodies and without them.
use Rattle.std.proofs.Common.{◌≡◌, ℕ, List, [], ◌+◌, Ok, Err, Result, refl}
use Rattle.basis.specs.declared.fault.Fault.{Fault}
use Rattle.grammar.specs.Binds.{bind}
use Rattle.grammar.specs.Bodies.{Told, bodies_of}
use Rattle.grammar.specs.Contents.{contents_of}
use Rattle.grammar.specs.Files.{content_of, file_of, read_of}
use Rattle.grammar.specs.Passes.{rising_from, apart_from}
use Rattle.grammar.specs.Sheets.{Content}
use Rattle.grammar.specs.Texts.{Lines, bytes_from, lines}

-- what is read, without the lines after it
abbrev pub scriptless : {A : Type 0} → Result (A × Lines) Fault → Result A Fault
scriptless (Ok x) = Ok x.0
scriptless (Err e) = Err e

scriptless_bind : {A B : Type 0} (r : Result A Fault) (f : A → Result (B × Lines) Fault) (g : A → Result B Fault) → ((x : A) → scriptless (f x) ≡ g x) →
    scriptless (bind r f) ≡ bind r g
scriptless_bind (Ok x) f g h = h x
scriptless_bind (Err e) f g h = refl

-- what bodies say once they pass, with the lines after them and without
module _ (b : Told × Lines) where
  abbrev passed : Result (Content × Lines) Fault
  passed =
      bind (rising_from b.0.levels.heading 0 b.0.levels.items) (λ _.
      bind (apart_from (b.0.tasks.heading + 1) [] b.0.tasks.items) (λ _.
      Ok (content_of b.0, b.1)))

  abbrev passed_alone : Result Content Fault
  passed_alone =
      bind (rising_from b.0.levels.heading 0 b.0.levels.items) (λ _.
      bind (apart_from (b.0.tasks.heading + 1) [] b.0.tasks.items) (λ _.
      Ok (content_of b.0)))

  scriptless_passed : scriptless passed ≡ passed_alone
  scriptless_passed =
      scriptless_bind (rising_from b.0.levels.heading 0 b.0.levels.items)
      (λ _. bind (apart_from (b.0.tasks.heading + 1) [] b.0.tasks.items) (λ _. Ok (content_of b.0, b.1)))
      (λ _. bind (apart_from (b.0.tasks.heading + 1) [] b.0.tasks.items) (λ _. Ok (content_of b.0)))
      (λ _. scriptless_bind (apart_from (b.0.tasks.heading + 1) [] b.0.tasks.items) (λ _. Ok (content_of b.0, b.1)) (λ _. Ok (content_of b.0)) (λ _. refl))

-- the sheet that a text means is the same either way
pub scriptless_file_of : (text : List ℕ) → scriptless (file_of text) ≡ read_of text
scriptless_file_of text =
    scriptless_bind (bytes_from 0 0 text)
    (λ _. bind (contents_of (lines text)) (λ contents. bind (bodies_of contents) (λ b. passed b)))
    (λ _. bind (contents_of (lines text)) (λ contents. bind (bodies_of contents) (λ b. passed_alone b)))
    (λ _. scriptless_bind (contents_of (lines text))
    (λ contents. bind (bodies_of contents) (λ b. passed b))
    (λ contents. bind (bodies_of contents) (λ b. passed_alone b))
    (λ contents. scriptless_bind (bodies_of contents) (λ b. passed b) (λ b. passed_alone b) (λ b. scriptless_passed b)))
