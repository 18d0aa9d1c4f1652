use Rattle.std.proofs.Common.{◌≡◌, ℕ, List, Result, sym, subst}
use Rattle.basis.specs.declared.fault.Fault.{Fault}
use Rattle.grammar.specs.Files.{file_of, unread_of, content_after}
use Rattle.grammar.specs.Refusals.{ReadAs}
use Rattle.grammar.specs.Sheets.{Content}
use Rattle.grammar.specs.Texts.{Lines}
use Rattle.grammar.proofs.Filed.{read_as}
use Rattle.sheet.proofs.sheet.Sheet.read_file.Goals as goal

by_the_grammar : (text : List ℕ) (r : Result (ℕ × Lines) Fault) (c : Content) → r ≡ unread_of (file_of text) → c ≡ content_after (file_of text) → ReadAs text r c
by_the_grammar text r c answer filled =
    subst (λ (r : Result (ℕ × Lines) Fault). ReadAs text r c) (sym answer)
    (subst (λ (c : Content). ReadAs text (unread_of (file_of text)) c) (sym filled) (read_as text))

pub returns : goal.returns
returns c =
    let answer = c.fill.ensures.answer in
    let filled = c.fill.ensures.filled in
    record { answer = answer; filled = filled; grammar = by_the_grammar c.args.text.now _ _ answer filled }
