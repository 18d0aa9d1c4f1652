-- What a line of the contents gives a section is counted.
use Rattle.std.proofs.Common.{◌≡◌, Ok, sym}
use Rattle.grammar.specs.declared.section.Entry.{Entry}
use Rattle.grammar.specs.Contents.{bad_contents, entry_of, entry_line_of}
use Rattle.grammar.proofs.Fronts.{first_ok}
use Rattle.grammar.proofs.Worded.{entry-sound}
use Rattle.sheet.specs.declared.part.Part.{Part}
use Rattle.sheet.specs.Counts.{Counted}
use Rattle.sheet.specs.Parts.{lines_of}

pub entry_counted : (p rest : Part) (e : Entry) → Ok (e, lines_of rest) ≡ entry_line_of p.line (lines_of p) → Counted e
entry_counted p rest e h =
    let f = bad_contents p.line in
    let k = first_ok f (entry_of f) (lines_of p) (e, lines_of rest) (sym h) in
    let c = (entry-sound f k.0 e k.2).counts in
    record { least = c.least; most = c.most }
