use Rattle.std.proofs.Common.{◌≡◌, ◌≤◌, [], length, Ok, sym, ap, ◌∙◌, arith, subst}
use Rattle.basis.specs.Fillings.{entries_of}
use Rattle.grammar.specs.Bodies.{items_from}
use Rattle.sheet.specs.Parts.{lines_of}
use Rattle.sheet.proofs.Filled.{items-count}
use Rattle.sheet.proofs.bodies.read_items.Goals as goal

pub returns-clause-value : goal.returns-clause-value
returns-clause-value g c =
    let ls = lines_of c.args.part in
    let got = entries_of c.items.new.items in
    let value : Ok (got, lines_of c.in_ok-rest.rest) ≡ items_from g.T.Item.of c.args.part.line c.args.count [] ls =
    subst (λ es. Ok (got, lines_of c.in_ok-rest.rest) ≡ items_from g.T.Item.of c.args.part.line c.args.count es ls) c.new-items.ensures.entries c.in_ok-rest.ensures.value in
    let count = items-count g.T.Item.of c.args.part.line c.args.count [] ls (got, lines_of c.in_ok-rest.rest) (sym value) in
    let few : length got ≤ g.row.N = omega (arith, count, c.requires.few) in
    let whole : c.of.result ≡ got = c.of.ensures.whole (omega (arith, ap length c.entries.ensures, few)) ∙ c.entries.ensures in
    ap (λ es. Ok (es, lines_of c.in_ok-rest.rest)) whole ∙ value
