use Rattle.std.proofs.Common.{◌≡◌, ◌+◌, ◌-◌, drop}
use Rattle.basis.specs.Fillings.{entries_of, free_of, lent_of}
use Rattle.grammar.specs.Bodies.{items_from}
use Rattle.sheet.specs.Parts.{lines_of}
use Rattle.sheet.proofs.part.Part.items.Given as goal

abbrev pub invariant-loop : goal.invariant-loop
invariant-loop g l =
    (lent_of l.items ≡ lent_of l.initial.items)
    × (free_of l.items ≡ drop l.counter (free_of l.initial.items))
    × (l.rest.line ≡ l.self.line + l.counter)
    × (items_from g.T.Item.of l.rest.line (l.count - l.counter) (entries_of l.items) (lines_of l.rest)
    ≡ items_from g.T.Item.of l.self.line l.count (entries_of l.initial.items) (lines_of l.self))
