-- How many lines the contents give a section.
use Rattle.std.specs.Prelude.{◌≤◌}
use Rattle.grammar.specs.declared.section.Entry.{Entry}
use Rattle.grammar.specs.Contents.{most_lines}

-- at least one, and no more than its body may have
pub record Counted (e : Entry) : Type 0 where
  pub least : 1 ≤ e.count
  pub most : e.count ≤ most_lines e.section
