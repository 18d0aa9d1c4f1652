-- What a sheet holds. Other crates do not see its fields and speak of it by this word.
use Rattle.grammar.specs.Sheets.{Content}
use Rattle.sheet.specs.declared.sheet.Sheet.{Sheet}

-- what a sheet holds
abbrev pub content : Sheet → Content
content s =
    record {
      levels = s.levels;
      power = s.power;
      tasks = s.tasks;
      first = s.first_task;
    }
