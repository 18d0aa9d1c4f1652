-- What a table holds. Other crates do not see its fields and speak of it by these words.
use Rattle.table.specs.declared.table.Table.{Table}
use Rattle.table.specs.Workloads.{loads_in, turn_of}
use Rattle.table.specs.Admissions.{Admitted}

abbrev pub admitted : Table → Admitted
admitted t =
    record {
      names = t.names;
      works = loads_in t.works;
      allowances = loads_in t.allowances;
      levels = t.levels;
      base = t.base.percent;
      cycle = turn_of t.works;
      power = t.power;
    }
