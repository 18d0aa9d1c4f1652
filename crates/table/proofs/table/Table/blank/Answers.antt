use Rattle.std.proofs.Common.{◌≡◌, [], ◌∷◌, Ok, sym, refl, ap, ◌∙◌, arith}
use Rattle.grammar.specs.Sheets.{blank_content}
use Rattle.theory.specs.Sums.{sum}
use Rattle.theory.specs.Loads.{load}
use Rattle.table.specs.Searches.{first_from}
use Rattle.table.specs.Cycles.{divide_all, cycle_of}
use Rattle.table.specs.Allowances.{allowed}
use Rattle.table.specs.Admissions.{Admitted, admit_of, blank_table}
use Rattle.table.proofs.Fittings.{same_table}
use Rattle.table.proofs.table.Table.blank.Goals as goal

blank_sheet : admit_of blank_content ≡ Ok blank_table
unfolding admit_of cycle_of first_from divide_all allowed load sum
blank_sheet = refl

pub returns-clause-origin : goal.returns-clause-origin
returns-clause-origin c =
    let levels : c.of.result ≡ 100 ∷ [] = c.of.ensures.whole (omega arith) in
    let parts = same_table c.new.ensures c.blank.ensures.loads c.blank-2.ensures.loads levels c.new-2.ensures c.blank.ensures.cycle refl in
    blank_sheet ∙ ap (λ (t : Admitted). Ok t) (sym parts)
