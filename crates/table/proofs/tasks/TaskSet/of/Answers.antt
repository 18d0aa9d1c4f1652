use Rattle.std.proofs.Common.{◌≡◌, length, ap, ◌∙◌, sym, subst, rules, arith}
use Rattle.std.proofs.lemmas.List.{length-map}
use Rattle.sheet.specs.Sheets.{content}
use Rattle.sheet.proofs.Facts.{tasks-few}
use Rattle.theory.specs.Loads.{Loads}
use Rattle.table.specs.Cycles.{Sound}
use Rattle.table.specs.Admissions.{load_of, loads_of}
use Rattle.table.proofs.Admissions.{sheet_sound}
use Rattle.table.proofs.tasks.TaskSet.of.Goals as goal

pub invariant_of-result : goal.invariant_of-result
invariant_of-result c =
    let s = c.args.sheet.now in
    let few = tasks-few s in
    let e : c.mapped.result ≡ loads_of (content s).tasks =
    c.mapped.ensures.whole (omega (arith, ap length c.tasks.ensures, few)) load_of (λ x y q. search rules) ∙ ap loads_of c.tasks.ensures in
    record {
      few = omega (arith, ap length e, length-map (content s).tasks load_of, few);
      sound = subst (λ (T : Loads). Sound T) (sym e) (sheet_sound s);
    }
