use Rattle.std.proofs.Common.{◌≡◌, ◌+◌, sym, ◌∙◌, subst, rules}
use Rattle.std.proofs.lemmas.Result.{err_from_is_err_and}
use Rattle.basis.specs.declared.fault.Reason.TheVariants.{LongCycle, Overfull}
use Rattle.basis.specs.Faults.{fault_at}
use Rattle.sheet.specs.Sheets.{content}
use Rattle.table.specs.declared.level.Level.{Level}
use Rattle.table.specs.Admissions.{Admitted, LeastCycle, LowestBase}
use Rattle.table.specs.Tables.{admitted}
use Rattle.table.proofs.Verdicts as verdict
use Rattle.table.proofs.Admissions.{sheet_levels, base-is}
use Rattle.table.proofs.table.Table.measured.Goals as goal

pub base-requires : goal.base-requires
base-requires c = rw c.levels.ensures (sheet_levels c.args.sheet.now)

pub fitted-requires-clause-base : goal.fitted-requires-clause-base
fitted-requires-clause-base c =
    let s = c.args.sheet.now in
    let found = verdict.some_given (λ (l : Level). l.percent) c.base.result Overfull c.base.ensures (sym c.ok_or.ensures.value ∙ c.in_ok-base.was) in
    base-is _ (content s).levels _ (sheet_levels s) (rw c.levels.ensures at found)

pub returns-in_err-cycle-clause-answer : goal.returns-in_err-cycle-clause-answer
returns-in_err-cycle-clause-answer c =
    let s = c.args.sheet.now in
    let long = verdict.err_mapped _ _ _ c.cycle.result c.cycle.ensures c.map_err.ensures.cases c.in_err-cycle.was in
    let left = err_from_is_err_and c.from_residual.result c.from_residual.ensures.1 in
    let fault : c.in_err-cycle.field-0.0 ≡ fault_at LongCycle ((content s).first + long.0) = let made = long.2 in search rules in
    rw (left.1, left.2, fault) (verdict.refused_long (content s) c.of-tasks.ensures long.1.0 long.1.1)

pub returns-in_err-base-clause-answer : goal.returns-in_err-base-clause-answer
returns-in_err-base-clause-answer c =
    let s = c.args.sheet.now in
    let some = verdict.ok_mapped _ _ _ c.cycle.result c.cycle.ensures c.map_err.ensures.cases c.in_ok-cycle.was in
    let found = verdict.none_given (λ (l : Level). l.percent) c.base.result Overfull c.base.ensures (sym c.ok_or.ensures.value ∙ c.in_err-base.was) in
    let left = err_from_is_err_and c.from_residual-in_err-base.result c.from_residual-in_err-base.ensures.1 in
    rw (left.1, left.2, found.1) (verdict.refused_full (content s) c.of-tasks.ensures some.0 (rw c.levels.ensures at found.0))

pub returns : goal.returns
returns c =
    let s = c.args.sheet.now in
    let some = verdict.ok_mapped _ _ _ c.cycle.result c.cycle.ensures c.map_err.ensures.cases c.in_ok-cycle.was in
    let found = verdict.some_given (λ (l : Level). l.percent) c.base.result Overfull c.base.ensures (sym c.ok_or.ensures.value ∙ c.in_ok-base.was) in
    let low = rw c.levels.ensures at found in
    let t = admitted c.fitted.result in
    record {
      answer = verdict.accepted (content s) c.of-tasks.ensures some.0 low c.fitted.ensures;
      cycle = subst (λ (a : Admitted). LeastCycle a) (sym c.fitted.ensures) (rw c.of-tasks.ensures at some.1);
      base = subst (λ (a : Admitted). LowestBase a) (sym c.fitted.ensures) (rw c.of-tasks.ensures at (base-is _ (content s).levels _ (sheet_levels s) low));
    }
