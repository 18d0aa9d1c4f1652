use Rattle.std.proofs.Common.{◌*◌, ap, ◌∙◌}
use Rattle.std.specs.Int.{div_ceil}
use Rattle.table.proofs.Levels.{allowance_up}
use Rattle.table.proofs.level.Level.allowance.Goals as goal

pub returns-clause-value : goal.returns-clause-value
returns-clause-value c =
    c.div_ceil.ensures ∙ (ap (λ s. div_ceil (100 * c.args.work) s) c.from.ensures ∙ allowance_up c.args.self.percent c.args.work c.args.self.some)
