use Rattle.std.proofs.Common.{◌≡◌, List, Some, None, option_map, ap, sym, ◌∙◌, subst}
use Rattle.table.specs.declared.base.Rung.{Rung}
use Rattle.table.specs.declared.level.Level.{Level}
use Rattle.table.proofs.Bases.{Chosen, row, picked_none, picked_some}
use Rattle.table.proofs.tasks.TaskSet.base.Goals as goal

pub returns-in_err-place : goal.returns-in_err-place
returns-in_err-place c =
    let T = c.args.self.now.loads in
    let H = c.args.turn.ticks in
    let vs = c.args.levels.now in
    let e : c.entries.result.now ≡ row T H vs c.requires = c.entries.ensures.entries ∙ c.rungs-rungs.ensures in
    ap (λ r. option_map (λ (l : Level). l.percent) r) c.from_residual.ensures
    ∙ sym (picked_none T H vs c.requires (subst (λ (xs : List Rung). Chosen H xs None) e c.in_err-place.ensures))

pub returns : goal.returns
returns c =
    let T = c.args.self.now.loads in
    let H = c.args.turn.ticks in
    let vs = c.args.levels.now in
    let b = c.in_ok-place.place in
    let e : c.entries.result.now ≡ row T H vs c.requires = c.entries.ensures.entries ∙ c.rungs-rungs.ensures in
    ap (λ v. Some v) c.new.ensures
    ∙ sym (picked_some T H vs c.requires b (subst (λ (xs : List Rung). Chosen H xs (Some b)) e c.in_ok-place.ensures))
