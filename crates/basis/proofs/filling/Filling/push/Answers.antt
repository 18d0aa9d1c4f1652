use Rattle.std.proofs.Common.{sym, refl, ◌∙◌, arith, length-drop}
use Rattle.std.proofs.lemmas.List.{take_more_set, drop-set-lt, drop-drop, drop_all}
use Rattle.basis.proofs.filling.Filling.push.Goals as goal

pub returns-then-self : goal.returns-then-self
returns-then-self g c =
    let m = c.args.self.now.memory.now in
    let n = c.args.self.now.len in
    record {
      lent = refl;
      cases = (
        take_more_set m n c.args.x c.if-self.true,
        drop-set-lt _ m n c.args.x (omega arith) ∙ sym (drop-drop 1 n m),
        simp length-drop (omega arith),
      );
    }

pub returns-else-self : goal.returns-else-self
returns-else-self g c =
    let m = c.args.self.now.memory.now in
    let n = c.args.self.now.len in
    record { lent = refl; cases = (refl, refl, drop_all n m (omega arith)) }
