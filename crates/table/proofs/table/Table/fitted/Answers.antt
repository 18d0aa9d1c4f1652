use Rattle.std.proofs.Common.{◌≡◌, ℕ, ◌<◌, length, sym, ap, ◌∙◌, subst, rules, arith}
use Rattle.sheet.specs.Sheets.{content}
use Rattle.sheet.proofs.Facts.{levels-few, tasks-few}
use Rattle.grammar.specs.Tasks.{rising}
use Rattle.theory.specs.Loads.{Loads, size, work}
use Rattle.table.specs.Workloads.{loads_in}
use Rattle.table.specs.Allowances.{allowed, has}
use Rattle.table.specs.Admissions.{names_of}
use Rattle.table.proofs.Fittings as fit
use Rattle.table.proofs.table.Table.fitted.Goals as goal

pub new-requires : goal.new-requires
new-requires c =
    let set = c.args.tasks.now in
    record {
      few = set.few;
      whole = fit.works_whole set c.requires.cycle;
      fits = fit.works_fit set c.requires.cycle c.args.base c.requires.base;
    }

pub new-requires-2-clause-whole : goal.new-requires-2-clause-whole
new-requires-2-clause-whole c =
    rw c.allowances.ensures (fit.allowances_whole c.args.tasks.now c.requires.cycle c.args.base c.requires.base)

pub invariant_of-result : goal.invariant_of-result
invariant_of-result c =
    let s = c.args.sheet.now in
    let set = c.args.tasks.now in
    let b = c.args.base.percent in
    let few = tasks-few s in
    let u : loads_in c.new.result ≡ set.loads = c.new.ensures.loads in
    let v : loads_in c.new-2.result ≡ allowed b set.loads = c.new-2.ensures.loads ∙ c.allowances.ensures in
    let names : c.mapped.result ≡ names_of (content s).tasks =
    c.mapped.ensures.whole (omega (arith, ap length c.tasks.ensures, few)) (λ t. t.name) (λ x y q. search rules) ∙ ap names_of c.tasks.ensures in
    let levels : c.of.result ≡ (content s).levels =
    c.of.ensures.whole (omega (arith, ap length c.levels.ensures, levels-few s)) ∙ c.levels.ensures in
    record {
      one_number = fit.one_number (content s).tasks names (u ∙ c.requires.tasks);
      one_cycle = c.new-2.ensures.cycle ∙ sym c.new.ensures.cycle;
      one_size = fit.one_size b u v;
      one_period = fit.one-period b u v;
      at_base = fit.at_base b u v;
      works_some = subst (λ (T : Loads). (i : ℕ) → i < size T → 0 < work T i) (sym u) (λ i h. (set.sound i h).0);
      level_few = omega (arith, ap length levels, levels-few s);
      level_order = ap (rising 0) levels ∙ s.level_order;
      base_known = ap (has b) levels ∙ c.requires.base.known;
    }
