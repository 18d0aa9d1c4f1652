use Rattle.std.proofs.Common.{rules}
use Rattle.theory.specs.Slots.{owner}
use Rattle.table.specs.Workloads.{loads_in}
use Rattle.wake.proofs.Owners.{owner_picked}
use Rattle.wake.proofs.machine.SlotMachine.owner.Goals as goal

pub returns-else-awake : goal.returns-else-awake
unfolding owner
returns-else-awake c = search rules

pub returns-then-awake : goal.returns-then-awake
returns-then-awake c =
    let m = c.args.self.now in
    let T = loads_in m.workload in
    owner_picked T m.jobs m.tick m.one_number m.dues m.releases m.own c.args.awake c.pick.result c.if-awake.true c.entries.ensures.entries c.pick.ensures
