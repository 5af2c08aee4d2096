use Rattle.std.proofs.Common.{◌<◌, length, arith}
use Rattle.path_table.specs.inner.Steps.{AreAmong}
use Rattle.path_table.proofs.EnteredSteps.{entered-latest, same-among}
use Rattle.path_table.proofs.steps.Steps.enter.Goals as goal

pub index_mut-requires : goal.index_mut-requires
index_mut-requires c = omega (arith, c.in_ok-make_room.ensures.room)

pub invariant_of-self-2 : goal.invariant_of-self-2
invariant_of-self-2 c =
    let before = c.self.inside.by_slot.entries in
    let latest = c.make_room.new.latest.items in
    let within : c.args.cell < length latest = omega (arith, c.in_ok-make_room.ensures.room) in
    let among : AreAmong before latest = same-among before c.self.inside.latest.items latest c.make_room.ensures.same c.self.invariant in
    entered-latest before c.enter_in.new.by_slot.entries c.args.cell c.args.slot c.in_ok-below.below latest within c.in_ok-below.ensures.entered among
