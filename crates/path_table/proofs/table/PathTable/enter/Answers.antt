use Rattle.std.proofs.Common.{ap, arith}
use Rattle.path_table.specs.inner.PathTable.{IsGrown}
use Rattle.path_table.proofs.PathTables.{roomy, grown-on, grown-places, within-at, place-is}
use Rattle.path_table.proofs.table.PathTable.enter.Goals as goal

pub returns-in_err-make_room-clause-places : goal.returns-in_err-make_room-clause-places
returns-in_err-make_room-clause-places g c =
    let first = c.in_ok-cell.ensures.grown in
    let room = c.in_err-make_room.ensures in
    let more : IsGrown c.enter_cells.new.self c.make_room.new.self = roomy c.enter_cells.new.self c.make_room.new.self first.tree room.steps (ap (λ w. w.items) room.way) room.values room.longer in
    grown-places c.args.self.now c.make_room.new.self (grown-on c.args.self.now c.enter_cells.new.self c.make_room.new.self first more)

pub returns-in_err-make_room-clause-values : goal.returns-in_err-make_room-clause-values
returns-in_err-make_room-clause-values g c =
    let first = c.in_ok-cell.ensures.grown in
    let room = c.in_err-make_room.ensures in
    let more : IsGrown c.enter_cells.new.self c.make_room.new.self = roomy c.enter_cells.new.self c.make_room.new.self first.tree room.steps (ap (λ w. w.items) room.way) room.values room.longer in
    (grown-on c.args.self.now c.enter_cells.new.self c.make_room.new.self first more).values

pub returns-in_err-make_room-clause-tree : goal.returns-in_err-make_room-clause-tree
returns-in_err-make_room-clause-tree g c =
    let room = c.in_err-make_room.ensures in
    (roomy c.enter_cells.new.self c.make_room.new.self c.in_ok-cell.ensures.grown.tree room.steps (ap (λ w. w.items) room.way) room.values room.longer).tree

pub returns-clause-entered : goal.returns-clause-entered
returns-clause-entered g c =
    let before = c.enter_cells.new.self in
    let after = c.make_room.new.self in
    let first = c.in_ok-cell.ensures in
    let room = c.in_ok-make_room.ensures in
    let more : IsGrown before after = roomy before after first.grown.tree room.steps (ap (λ w. w.items) room.way) room.values room.longer in
    let leads = more.stay c.args.path.now c.in_ok-cell.cell first.leads in
    place-is after c.args.path.now c.in_ok-cell.cell leads (omega (arith, within-at after more.tree c.args.path.now c.in_ok-cell.cell leads, room.room))

pub returns-clause-places : goal.returns-clause-places
returns-clause-places g c =
    let first = c.in_ok-cell.ensures.grown in
    let room = c.in_ok-make_room.ensures in
    let more : IsGrown c.enter_cells.new.self c.make_room.new.self = roomy c.enter_cells.new.self c.make_room.new.self first.tree room.steps (ap (λ w. w.items) room.way) room.values room.longer in
    grown-places c.args.self.now c.make_room.new.self (grown-on c.args.self.now c.enter_cells.new.self c.make_room.new.self first more)

pub returns-clause-values : goal.returns-clause-values
returns-clause-values g c =
    let first = c.in_ok-cell.ensures.grown in
    let room = c.in_ok-make_room.ensures in
    let more : IsGrown c.enter_cells.new.self c.make_room.new.self = roomy c.enter_cells.new.self c.make_room.new.self first.tree room.steps (ap (λ w. w.items) room.way) room.values room.longer in
    (grown-on c.args.self.now c.enter_cells.new.self c.make_room.new.self first more).values

pub returns-clause-tree : goal.returns-clause-tree
returns-clause-tree g c =
    let room = c.in_ok-make_room.ensures in
    (roomy c.enter_cells.new.self c.make_room.new.self c.in_ok-cell.ensures.grown.tree room.steps (ap (λ w. w.items) room.way) room.values room.longer).tree
