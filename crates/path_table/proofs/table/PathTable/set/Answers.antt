use Rattle.std.proofs.Common.{refl}
use Rattle.std.specs.Prelude.{Some}
use Rattle.std.specs.Vec.{with_item}
use Rattle.path_table.proofs.PathTables.{place-parts, within-at, put-tree, put-places, entered}
use Rattle.path_table.proofs.table.PathTable.set.Goals as goal

pub returns-clause-put : goal.returns-clause-put
returns-clause-put g c = λ p leads.
    let t = c.args.self.now in
    let parts = place-parts t p c.args.cell leads in
    entered t c.requires.tree (record t { values = with_item t.values c.args.cell (Some c.args.value) }) c.args.cell c.args.value parts.1 refl refl p parts.0

pub returns-clause-places : goal.returns-clause-places
returns-clause-places g c =
    let t = c.args.self.now in
    let parts = place-parts t c.requires.entered.0 c.args.cell c.requires.entered.1 in
    put-places t c.requires.tree (record t { values = with_item t.values c.args.cell (Some c.args.value) }) c.args.cell c.args.value parts.1 refl refl

pub returns-clause-tree : goal.returns-clause-tree
returns-clause-tree g c =
    let t = c.args.self.now in
    let p = c.requires.entered.0 in
    let parts = place-parts t p c.args.cell c.requires.entered.1 in
    put-tree t c.requires.tree (record t { values = with_item t.values c.args.cell (Some c.args.value) }) c.args.cell c.args.value parts.1 refl refl (within-at t c.requires.tree p c.args.cell parts.0) refl
