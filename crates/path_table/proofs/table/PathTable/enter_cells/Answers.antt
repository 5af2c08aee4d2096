use Rattle.std.proofs.Common.{◌≡◌, Some, take, ap, sym, ◌∙◌}
use Rattle.path_table.specs.inner.Steps.{slots_of, way_end}
use Rattle.path_table.specs.inner.PathTable.{cell_at}
use Rattle.path_table.proofs.PathTables.{enter-more, grown-on, grown-cut}
use Rattle.path_table.proofs.Ways.{way-cut, way-leads}
use Rattle.path_table.proofs.table.PathTable.enter_cells.Goals as goal

pub loop-depth-init : goal.loop-depth-init
loop-depth-init g c =
    let t = c.args.self.now in
    let way = t.way.items in
    let path = c.args.path.now in
    let count = c.shared-shared.result.0 in
    let last = c.shared-shared.result.1 in
    let cut = c.truncate.new.self in
    let items : cut.items ≡ take count way = c.truncate.ensures.items in
    let slots : slots_of (take count way) ≡ take count path = ap (λ w. slots_of (take count w)) (sym c.deref.ensures.value) ∙ c.shared-shared.ensures.slots in
    let ends : last ≡ way_end 0 (take count way) = c.shared-shared.ensures.end ∙ ap (λ w. way_end 0 (take count w)) c.deref.ensures.value in
    record {
      leads = ap (cell_at t) (sym slots) ∙ way-leads t 0 (take count way) (way-cut t.steps count 0 way c.requires.way) ∙ ap (λ n. Some n) (sym ends);
      end = ends ∙ ap (way_end 0) (sym items);
      grown = grown-cut t count cut c.requires items;
    }

pub returns-in_err-cell-clause-grown : goal.returns-in_err-cell-clause-grown
returns-in_err-cell-clause-grown g c = grown-on c.args.self.now c.loop-depth.self c.go_on.new.self c.loop-depth.invariant.grown c.in_err-cell.ensures.grown

pub loop-depth-preserved : goal.loop-depth-preserved
loop-depth-preserved g c =
    let loop = c.loop-depth in
    let made = c.in_ok-cell.ensures in
    record {
      leads = enter-more loop.self c.go_on.new.self c.args.path.now loop.depth loop.cell c.in_ok-cell.cell c.loop-depth-test.true loop.invariant.leads made.grown made.leads;
      end = made.end;
      grown = grown-on c.args.self.now loop.self c.go_on.new.self loop.invariant.grown made.grown;
    }
