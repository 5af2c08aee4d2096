use Rattle.std.proofs.Common.{◌≡◌, ◌∷◌, [], length, reverse, ap, sym, ◌∙◌, inl, inr, arith}
use Rattle.std.specs.Prelude.{◌⊎◌}
use Rattle.path_table.proofs.PathTables.{places-parted, places-kept}
use Rattle.cst_core.specs.Element.{Element}
use Rattle.edit_map.specs.inner.Climbing.{cell_of}
use Rattle.edit_map.proofs.Tables.{made-again, made-itself, reverse-first, cells-end}
use Rattle.edit_map.proofs.pairs.put_all.Goals as goal

pub loop-cell-preserved : goal.loop-cell-preserved
loop-cell-preserved c =
    let rest = c.next.new.self.b.rest.items in
    let pair = c.in-Some.pair in
    let was : Element × Element → _ = λ p. cell_of c.loop-cell.numbers p.0 in
    let now : Element × Element → _ = λ p. cell_of c.put.new.numbers p.0 in
    let steps = c.in-Some.ensures.steps in
    let long : length c.loop-cell.cell-iterator.b.rest.items ≡ length (pair ∷ rest) = ap length steps.1.0 in
    let cells = rw (steps.0, steps.1.0) at c.loop-cell.invariant.cells in
    record {
      numbered = c.put.ensures.numbered;
      has_room = omega (arith, long, c.loop-cell.invariant.has_room, c.put.ensures.len, c.put.ensures.capacity);
      cells = places-kept was now (λ x n at. c.put.ensures.cells x.0 ∙ at) c.next.new.self.a.rest.now rest (places-parted was c.in-Some.cell.now c.next.new.self.a.rest.now pair rest cells).1;
      made = λ m made. c.loop-cell.invariant.made m (rw (steps.1.0, reverse-first pair rest c.loop-cell.pairs.items) (made-again (reverse rest) (pair ∷ c.loop-cell.pairs.items) c.put.new.pairs.items m c.put.ensures.made made));
    }

pub returns-clause-made : goal.returns-clause-made
returns-clause-made c =
    let was : Element × Element → _ = λ p. cell_of c.loop-cell.numbers p.0 in
    let ends : (length c.loop-cell.cell-iterator.a.rest.now ≡ 0) ⊎ (length c.loop-cell.cell-iterator.b.rest.items ≡ 0) = elim c.in-None.ensures.steps [
      | inl first ↦ inl first.1.0
      | inr second ↦ inr (sym c.loop-cell.cell-iterator.b.rest.ok.0 ∙ second.1.0)
    ] in
    let none : c.loop-cell.cell-iterator.b.rest.items ≡ [] = cells-end was c.loop-cell.cell-iterator.a.rest.now c.loop-cell.cell-iterator.b.rest.items c.loop-cell.invariant.cells ends in
    c.loop-cell.invariant.made c.loop-cell.pairs.items (rw none (made-itself c.loop-cell.pairs.items))
