use Rattle.std.proofs.Common.{◌≡◌, ◌+◌, ◌++◌, ◌∷◌, [], Some, map, take, ap, ap₂, sym, ◌∙◌}
use Rattle.std.proofs.lemmas.List.{map-append, take_more}
use Rattle.cst_core.specs.Element.{Element, address}
use Rattle.cst_core.specs.inner.InTree.{address_path}
use Rattle.path_table.proofs.PathTables.{places-kept}
use Rattle.edit_map.specs.inner.Climbing.{cell_of}
use Rattle.edit_map.proofs.stops.enter_all.Goals as goal

pub loop-input-preserved : goal.loop-input-preserved
loop-input-preserved c =
    let xs = c.args.pairs.now in
    let i = c.loop-input.input-index in
    let pair = c.loop-input-item.result in
    let before = c.loop-input.cells.items in
    let was : Element × Element → _ = λ p. cell_of c.loop-input.numbers p.0 in
    let now : Element × Element → _ = λ p. cell_of c.enter.new.numbers p.0 in
    let more : take (i + 1) xs ≡ take i xs ++ pair ∷ [] = take_more xs i pair c.loop-input-test.true ∙ ap (λ x. take i xs ++ x ∷ []) (sym c.loop-input-item.is) in
    record {
      tree = c.in_ok-enter.ensures.tree;
      cells =
          ap (map (λ k. Some k)) c.in_ok-push.ensures.items ∙ map-append (λ k. Some k) before (c.in_ok-enter.field-0 ∷ [])
          ∙ ap₂ (λ a b. a ++ b ∷ []) (places-kept was now (λ x. c.in_ok-enter.ensures.places (address_path (address x.0))) before (take i xs) c.loop-input.invariant.cells) (sym c.in_ok-enter.ensures.entered)
          ∙ sym (ap (map now) more ∙ map-append now (take i xs) (pair ∷ []));
      values = λ p. c.in_ok-enter.ensures.values p ∙ c.loop-input.invariant.values p;
    }
