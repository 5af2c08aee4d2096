use Rattle.std.proofs.Common.{◌≡◌, ◌+◌, ◌++◌, ◌∷◌, [], Some, map, take, refl, ap, ap₂, subst, sym, ◌∙◌, arith}
use Rattle.std.proofs.lemmas.List.{map-append, take_all, take_more}
use Rattle.cst_core.specs.SyntaxElement.{element_of}
use Rattle.change_list.specs.inner.Indexing.{place_of}
use Rattle.path_table.specs.inner.PathTable.{place_at}
use Rattle.path_table.proofs.PathTables.{places-kept}
use Rattle.change_list.proofs.Unchanged.{no-value}
use Rattle.change_list.proofs.change_list.entered.Goals as goal

pub loop-element-preserved : goal.loop-element-preserved
loop-element-preserved c =
    let xs = c.args.elements.now in
    let i = c.loop-element.element-index in
    let e = c.element-item.result in
    let n = c.in_ok-enter.field-0 in
    let before = c.loop-element.places.items in
    let now = place_of c.enter.new.self in
    let more : take (i + 1) xs ≡ take i xs ++ e ∷ [] = take_more xs i e c.loop-element-test.true ∙ ap (λ x. take i xs ++ x ∷ []) (sym c.element-item.is) in
    let entered : now e ≡ Some n = subst (λ p. place_at c.enter.new.self p ≡ Some n) c.slots.ensures c.in_ok-enter.ensures.entered in
    record {
      tree = c.in_ok-enter.ensures.tree;
      places =
          ap (map (λ k. Some k)) c.in_ok-push.ensures.items ∙ map-append (λ k. Some k) before (n ∷ [])
          ∙ ap₂ (λ a b. a ++ b ∷ []) (places-kept (place_of c.loop-element.replaced) now (λ x. c.in_ok-enter.ensures.places (element_of x).path) before (take i xs) c.loop-element.invariant.places) (sym entered)
          ∙ sym (ap (map now) more ∙ map-append now (take i xs) (e ∷ []));
      said = λ p. c.in_ok-enter.ensures.values p ∙ c.loop-element.invariant.said p;
    }

pub returns-in_err-places-clause-tree : goal.returns-in_err-places-clause-tree
returns-in_err-places-clause-tree c = c.requires

pub returns-in_err-places-clause-places : goal.returns-in_err-places-clause-places
returns-in_err-places-clause-places c = no-value _ c.from_residual.result c.from_residual.ensures.0

pub returns-in_err-places-clause-said : goal.returns-in_err-places-clause-said
returns-in_err-places-clause-said c = λ p. refl

pub enter-requires : goal.enter-requires
enter-requires c = c.loop-element.invariant.tree

pub returns-in_err-enter-clause-tree : goal.returns-in_err-enter-clause-tree
returns-in_err-enter-clause-tree c = c.in_err-enter.ensures.tree

pub returns-in_err-enter-clause-places : goal.returns-in_err-enter-clause-places
returns-in_err-enter-clause-places c = no-value _ c.from_residual-in_err-enter.result c.from_residual-in_err-enter.ensures.0

pub returns-in_err-enter-clause-said : goal.returns-in_err-enter-clause-said
returns-in_err-enter-clause-said c = λ p. c.in_err-enter.ensures.values p ∙ c.loop-element.invariant.said p

pub returns-in_err-push-clause-tree : goal.returns-in_err-push-clause-tree
returns-in_err-push-clause-tree c = c.in_ok-enter.ensures.tree

pub returns-in_err-push-clause-places : goal.returns-in_err-push-clause-places
returns-in_err-push-clause-places c = no-value _ c.from_residual-in_err-push.result c.from_residual-in_err-push.ensures.0

pub returns-in_err-push-clause-said : goal.returns-in_err-push-clause-said
returns-in_err-push-clause-said c = λ p. c.in_ok-enter.ensures.values p ∙ c.loop-element.invariant.said p

pub returns-clause-tree : goal.returns-clause-tree
returns-clause-tree c = c.loop-element.invariant.tree

pub returns-clause-places : goal.returns-clause-places
returns-clause-places c = c.loop-element.invariant.places ∙ ap (map (place_of c.loop-element.replaced)) (take_all c.loop-element.element-index c.args.elements.now (omega (arith, c.loop-element-test.false)))

pub returns-clause-said : goal.returns-clause-said
returns-clause-said c = c.loop-element.invariant.said
