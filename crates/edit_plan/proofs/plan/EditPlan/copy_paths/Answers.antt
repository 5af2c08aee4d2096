use Rattle.std.proofs.Common.{◌≡◌, ◌++◌, [], ◌∷◌, ap, map, sym, subst, ◌∙◌}
use Rattle.std.specs.Prelude.{All, length}
use Rattle.std.proofs.lemmas.List.{map-append}
use Rattle.cst_core.specs.Green.{branch_tree}
use Rattle.cst_core.specs.Element.{IsNode, NumbersTell}
use Rattle.cst_core.specs.SyntaxElement.{element_of}
use Rattle.edit_map.specs.Mapping.{followed, mapped_elements}
use Rattle.edit_change.specs.Fits.{Fits}
use Rattle.edit_change.specs.Nesting.{first_clash}
use Rattle.edit_change.specs.Topmost.{paths_of}
use Rattle.edit_change.specs.inner.DocumentOrder.{IsDocumentOrder}
use Rattle.edit_change.specs.inner.Fate.{fate}
use Rattle.edit_change.specs.inner.PathLists.{path_lists}
use Rattle.edit_change.specs.inner.OwnerPlaces.{places_in}
use Rattle.one_pass.specs.inner.Root.{TellsNewTree}
use Rattle.edit_plan.specs.Plan.{Plan}
use Rattle.edit_plan.proofs.CopiesOfOne.{copy-paths}
use Rattle.edit_plan.proofs.plan.EditPlan.copy_paths.Goals as goal

pub returns : goal.returns
returns c =
    let p = c.args.self.now in
    let e = element_of c.args.element.now in
    let f = c.in_ok-follow.field-0 in
    let planned = c.planned.result in
    let places = places_in planned.places.now in
    let new = c.in_ok-copies.field-0 in
    let tree = branch_tree new.green in
    let paths = paths_of new.changed.items in
    let found = paths_of c.in-Some.paths.items in
    let before = path_lists c.pop.new.self.items in
    let sought = c.deref.ensures.value ∙ c.in_ok-push.ensures.items ∙ ap (λ xs. xs ++ f ∷ []) c.in_ok-sought.ensures.items in
    let told = subst (λ es. TellsNewTree planned.root.now planned.changes.now places es tree (path_lists new.copies.items) paths) sought c.in_ok-copies.ensures.made in
    let of_root = subst (λ r. TellsNewTree r planned.changes.now places (f ∷ []) tree (path_lists new.copies.items) paths) c.planned.ensures.root told in
    let of_plan = subst (λ cs. TellsNewTree p.root cs places (f ∷ []) tree (path_lists new.copies.items) paths) c.planned.ensures.changes of_root in
    let lists : path_lists new.copies.items ≡ before ++ found ∷ [] = ap path_lists c.in-Some.ensures.items ∙ map-append (λ l. paths_of l.items) c.pop.new.self.items (c.in-Some.paths ∷ []) in
    let reached = subst (λ (q : Plan). NumbersTell (e ∷ mapped_elements q.mapping) → element_of f ≡ followed q.mapping e) c.self.view_is c.in_ok-follow.ensures.followed in
    copy-paths p e f tree before paths found places c.planned.ensures.is.placed (subst (λ ls. TellsNewTree p.root p.changes places (f ∷ []) tree ls paths) lists of_plan) reached

pub rewrite-requires-clause-node : goal.rewrite-requires-clause-node
rewrite-requires-clause-node c = subst IsNode (sym c.planned.ensures.root) c.planned.ensures.is.is_plan.is_node

pub rewrite-requires-clause-fit : goal.rewrite-requires-clause-fit
rewrite-requires-clause-fit c =
    subst (λ r. All (Fits r) c.planned.result.changes.now) (sym c.planned.ensures.root) (subst (All (Fits c.args.self.now.root)) (sym c.planned.ensures.changes) c.planned.ensures.is.is_plan.fit)

pub rewrite-requires-clause-apart : goal.rewrite-requires-clause-apart
rewrite-requires-clause-apart c = ap first_clash c.planned.ensures.changes ∙ c.planned.ensures.is.is_plan.apart

pub rewrite-requires-clause-order : goal.rewrite-requires-clause-order
rewrite-requires-clause-order c =
    subst (λ cs. IsDocumentOrder cs c.planned.result.order.now) (sym c.planned.ensures.changes) c.planned.ensures.is.order_is

pub rewrite-requires-clause-fates : goal.rewrite-requires-clause-fates
rewrite-requires-clause-fates c =
    subst (λ cs. c.planned.result.fates.now ≡ map (fate cs) cs) (sym c.planned.ensures.changes) c.planned.ensures.is.fates_are

pub rewrite-requires-clause-places : goal.rewrite-requires-clause-places
rewrite-requires-clause-places c = c.planned.ensures.is.long ∙ ap length (sym c.planned.ensures.changes)
