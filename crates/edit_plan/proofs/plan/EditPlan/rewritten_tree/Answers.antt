use Rattle.std.proofs.Common.{◌≡◌, ◌∷◌, map, sym, ap, ap₂, subst, ◌∙◌, refl}
use Rattle.std.specs.Prelude.{All}
use Rattle.cst_core.specs.Green.{branch_tree}
use Rattle.cst_core.specs.Element.{NumbersTell}
use Rattle.cst_core.specs.SyntaxElement.{element_of}
use Rattle.edit_map.specs.Mapping.{followed, mapped_elements}
use Rattle.edit_change.specs.Topmost.{paths_of}
use Rattle.edit_plan.specs.Plan.{Plan}
use Rattle.edit_plan.specs.Engine.{annotated_path}
use Rattle.edit_plan.specs.inner.Annotating.{numbered_paths}
use Rattle.edit_change.specs.inner.PathLists.{path_lists}
use Rattle.std.specs.Prelude.{length}
use Rattle.cst_core.specs.Element.{IsNode}
use Rattle.edit_change.specs.Fits.{Fits}
use Rattle.edit_change.specs.Nesting.{first_clash}
use Rattle.edit_change.specs.inner.Fate.{fate}
use Rattle.edit_change.specs.inner.DocumentOrder.{IsDocumentOrder}
use Rattle.edit_change.specs.inner.OwnerPlaces.{places_in}
use Rattle.one_pass.specs.inner.Root.{TellsNewTree, CountsAll}
use Rattle.edit_plan.proofs.AllTouched.{all-touched}
use Rattle.edit_plan.proofs.ByAnnotation.{is_rewritten}
use Rattle.edit_plan.proofs.plan.EditPlan.rewritten_tree.Goals as goal

pub rewrite-requires-clause-node : goal.rewrite-requires-clause-node
rewrite-requires-clause-node c = subst IsNode (sym c.planned.ensures.root) c.planned.ensures.is.is_plan.is_node

pub rewrite-requires-clause-fit : goal.rewrite-requires-clause-fit
rewrite-requires-clause-fit c =
    subst (λ r. All (Fits r) c.planned.result.changes.now) (sym c.planned.ensures.root) (subst (All (Fits c.args.self.now.root)) (sym c.planned.ensures.changes) c.planned.ensures.is.is_plan.fit)

pub rewrite-requires-clause-apart : goal.rewrite-requires-clause-apart
rewrite-requires-clause-apart c = ap first_clash c.planned.ensures.changes ∙ c.planned.ensures.is.is_plan.apart

pub rewrite-requires-clause-order : goal.rewrite-requires-clause-order
rewrite-requires-clause-order c =
    subst (λ cs. IsDocumentOrder cs c.planned.result.order.now) (sym c.planned.ensures.changes) c.planned.ensures.is.order_is

pub rewrite-requires-clause-fates : goal.rewrite-requires-clause-fates
rewrite-requires-clause-fates c =
    subst (λ cs. c.planned.result.fates.now ≡ map (fate cs) cs) (sym c.planned.ensures.changes) c.planned.ensures.is.fates_are

pub rewrite-requires-clause-places : goal.rewrite-requires-clause-places
rewrite-requires-clause-places c = c.planned.ensures.is.long ∙ ap length (sym c.planned.ensures.changes)

pub returns-clause-made : goal.returns-clause-made
returns-clause-made c =
    let p = c.args.self.now in
    let m = c.self.inside.mapping in
    let planned = c.planned.result in
    let places = places_in planned.places.now in
    let fs = c.in_ok-registered.registered.items in
    let new = c.in_ok-green.field-0 in
    let tree = branch_tree new.green in
    let copies = path_lists new.copies.items in
    let paths = paths_of new.changed.items in
    let told = subst (λ es. TellsNewTree planned.root.now planned.changes.now places es tree copies paths) c.deref-2.ensures.value c.in_ok-green.ensures.made in
    let of_root = subst (λ r. TellsNewTree r planned.changes.now places fs tree copies paths) c.planned.ensures.root told in
    let of_plan = subst (λ cs. TellsNewTree p.root cs places fs tree copies paths) c.planned.ensures.changes of_root in
    let reached = subst (λ rs. All (λ r. NumbersTell (element_of r.0 ∷ mapped_elements m)) rs → map element_of fs ≡ map (λ r. followed m (element_of r.0)) rs) c.deref.ensures.value c.in_ok-registered.ensures in
    is_rewritten p fs tree copies paths (map annotated_path c.in_ok-annotated.annotated.items) places c.planned.ensures.is.placed of_plan (subst (λ (q : Plan). All (λ r. NumbersTell (element_of r.0 ∷ mapped_elements q.mapping)) q.registrations → map element_of fs ≡ map (λ r. followed q.mapping (element_of r.0)) q.registrations) c.self.view_is reached) (c.in_ok-annotated.ensures ∙ ap₂ (λ rs ls. numbered_paths (map (λ r. r.1) rs) (path_lists ls)) (c.deref-3.ensures.value ∙ ap (λ x. x.registrations) c.self.view_is) refl)

pub returns-clause-count : goal.returns-clause-count
returns-clause-count c =
    let p = c.args.self.now in
    let planned = c.planned.result in
    let places = places_in planned.places.now in
    let before = c.args.builds.now in
    let after = c.rewrite.new.builds in
    let of_root = subst (λ r. CountsAll r planned.changes.now places before after) c.planned.ensures.root c.in_ok-green.ensures.count in
    all-touched p c.planned.ensures.is.is_plan c.keep_shapes.ensures places c.planned.ensures.is.placed before after (subst (λ cs. CountsAll p.root cs places before after) c.planned.ensures.changes of_root)
