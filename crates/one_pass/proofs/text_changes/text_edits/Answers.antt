use Rattle.std.proofs.Common.{map, flat_map, ap, sym, subst, ◌∙◌}
use Rattle.cst_core.specs.Element.{subtree}
use Rattle.edit_change.specs.inner.Aimed.{aims_of}
use Rattle.edit_change.specs.inner.OwnerPlaces.{places_in}
use Rattle.edit_change.proofs.AlteredNodes.{if_ok-map}
use Rattle.one_pass.specs.inner.OwnerTables.{AreDependents}
use Rattle.one_pass.specs.inner.TextOrder.{pieces_by, in_order_of}
use Rattle.one_pass.proofs.TextOrders.{pieces-given}
use Rattle.one_pass.proofs.text_changes.text_edits.Goals as goal

pub root_replacement-replacement-requires-clause-aims : goal.root_replacement-replacement-requires-clause-aims
root_replacement-replacement-requires-clause-aims c = ap aims_of c.deref-2.ensures.value ∙ c.in_ok-free.ensures.free

pub returns : goal.returns
returns c =
    let planned = c.args.planned in
    let root = planned.root.now in
    let changes = planned.changes.now in
    let places = places_in planned.places.now in
    let table = c.in_ok-given.given in
    let are : AreDependents changes places c.deref.result.now = subst (AreDependents changes places) (sym c.deref.ensures.value) c.in_ok-free.ensures.owned in
    let aims = ap aims_of c.deref-3.ensures.value ∙ c.in_ok-free.ensures.free in
    let order = ap (map (λ m. m.number)) c.deref-4.ensures.value ∙ c.in_ok-marks.ensures ∙ ap (λ cs. in_order_of changes cs (subtree root)) aims in
    let is = ap (flat_map (pieces_by root changes table)) order ∙ pieces-given root changes places table (c.in_ok-given.ensures.given places are) in
    if_ok-map _ _ c.edits_in_order.result (λ v h. h ∙ is) c.edits_in_order.ensures
