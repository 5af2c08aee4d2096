use Rattle.std.specs.Prelude.{option_map}
use Rattle.std.proofs.Common.{◌≡◌, ◌<◌, ℕ, suc, [], ◌∷◌, ◌++◌, length, Some, sym, ◌∙◌, ap, ap₂, arith}
use Rattle.std.proofs.lemmas.List.{length-map, length-append}
use Rattle.cst_core.specs.Path.{Path, parent_path, last_slot}
use Rattle.cst_core.proofs.LastSlot.{parent_path-push, last_slot-push}
use Rattle.cst_core.specs.Tree.{at}
use Rattle.cst_core.specs.Green.{branch_tree}
use Rattle.cst_core.specs.GreenElement.{element_tree}
use Rattle.cst_core.specs.GreenElementRef.{ref_tree}
use Rattle.cst_core.specs.SyntaxElement.{element_of}
use Rattle.edit_change.proofs.SlotsOfParents.{child-there, within-children, no-child-of-token, no-child-of-none}
use Rattle.edit_change.proofs.change_aims.slot_after.Goals as goal

some-slot : (p q : Path) (s : ℕ) → p ≡ q ++ s ∷ [] → p ≡ [] → ⊥
some-slot p q s is none = let l = ap length (sym none ∙ is) in absurd (omega (arith, l, length-append q (s ∷ [])))

pub prove-unreachable-requires : goal.prove-unreachable-requires
prove-unreachable-requires c =
    let e = element_of c.args.element.now in
    let way = sym c.slots.ensures ∙ c.in-Some.ensures.cases.0 in
    let parent : c.in-Some.parent.now ≡ parent_path e.path = sym (ap parent_path way ∙ parent_path-push c.in-Some.parent.now c.in-Some.slot.now) in
    let slot : c.in-Some.slot.now ≡ last_slot e.path = sym (ap last_slot way ∙ last_slot-push c.in-Some.parent.now c.in-Some.slot.now) in
    let is : option_map ref_tree c.get.result ≡ at e.root (parent_path e.path) = c.get.ensures ∙ ap₂ at c.top_green.ensures parent in
    let found : at e.root (parent_path e.path) ≡ Some (branch_tree c.in-Some-Node.node.now) = sym is ∙ ap (option_map ref_tree) (c.in-Some-Node.is ∙ ap (λ r. Some r) c.in-Some-Node.field-0-is) in
    let within : last_slot e.path < length c.in-Some-Node.node.now.children = within-children c.in-Some-Node.node.now (at e.root (parent_path e.path)) (last_slot e.path) found (child-there e.root e.path (ref_tree c.as_green.result) (some-slot e.path c.in-Some.parent.now c.in-Some.slot.now way) c.as_green.ensures.there) in
    let counted : length c.in-Some-Node.node.now.children ≡ length c.children.result.now = sym (ap length c.children.ensures) ∙ length-map c.children.result.now element_tree in
    omega (arith, within, counted, slot, c.if-prove.true)

pub unreachable-requires : goal.unreachable-requires
unreachable-requires c =
    let e = element_of c.args.element.now in
    let way = sym c.slots.ensures ∙ c.in-Some.ensures.cases.0 in
    let parent : c.in-Some.parent.now ≡ parent_path e.path = sym (ap parent_path way ∙ parent_path-push c.in-Some.parent.now c.in-Some.slot.now) in
    let is : option_map ref_tree c.get.result ≡ at e.root (parent_path e.path) = c.get.ensures ∙ ap₂ at c.top_green.ensures parent in
    no-child-of-token _ _ (at e.root (parent_path e.path)) (last_slot e.path) (sym is ∙ ap (option_map ref_tree) (c.in-Some-Token.is ∙ ap (λ r. Some r) c.in-Some-Token.field-0-is)) (child-there e.root e.path (ref_tree c.as_green.result) (some-slot e.path c.in-Some.parent.now c.in-Some.slot.now way) c.as_green.ensures.there)

pub unreachable-requires-in-None : goal.unreachable-requires-in-None
unreachable-requires-in-None c =
    let e = element_of c.args.element.now in
    let way = sym c.slots.ensures ∙ c.in-Some.ensures.cases.0 in
    let parent : c.in-Some.parent.now ≡ parent_path e.path = sym (ap parent_path way ∙ parent_path-push c.in-Some.parent.now c.in-Some.slot.now) in
    let is : option_map ref_tree c.get.result ≡ at e.root (parent_path e.path) = c.get.ensures ∙ ap₂ at c.top_green.ensures parent in
    no-child-of-none (at e.root (parent_path e.path)) (last_slot e.path) (sym is ∙ ap (option_map ref_tree) c.in-None.is) (child-there e.root e.path (ref_tree c.as_green.result) (some-slot e.path c.in-Some.parent.now c.in-Some.slot.now way) c.as_green.ensures.there)

pub returns : goal.returns
returns c =
    let slot : c.in-Some.slot.now ≡ last_slot (element_of c.args.element.now).path = sym (ap last_slot (sym c.slots.ensures ∙ c.in-Some.ensures.cases.0) ∙ last_slot-push c.in-Some.parent.now c.in-Some.slot.now) in
    omega (arith, slot)
