use Rattle.std.proofs.Common.{◌≡◌, ◌∷◌, ◌++◌, ℕ, Bool, Some, None, cond, option_map, is_none, sym, ap, ap₂, ◌∙◌, arith}
use Rattle.std.specs.List.{find}
use Rattle.std.proofs.lemmas.List.{take-append-drop}
use Rattle.std.specs.Option.{option_or}
use Rattle.cst_core.specs.GreenElement.{element_tree, element_trees}
use Rattle.cst_core.specs.Tree.{forest}
use Rattle.green_tree.specs.inner.TreeSize.{size, forest_size}
use Rattle.green_tree.proofs.Slots.{size_at}
use Rattle.tree_text.specs.KindNames.{name_in}
use Rattle.tree_text.specs.TreeText.{kinds, forest_kinds}
use Rattle.tree_text.proofs.Unnamed.{left, first_in_child, none_in_child, in_lighter, in_rest, into_rest, mapped_or, parts_size}
use Rattle.tree_text.proofs.write.+first_unnamed.Goals as goal
use Rattle.tree_text.proofs.write.+first_unnamed.Goals.{first_among-in-Node, first_among-in-Token}

pub first_among-first_unnamed-unnamed-requires : goal.first_among-first_unnamed-unnamed-requires
first_among-first_unnamed-unnamed-requires t c =
    let below = size_at c.args.elements.now c.loop-element.element-index c.element-item.result c.loop-element-test.true c.element-item.is in
    let below_node = rw c.in-Node.is at below in
    (omega arith, tt)

pub first_among-returns-in-Some : goal.first_among-returns-in-Some
first_among-returns-in-Some t c =
    let test : ℕ → Bool = λ k. is_none (name_in c.args.names.now k) in
    let told : option_map (λ k. k.0) c.match-element.unnamed ≡ find test (kinds (element_tree c.element-item.result)) = elim c.match-element.branch [
      | first_among-in-Node w ↦ rw (w.unnamed-is, w.in-Node.is) w.first_unnamed-unnamed.ensures
      | first_among-in-Token w ↦ rw (w.unnamed-is, w.in-Token.is, ← w.kind.ensures) w.unnamed_kind-unnamed.ensures
    ] in
    let found : Some c.in-Some.kind.0 ≡ find test (kinds (element_tree c.element-item.result)) = rw c.in-Some.is at told in
    first_in_child test c.args.elements.now c.loop-element.element-index c.element-item.result c.in-Some.kind.0 _ c.loop-element-test.true c.element-item.is (sym found) c.loop-element.invariant

pub first_among-loop-element-preserved : goal.first_among-loop-element-preserved
first_among-loop-element-preserved t c =
    let test : ℕ → Bool = λ k. is_none (name_in c.args.names.now k) in
    let told : option_map (λ k. k.0) c.match-element.unnamed ≡ find test (kinds (element_tree c.element-item.result)) = elim c.match-element.branch [
      | first_among-in-Node w ↦ rw (w.unnamed-is, w.in-Node.is) w.first_unnamed-unnamed.ensures
      | first_among-in-Token w ↦ rw (w.unnamed-is, w.in-Token.is, ← w.kind.ensures) w.unnamed_kind-unnamed.ensures
    ] in
    let none : None ≡ find test (kinds (element_tree c.element-item.result)) = rw c.in_default.is at told in
    none_in_child test c.args.elements.now c.loop-element.element-index c.element-item.result _ c.loop-element-test.true c.element-item.is (sym none) c.loop-element.invariant

pub first_unnamed-first_among-requires : goal.first_unnamed-first_among-requires
first_unnamed-first_among-requires t c =
    let parts = sym (ap₂ (λ xs ys. xs ++ ys) c.split_at.ensures.front c.split_at.ensures.back ∙ take-append-drop c.unwrap_or-heaviest.result c.children-children.result.now) in
    let sizes = parts_size c.loop-kind.current.now c.children-children.result.now c.split_at.result.0.now c.split_at.result.1.now c.children-children.ensures parts in
    (omega (arith, sizes, c.loop-kind.invariant.within), tt)

pub first_unnamed-returns-in-Some-first_among : goal.first_unnamed-returns-in-Some-first_among
first_unnamed-returns-in-Some-first_among t c =
    let test : ℕ → Bool = λ k. is_none (name_in c.args.names.now k) in
    let es = c.children-children.result.now in
    let kind = c.loop-kind.current.now.kind in
    let later = option_map (λ k. k.0) c.loop-kind.later in
    let parts = sym (ap₂ (λ xs ys. xs ++ ys) c.split_at.ensures.front c.split_at.ensures.back ∙ take-append-drop c.unwrap_or-heaviest.result c.children-children.result.now) in
    let named : None ≡ cond (test kind) (Some kind) None = rw (c.in_default.is, c.kind.ensures) at c.unnamed_kind.ensures in
    let is : Some c.in-Some-first_among.kind.0 ≡ left test c.split_at.result.0.now = sym (ap (option_map (λ k. k.0)) c.in-Some-first_among.is) ∙ c.first_among.ensures in
    in_lighter test kind es c.split_at.result.0.now c.split_at.result.1.now later parts c.in-Some-first_among.kind.0 named is
    ∙ ap (λ ts. option_or (find test (kind ∷ forest_kinds (forest ts))) later) c.children-children.ensures
    ∙ c.loop-kind.invariant.whole

pub first_unnamed-first_among-requires-in_default-split_first : goal.first_unnamed-first_among-requires-in_default-split_first
first_unnamed-first_among-requires-in_default-split_first t c =
    let parts = sym (ap₂ (λ xs ys. xs ++ ys) c.split_at.ensures.front c.split_at.ensures.back ∙ take-append-drop c.unwrap_or-heaviest.result c.children-children.result.now) in
    let sizes = parts_size c.loop-kind.current.now c.children-children.result.now c.split_at.result.0.now c.split_at.result.1.now c.children-children.ensures parts in
    (omega (arith, sizes, c.loop-kind.invariant.within), tt)

pub first_unnamed-returns-in_default-split_first : goal.first_unnamed-returns-in_default-split_first
first_unnamed-returns-in_default-split_first t c =
    let test : ℕ → Bool = λ k. is_none (name_in c.args.names.now k) in
    let es = c.children-children.result.now in
    let kind = c.loop-kind.current.now.kind in
    let later = option_map (λ k. k.0) c.loop-kind.later in
    let parts = sym (ap₂ (λ xs ys. xs ++ ys) c.split_at.ensures.front c.split_at.ensures.back ∙ take-append-drop c.unwrap_or-heaviest.result c.children-children.result.now) in
    let named : None ≡ cond (test kind) (Some kind) None = rw (c.in_default.is, c.kind.ensures) at c.unnamed_kind.ensures in
    let none : None ≡ left test c.split_at.result.0.now = sym (ap (option_map (λ k. k.0)) c.in_default-first_among.is) ∙ c.first_among.ensures in
    let either : option_map (λ k. k.0) c.or.result ≡ option_or (left test c.split_at.result.1.now) later = mapped_or (λ k. k.0) c.or.result c.first_among-in_default-split_first.result c.loop-kind.later _ c.or.ensures c.first_among-in_default-split_first.ensures in
    either
    ∙ in_rest test kind es c.split_at.result.0.now c.split_at.result.1.now later parts named none
    ∙ ap (λ ts. option_or (find test (kind ∷ forest_kinds (forest ts))) later) c.children-children.ensures
    ∙ c.loop-kind.invariant.whole

pub first_unnamed-first_among-requires-in-loop-kind : goal.first_unnamed-first_among-requires-in-loop-kind
first_unnamed-first_among-requires-in-loop-kind t c =
    let parts = sym (ap₂ (λ xs ys. xs ++ ys) c.split_at.ensures.front c.split_at.ensures.back ∙ take-append-drop c.unwrap_or-heaviest.result c.children-children.result.now) in
    let sizes = parts_size c.loop-kind.current.now c.children-children.result.now c.split_at.result.0.now c.split_at.result.1.now c.children-children.ensures parts in
    let first = ap (λ xs. forest_size (forest (element_trees xs))) c.in-Some-Node-default.ensures.cases.0 in
    (omega (arith, sizes, first, c.loop-kind.invariant.within), tt)

pub first_unnamed-loop-kind-smaller : goal.first_unnamed-loop-kind-smaller
first_unnamed-loop-kind-smaller t c =
    let parts = sym (ap₂ (λ xs ys. xs ++ ys) c.split_at.ensures.front c.split_at.ensures.back ∙ take-append-drop c.unwrap_or-heaviest.result c.children-children.result.now) in
    let sizes = parts_size c.loop-kind.current.now c.children-children.result.now c.split_at.result.0.now c.split_at.result.1.now c.children-children.ensures parts in
    let first = ap (λ xs. forest_size (forest (element_trees xs))) c.in-Some-Node-default.ensures.cases.0 in
    let own = ap (λ e. size (element_tree e)) c.in-Some-Node-default.field-0-0-is in
    omega (arith, sizes, first, own)

pub first_unnamed-loop-kind-preserved : goal.first_unnamed-loop-kind-preserved
first_unnamed-loop-kind-preserved t c =
    let test : ℕ → Bool = λ k. is_none (name_in c.args.names.now k) in
    let es = c.children-children.result.now in
    let kind = c.loop-kind.current.now.kind in
    let later = option_map (λ k. k.0) c.loop-kind.later in
    let parts = sym (ap₂ (λ xs ys. xs ++ ys) c.split_at.ensures.front c.split_at.ensures.back ∙ take-append-drop c.unwrap_or-heaviest.result c.children-children.result.now) in
    let sizes = parts_size c.loop-kind.current.now es c.split_at.result.0.now c.split_at.result.1.now c.children-children.ensures parts in
    let named : None ≡ cond (test kind) (Some kind) None = rw (c.in_default.is, c.kind.ensures) at c.unnamed_kind.ensures in
    let none : None ≡ left test c.split_at.result.0.now = sym (ap (option_map (λ k. k.0)) c.in_default-first_among.is) ∙ c.first_among.ensures in
    let child = c.in-Some-Node-default.field-0-0.now in
    let after = c.in-Some-Node-default.after.now in
    let split = c.in-Some-Node-default.ensures.cases.0 in
    let first = ap (λ xs. forest_size (forest (element_trees xs))) split in
    let own = ap (λ e. size (element_tree e)) c.in-Some-Node-default.field-0-0-is in
    let either : option_map (λ k. k.0) c.or-later.result ≡ option_or (left test after) later = mapped_or (λ k. k.0) c.or-later.result c.first_among-in-loop-kind.result c.loop-kind.later _ c.or-later.ensures c.first_among-in-loop-kind.ensures in
    record {
      whole =
          ap₂ (λ e o. option_or (find test (kinds (element_tree e))) o) (sym c.in-Some-Node-default.field-0-0-is) either
          ∙ into_rest test kind es c.split_at.result.0.now c.split_at.result.1.now later parts child after named none split
          ∙ ap (λ ts. option_or (find test (kind ∷ forest_kinds (forest ts))) later) c.children-children.ensures
          ∙ c.loop-kind.invariant.whole;
      within = omega (arith, sizes, first, own, c.loop-kind.invariant.within);
    }
