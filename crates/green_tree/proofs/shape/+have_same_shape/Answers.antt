use Rattle.std.proofs.Common.{◌≡◌, ◌≢◌, ◌<◌, ◌+◌, ◌-◌, ◌≤◌, List, take, refl, sym, ap, subst, ◌∙◌, Bool, false, true, not, eqb, arith, rules, length}
use Rattle.std.specs.Prelude.{ℕ, ◌↔◌, IsTrue}
use Rattle.std.proofs.lemmas.Bool.{false≢true}
use Rattle.std.proofs.lemmas.List.{length-map, length-take}
use Rattle.green_tree.specs.Tree.{SyntaxTree, SameShape, forest}
use Rattle.green_tree.specs.Green.{Branch, branch_tree}
use Rattle.green_tree.specs.GreenElement.{element_tree, element_trees}
use Rattle.green_tree.specs.inner.SameShapes.{SameShapes}
use Rattle.green_tree.specs.inner.TreeSize.{forest_size}
use Rattle.green_tree.specs.declared.green.GreenElement.{GreenElement}
use Rattle.green_tree.proofs.Shapes.{nodes_same, length-SameShapes, kinds_same, children_same, same_before, same_after, same_slot, slot_same, same_by_slot, Alike}
use Rattle.green_tree.proofs.SlotShapes.{nodes_decided, tokens_decided, node_and_token, token_and_node, not_all, on_from, ended}
use Rattle.green_tree.proofs.Sizes.{size_of_part}
use Rattle.green_tree.proofs.Slots.{size_at}
use Rattle.green_tree.proofs.shape.+have_same_shape.Goals as goal
use Rattle.green_tree.proofs.shape.+have_same_shape.Goals.{have_same_shapes-in-Node-Node, have_same_shapes-in-Token-Token, have_same_shapes-in_default, have_same_shapes-in_default-2}

not_true : (b : Bool) → b ≡ false → IsTrue b → ⊥
not_true b h k = cc

is_true : (b : Bool) → b ≡ true → IsTrue b
is_true b h = cc

same_kind : (k j : ℕ) (b : Bool) → b ≡ not (eqb k j) → b ≡ false → k ≡ j
same_kind k j b is equal = grind (arith, is, equal)

other_kind : (k j : ℕ) (b : Bool) → b ≡ not (eqb k j) → b ≡ true → k ≢ j
other_kind k j b is differ = λ same. grind (arith, is, differ, same)

within : (n : ℕ) (es : List GreenElement) (ts : List SyntaxTree) → element_trees es ≡ ts → n < length ts → n < length es
within n es ts is inside = subst (λ k. n < k) (ap length (sym is) ∙ length-map es element_tree) inside

as_long : (n : ℕ) (es : List GreenElement) → n < length es → n ≡ length (take n es)
as_long n es inside = omega (arith, length-take n es, inside)

past : (n k : ℕ) → n < k → n + 1 ≤ k
past n k inside = omega (arith, inside)

at_most : (n : ℕ) → n ≤ n
at_most n = omega arith

before_next : (n : ℕ) → n ≤ n + 1
before_next n = omega arith

whole : (a b : Branch) (es fs : List GreenElement) → element_trees es ≡ a.children → element_trees fs ≡ b.children → a.kind ≡ b.kind → SameShapes (element_trees es) (element_trees fs) ↔ SameShape (branch_tree a) (branch_tree b)
whole a b es fs left right kind = (λ same. nodes_same a b kind (rw (← left, ← right) same), λ same. rw (left, right) (children_same a b same))

pub have_same_shapes-have_same_shape-same-requires : goal.have_same_shapes-have_same_shape-same-requires
have_same_shapes-have_same_shape-same-requires t c =
    let below = size_at c.args.left.now c.loop-i.i c.index-left-i.result c.loop-i-test.true c.index-left-i.is in
    let below_node = rw (c.in-Node-Node.is-0) at below in
    (rw (← c.decreases) (omega (arith, below_node)), tt)

pub have_same_shapes-returns-then-left-right : goal.have_same_shapes-returns-then-left-right
have_same_shapes-returns-then-left-right t c =
    let differ : length (element_trees c.args.left.now) ≢ length (element_trees c.args.right.now) = rw (length-map c.args.left.now element_tree, length-map c.args.right.now element_tree) c.if-left-right.true in
    (λ h. absurd (false≢true h), λ same. absurd (differ (length-SameShapes (element_trees c.args.left.now) (element_trees c.args.right.now) same)))

pub have_same_shape-returns-then-left-right : goal.have_same_shape-returns-then-left-right
have_same_shape-returns-then-left-right t c =
    let differ : length c.loop-x.x.now.children ≢ length c.loop-x.y.now.children = rw (← c.children-left.ensures, ← c.children-right.ensures, length-map c.children-left.result.now element_tree, length-map c.children-right.result.now element_tree) c.if-left-right.true in
    (λ h. absurd (false≢true h), λ same. absurd (differ (length-SameShapes c.loop-x.x.now.children c.loop-x.y.now.children (children_same c.loop-x.x.now c.loop-x.y.now (c.loop-x.invariant.same.1 same)))))

pub have_same_shape-returns-then-ne : goal.have_same_shape-returns-then-ne
have_same_shape-returns-then-ne t c = (λ h. absurd (false≢true h), λ same. absurd (other_kind c.kind.result.0 c.kind-in-loop-x.result.0 c.ne.result c.ne.ensures c.if-ne.true (c.kind.ensures ∙ kinds_same c.loop-x.x.now c.loop-x.y.now (c.loop-x.invariant.same.1 same) ∙ sym c.kind-in-loop-x.ensures)))

pub have_same_shape-returns-then-not-have_same_shapes : goal.have_same_shape-returns-then-not-have_same_shapes
have_same_shape-returns-then-not-have_same_shapes t c = (λ h. absurd (false≢true h), λ same. absurd (not_true c.have_same_shapes-in-loop-x.result c.if-not-have_same_shapes.true (c.have_same_shapes-in-loop-x.ensures.1 (same_before c.in-Some.slot c.children-left.result.now c.children-right.result.now (rw (c.children-left.ensures, c.children-right.ensures) (children_same c.loop-x.x.now c.loop-x.y.now (c.loop-x.invariant.same.1 same)))))))

pub have_same_shape-returns-then-not-have_same_shapes-2 : goal.have_same_shape-returns-then-not-have_same_shapes-2
have_same_shape-returns-then-not-have_same_shapes-2 t c = (λ h. absurd (false≢true h), λ same. absurd (not_true c.have_same_shapes-in-loop-x-2.result c.if-not-have_same_shapes-2.true (c.have_same_shapes-in-loop-x-2.ensures.1 (same_after (c.in-Some.slot + 1) c.children-left.result.now c.children-right.result.now (rw (c.children-left.ensures, c.children-right.ensures) (children_same c.loop-x.x.now c.loop-x.y.now (c.loop-x.invariant.same.1 same)))))))

pub have_same_shape-have_same_shapes-requires-in-loop-x : goal.have_same_shape-have_same_shapes-requires-in-loop-x
have_same_shape-have_same_shapes-requires-in-loop-x t c =
    let part = rw (c.children-left.ensures) at (size_of_part 0 c.in-Some.slot c.children-left.result.now) in
    (rw (← c.decreases) (omega (arith, part, c.loop-x.invariant.size)), tt)

pub have_same_shape-have_same_shapes-requires-in-loop-x-2 : goal.have_same_shape-have_same_shapes-requires-in-loop-x-2
have_same_shape-have_same_shapes-requires-in-loop-x-2 t c =
    let part = rw (c.children-left.ensures) at (size_of_part (c.in-Some.slot + 1) (length c.children-left.result.now - (c.in-Some.slot + 1)) c.children-left.result.now) in
    (rw (← c.decreases) (omega (arith, part, c.loop-x.invariant.size)), tt)

pub have_same_shape-have_same_shapes-requires-in_default-2 : goal.have_same_shape-have_same_shapes-requires-in_default-2
have_same_shape-have_same_shapes-requires-in_default-2 t c =
    let part = rw (c.children-left.ensures) at (size_of_part c.in-Some.slot (c.in-Some.slot + 1 - c.in-Some.slot) c.children-left.result.now) in
    (rw (← c.decreases) (omega (arith, part, c.loop-x.invariant.size)), tt)

pub have_same_shape-loop-x-smaller : goal.have_same_shape-loop-x-smaller
have_same_shape-loop-x-smaller t c =
    let below = size_at c.children-left.result.now c.in-Some.slot c.index-left-slot.result (rw (← length-map c.children-left.result.now element_tree, c.children-left.ensures) c.in-Some.ensures) c.index-left-slot.is in
    let below_node = rw (c.in-Node-Node.is-0, c.children-left.ensures) at below in
    omega (arith, below_node)

pub have_same_shape-returns-in_default-2 : goal.have_same_shape-returns-in_default-2
have_same_shape-returns-in_default-2 t c =
    let alike : Alike c.loop-x.x.now c.loop-x.y.now c.in-Some.slot c.children-left.result.now c.children-right.result.now = record {
      kind = rw (← c.kind.ensures, ← c.kind-in-loop-x.ensures) (same_kind c.kind.result.0 c.kind-in-loop-x.result.0 c.ne.result c.ne.ensures c.if-ne.false);
      left = c.children-left.ensures;
      right = c.children-right.ensures;
      long = c.if-left-right.false;
      inside = rw (← length-map c.children-left.result.now element_tree, c.children-left.ensures) c.in-Some.ensures;
      before = c.have_same_shapes-in-loop-x.ensures.0 (is_true c.have_same_shapes-in-loop-x.result c.if-not-have_same_shapes.false);
      after = c.have_same_shapes-in-loop-x-2.ensures.0 (is_true c.have_same_shapes-in-loop-x-2.result c.if-not-have_same_shapes-2.false);
    } in
    let by_slot = same_by_slot c.loop-x.x.now c.loop-x.y.now c.in-Some.slot c.children-left.result.now c.children-right.result.now alike in
    (λ yes. c.loop-x.invariant.same.0 (by_slot.0 (c.have_same_shapes-in_default-2.ensures.0 yes)), λ same. c.have_same_shapes-in_default-2.ensures.1 (by_slot.1 (c.loop-x.invariant.same.1 same)))

pub have_same_shape-loop-x-preserved : goal.have_same_shape-loop-x-preserved
have_same_shape-loop-x-preserved t c =
    let inside : c.in-Some.slot < length c.children-left.result.now = rw (← length-map c.children-left.result.now element_tree, c.children-left.ensures) c.in-Some.ensures in
    let alike : Alike c.loop-x.x.now c.loop-x.y.now c.in-Some.slot c.children-left.result.now c.children-right.result.now = record {
      kind = rw (← c.kind.ensures, ← c.kind-in-loop-x.ensures) (same_kind c.kind.result.0 c.kind-in-loop-x.result.0 c.ne.result c.ne.ensures c.if-ne.false);
      left = c.children-left.ensures;
      right = c.children-right.ensures;
      long = c.if-left-right.false;
      inside = inside;
      before = c.have_same_shapes-in-loop-x.ensures.0 (is_true c.have_same_shapes-in-loop-x.result c.if-not-have_same_shapes.false);
      after = c.have_same_shapes-in-loop-x-2.ensures.0 (is_true c.have_same_shapes-in-loop-x-2.result c.if-not-have_same_shapes-2.false);
    } in
    let by_slot = same_by_slot c.loop-x.x.now c.loop-x.y.now c.in-Some.slot c.children-left.result.now c.children-right.result.now alike in
    let below = size_at c.children-left.result.now c.in-Some.slot c.index-left-slot.result inside c.index-left-slot.is in
    let below_node = rw (c.in-Node-Node.is-0, c.children-left.ensures) at below in
    let there : SameShape (element_tree c.index-left-slot.result) (element_tree c.index-right-slot.result) ↔ SameShape (branch_tree c.args.a.now) (branch_tree c.args.b.now) = (
      λ here. c.loop-x.invariant.same.0 (by_slot.0 (slot_same c.in-Some.slot c.children-left.result.now c.children-right.result.now c.index-left-slot.result c.index-right-slot.result inside (rw (← c.if-left-right.false) inside) c.index-left-slot.is c.index-right-slot.is here)),
      λ same. same_slot c.in-Some.slot c.children-left.result.now c.children-right.result.now c.index-left-slot.result c.index-right-slot.result inside (rw (← c.if-left-right.false) inside) c.index-left-slot.is c.index-right-slot.is (rw (c.children-left.ensures, c.children-right.ensures) (children_same c.loop-x.x.now c.loop-x.y.now (c.loop-x.invariant.same.1 same))),
    ) in
    record { same = rw (c.in-Node-Node.is-0, c.in-Node-Node.is-1) at there; size = omega (arith, below_node, c.loop-x.invariant.size) }

pub have_same_shape-have_same_shapes-requires : goal.have_same_shape-have_same_shapes-requires
have_same_shape-have_same_shapes-requires t c =
    let part : forest_size (forest (element_trees c.children-left.result.now)) ≡ forest_size (forest c.loop-x.x.now.children) = ap (λ ts. forest_size (forest ts)) c.children-left.ensures in
    (rw (← c.decreases) (omega (arith, part, c.loop-x.invariant.size)), tt)

pub have_same_shape-slice_bounds-have_same_shapes-end : goal.have_same_shape-slice_bounds-have_same_shapes-end
have_same_shape-slice_bounds-have_same_shapes-end t c = as_long c.in-Some.slot c.children-left.result.now (within c.in-Some.slot c.children-left.result.now _ c.children-left.ensures c.in-Some.ensures)

pub have_same_shape-slice_bounds-have_same_shapes-end-in-loop-x : goal.have_same_shape-slice_bounds-have_same_shapes-end-in-loop-x
have_same_shape-slice_bounds-have_same_shapes-end-in-loop-x t c = as_long c.in-Some.slot c.children-right.result.now (subst (λ k. c.in-Some.slot < k) c.if-left-right.false (within c.in-Some.slot c.children-left.result.now _ c.children-left.ensures c.in-Some.ensures))

pub have_same_shape-slice_bounds-have_same_shapes-count : goal.have_same_shape-slice_bounds-have_same_shapes-count
have_same_shape-slice_bounds-have_same_shapes-count t c = past c.in-Some.slot (length c.children-left.result.now) (within c.in-Some.slot c.children-left.result.now _ c.children-left.ensures c.in-Some.ensures)

pub have_same_shape-slice_bounds-have_same_shapes-count-in-loop-x : goal.have_same_shape-slice_bounds-have_same_shapes-count-in-loop-x
have_same_shape-slice_bounds-have_same_shapes-count-in-loop-x t c = past c.in-Some.slot (length c.children-right.result.now) (subst (λ k. c.in-Some.slot < k) c.if-left-right.false (within c.in-Some.slot c.children-left.result.now _ c.children-left.ensures c.in-Some.ensures))

pub have_same_shape-bounds-left-slot : goal.have_same_shape-bounds-left-slot
have_same_shape-bounds-left-slot t c = within c.in-Some.slot c.children-left.result.now _ c.children-left.ensures c.in-Some.ensures

pub have_same_shape-bounds-right-slot : goal.have_same_shape-bounds-right-slot
have_same_shape-bounds-right-slot t c = subst (λ k. c.in-Some.slot < k) c.if-left-right.false (within c.in-Some.slot c.children-left.result.now _ c.children-left.ensures c.in-Some.ensures)

pub have_same_shape-loop-x-init : goal.have_same_shape-loop-x-init
have_same_shape-loop-x-init t c = record { same = (λ h. h, λ h. h); size = omega arith }

pub have_same_shapes-loop-i-init : goal.have_same_shapes-loop-i-init
have_same_shapes-loop-i-init t c = (λ h. h, λ h. h)

pub have_same_shapes-bounds-left-i : goal.have_same_shapes-bounds-left-i
have_same_shapes-bounds-left-i t c = c.loop-i-test.true

pub have_same_shapes-bounds-right-i : goal.have_same_shapes-bounds-right-i
have_same_shapes-bounds-right-i t c = subst (λ k. c.loop-i.i < k) c.if-left-right.false c.loop-i-test.true

pub have_same_shape-slice_bounds-have_same_shapes-start : goal.have_same_shape-slice_bounds-have_same_shapes-start
have_same_shape-slice_bounds-have_same_shapes-start t c = past c.in-Some.slot (length c.children-left.result.now) (within c.in-Some.slot c.children-left.result.now _ c.children-left.ensures c.in-Some.ensures)

pub have_same_shape-returns-in_default : goal.have_same_shape-returns-in_default
have_same_shape-returns-in_default t c =
    let kind : c.loop-x.x.now.kind ≡ c.loop-x.y.now.kind = rw (← c.kind.ensures, ← c.kind-in-loop-x.ensures) (same_kind c.kind.result.0 c.kind-in-loop-x.result.0 c.ne.result c.ne.ensures c.if-ne.false) in
    let alike = whole c.loop-x.x.now c.loop-x.y.now c.children-left.result.now c.children-right.result.now c.children-left.ensures c.children-right.ensures kind in
    (λ yes. c.loop-x.invariant.same.0 (alike.0 (c.have_same_shapes.ensures.0 yes)), λ same. c.have_same_shapes.ensures.1 (alike.1 (c.loop-x.invariant.same.1 same)))

pub have_same_shape-slice_bounds-have_same_shapes-end-in-loop-x-2 : goal.have_same_shape-slice_bounds-have_same_shapes-end-in-loop-x-2
have_same_shape-slice_bounds-have_same_shapes-end-in-loop-x-2 t c = at_most (length c.children-left.result.now)

pub have_same_shape-slice_bounds-have_same_shapes-start-in-loop-x : goal.have_same_shape-slice_bounds-have_same_shapes-start-in-loop-x
have_same_shape-slice_bounds-have_same_shapes-start-in-loop-x t c = past c.in-Some.slot (length c.children-right.result.now) (subst (λ k. c.in-Some.slot < k) c.if-left-right.false (within c.in-Some.slot c.children-left.result.now _ c.children-left.ensures c.in-Some.ensures))

pub have_same_shape-slice_bounds-have_same_shapes-end-in-loop-x-3 : goal.have_same_shape-slice_bounds-have_same_shapes-end-in-loop-x-3
have_same_shape-slice_bounds-have_same_shapes-end-in-loop-x-3 t c = at_most (length c.children-right.result.now)

pub have_same_shape-slice_bounds-have_same_shapes-count-in_default-2 : goal.have_same_shape-slice_bounds-have_same_shapes-count-in_default-2
have_same_shape-slice_bounds-have_same_shapes-count-in_default-2 t c = before_next c.in-Some.slot

pub have_same_shape-slice_bounds-have_same_shapes-start-in_default-2 : goal.have_same_shape-slice_bounds-have_same_shapes-start-in_default-2
have_same_shape-slice_bounds-have_same_shapes-start-in_default-2 t c = before_next c.in-Some.slot

pub have_same_shape-slice_bounds-have_same_shapes-end-in_default-2 : goal.have_same_shape-slice_bounds-have_same_shapes-end-in_default-2
have_same_shape-slice_bounds-have_same_shapes-end-in_default-2 t c = past c.in-Some.slot (length c.children-left.result.now) (within c.in-Some.slot c.children-left.result.now _ c.children-left.ensures c.in-Some.ensures)

pub have_same_shape-slice_bounds-have_same_shapes-count-in_default-2-2 : goal.have_same_shape-slice_bounds-have_same_shapes-count-in_default-2-2
have_same_shape-slice_bounds-have_same_shapes-count-in_default-2-2 t c = before_next c.in-Some.slot

pub have_same_shape-slice_bounds-have_same_shapes-start-in_default-2-2 : goal.have_same_shape-slice_bounds-have_same_shapes-start-in_default-2-2
have_same_shape-slice_bounds-have_same_shapes-start-in_default-2-2 t c = before_next c.in-Some.slot

pub have_same_shape-slice_bounds-have_same_shapes-end-in_default-2-2 : goal.have_same_shape-slice_bounds-have_same_shapes-end-in_default-2-2
have_same_shape-slice_bounds-have_same_shapes-end-in_default-2-2 t c = past c.in-Some.slot (length c.children-right.result.now) (subst (λ k. c.in-Some.slot < k) c.if-left-right.false (within c.in-Some.slot c.children-left.result.now _ c.children-left.ensures c.in-Some.ensures))

pub have_same_shapes-returns : goal.have_same_shapes-returns
have_same_shapes-returns t c = (λ yes. c.loop-i.invariant.0 (ended c.loop-i.i c.args.left.now c.args.right.now (omega (arith, c.loop-i-test.false)) c.if-left-right.false), λ same. refl)

pub have_same_shapes-returns-then-not-same : goal.have_same_shapes-returns-then-not-same
have_same_shapes-returns-then-not-same t c =
    let decided : IsTrue c.match-left-i.same ↔ SameShape (element_tree c.index-left-i.result) (element_tree c.index-right-i.result) = elim c.match-left-i.branch [
      | have_same_shapes-in-Node-Node w ↦ nodes_decided c.index-left-i.result c.index-right-i.result c.match-left-i.same w.in-Node-Node.x w.in-Node-Node.y w.have_same_shape-same.result w.in-Node-Node.is-0 w.in-Node-Node.is-1 w.same-is w.have_same_shape-same.ensures
      | have_same_shapes-in-Token-Token w ↦ tokens_decided c.index-left-i.result c.index-right-i.result c.match-left-i.same w.in-Token-Token.is-0 w.in-Token-Token.is-1 (search rules)
      | have_same_shapes-in_default w ↦ node_and_token c.index-left-i.result c.index-right-i.result c.match-left-i.same w.in_default.field-0-0 w.in_default.field-0-1 w.in_default.is-0 w.in_default.is-1 w.same-is
      | have_same_shapes-in_default-2 w ↦ token_and_node c.index-left-i.result c.index-right-i.result c.match-left-i.same w.in_default.field-0-0 w.in_default.field-0-1 w.in_default.is-0 w.in_default.is-1 w.same-is
    ] in
    not_all c.index-left-i.result c.index-right-i.result c.match-left-i.same c.loop-i.i c.args.left.now c.args.right.now c.loop-i-test.true c.if-left-right.false c.index-left-i.is c.index-right-i.is decided c.if-not-same.true

pub have_same_shapes-loop-i-preserved : goal.have_same_shapes-loop-i-preserved
have_same_shapes-loop-i-preserved t c =
    let decided : IsTrue c.match-left-i.same ↔ SameShape (element_tree c.index-left-i.result) (element_tree c.index-right-i.result) = elim c.match-left-i.branch [
      | have_same_shapes-in-Node-Node w ↦ nodes_decided c.index-left-i.result c.index-right-i.result c.match-left-i.same w.in-Node-Node.x w.in-Node-Node.y w.have_same_shape-same.result w.in-Node-Node.is-0 w.in-Node-Node.is-1 w.same-is w.have_same_shape-same.ensures
      | have_same_shapes-in-Token-Token w ↦ tokens_decided c.index-left-i.result c.index-right-i.result c.match-left-i.same w.in-Token-Token.is-0 w.in-Token-Token.is-1 (search rules)
      | have_same_shapes-in_default w ↦ node_and_token c.index-left-i.result c.index-right-i.result c.match-left-i.same w.in_default.field-0-0 w.in_default.field-0-1 w.in_default.is-0 w.in_default.is-1 w.same-is
      | have_same_shapes-in_default-2 w ↦ token_and_node c.index-left-i.result c.index-right-i.result c.match-left-i.same w.in_default.field-0-0 w.in_default.field-0-1 w.in_default.is-0 w.in_default.is-1 w.same-is
    ] in
    on_from c.index-left-i.result c.index-right-i.result c.match-left-i.same c.loop-i.i c.args.left.now c.args.right.now c.loop-i-test.true c.if-left-right.false c.index-left-i.is c.index-right-i.is decided c.if-not-same.false c.loop-i.invariant

pub have_same_shape-offset_bounds-left-slot : goal.have_same_shape-offset_bounds-left-slot
have_same_shape-offset_bounds-left-slot t c = let inside = within c.in-Some.slot c.children-left.result.now _ c.children-left.ensures c.in-Some.ensures in omega (arith, inside)

pub have_same_shape-offset_bounds-left-next : goal.have_same_shape-offset_bounds-left-next
have_same_shape-offset_bounds-left-next t c = let inside = within c.in-Some.slot c.children-left.result.now _ c.children-left.ensures c.in-Some.ensures in omega (arith, inside)

pub have_same_shape-offset_bounds-right-slot : goal.have_same_shape-offset_bounds-right-slot
have_same_shape-offset_bounds-right-slot t c = let inside = subst (λ k. c.in-Some.slot < k) c.if-left-right.false (within c.in-Some.slot c.children-left.result.now _ c.children-left.ensures c.in-Some.ensures) in omega (arith, inside)

pub have_same_shape-offset_bounds-right-next : goal.have_same_shape-offset_bounds-right-next
have_same_shape-offset_bounds-right-next t c = let inside = subst (λ k. c.in-Some.slot < k) c.if-left-right.false (within c.in-Some.slot c.children-left.result.now _ c.children-left.ensures c.in-Some.ensures) in omega (arith, inside)

pub have_same_shape-overflow_add-next : goal.have_same_shape-overflow_add-next
have_same_shape-overflow_add-next t c = let inside = within c.in-Some.slot c.children-left.result.now _ c.children-left.ensures c.in-Some.ensures in omega (arith, inside)

pub have_same_shape-offset_bounds-left-slot-in_default-2 : goal.have_same_shape-offset_bounds-left-slot-in_default-2
have_same_shape-offset_bounds-left-slot-in_default-2 t c = let inside = within c.in-Some.slot c.children-left.result.now _ c.children-left.ensures c.in-Some.ensures in omega (arith, inside)

pub have_same_shape-offset_bounds-right-slot-in_default-2 : goal.have_same_shape-offset_bounds-right-slot-in_default-2
have_same_shape-offset_bounds-right-slot-in_default-2 t c = let inside = subst (λ k. c.in-Some.slot < k) c.if-left-right.false (within c.in-Some.slot c.children-left.result.now _ c.children-left.ensures c.in-Some.ensures) in omega (arith, inside)

pub have_same_shapes-offset_bounds-left-i : goal.have_same_shapes-offset_bounds-left-i
have_same_shapes-offset_bounds-left-i t c = omega (arith, c.loop-i-test.true)

pub have_same_shapes-offset_bounds-right-i : goal.have_same_shapes-offset_bounds-right-i
have_same_shapes-offset_bounds-right-i t c = omega (arith, c.loop-i-test.true)
