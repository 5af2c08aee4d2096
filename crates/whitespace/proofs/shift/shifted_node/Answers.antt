use Rattle.std.specs.Prelude.{◌≡◌, ◌≤◌, ◌<◌, [], length, Option, Some, None, MatchOption, IsSomeAnd, option_map, unwrap_or}
use Rattle.std.proofs.Common.{ap, sym, ◌∙◌, subst, arith, rules}
use Rattle.std.proofs.lemmas.List.{length-map, nil_from_length}
use Rattle.cst_core.specs.Tree.{text_length}
use Rattle.cst_core.specs.Green.{Branch, branch_tree, leaf_tree}
use Rattle.cst_core.specs.GreenElement.{element_tree}
use Rattle.green_tree.specs.declared.green.GreenElement.{GreenElement}
use Rattle.whitespace.specs.inner.Shift.{shifted, ShiftRefuses}
use Rattle.whitespace.proofs.Shifted.{child_le, refused_above}
use Rattle.whitespace.proofs.OpenNodes.{AreOpen, child_here, so_far_opened, so_far_more, so_far_whole, opened, innermost, not_longer, work, work_opened, work_more}
use Rattle.whitespace.proofs.shift.shifted_node.Goals as goal

-- nodes as elements
mapped_nodes : (new : Option Branch) (r : Option GreenElement) (P : Branch → GreenElement → Type 0) → ((x : Branch) (e : GreenElement) → P x e → element_tree e ≡ branch_tree x)
    → MatchOption new (r ≡ None) (λ x. IsSomeAnd r (P x)) → option_map element_tree r ≡ option_map branch_tree new
mapped_nodes None r P same are = ap (option_map element_tree) are
mapped_nodes (Some x) None P same are = absurd are
mapped_nodes (Some x) (Some e) P same are = ap Some (same x e are)

pub loop-below-smaller-in-Some-Node : goal.loop-below-smaller-in-Some-Node
loop-below-smaller-in-Some-Node c =
    let open_node = c.loop-below.open in
    let above = c.loop-below.above.items in
    let found = c.in-Some-Node.ensures.lookup in
    let child = child_here open_node c.children.result.now c.in-Some-Node.field-0.now _ c.children.ensures found.3.0 found.1 c.in-Some-Node.field-0-is in
    subst (λ os. work os c.new-open-in-Some-Node.result < work above open_node) (sym c.in_ok-push-in-Some-Node.ensures.items)
    (work_opened above open_node c.new-open-in-Some-Node.result c.in-Some-Node.below child c.new-open-in-Some-Node.ensures)

pub loop-below-preserved-in-Some-Node : goal.loop-below-preserved-in-Some-Node
loop-below-preserved-in-Some-Node c =
    let shift = c.args.shift in
    let top = c.args.node.now in
    let open_node = c.loop-below.open in
    let below = c.in-Some-Node.below in
    let found = c.in-Some-Node.ensures.lookup in
    let child = child_here open_node c.children.result.now c.in-Some-Node.field-0.now _ c.children.ensures found.3.0 found.1 c.in-Some-Node.field-0-is in
    record {
      nodes =
          subst (λ b. AreOpen shift top c.push.new.self.items b) (sym c.new-open-in-Some-Node.ensures.node)
          (subst (λ os. AreOpen shift top os below) (sym c.in_ok-push-in-Some-Node.ensures.items)
          (opened shift top c.loop-below.above.items open_node below c.loop-below.invariant.nodes c.loop-below.invariant.so_far child));
      so_far = so_far_opened shift c.new-open-in-Some-Node.result below c.new-open-in-Some-Node.ensures;
    }

pub returns-in_err-shifted_token-in-Some-Token-clause-refused : goal.returns-in_err-shifted_token-in-Some-Token-clause-refused
returns-in_err-shifted_token-in-Some-Token-clause-refused c =
    let shift = c.args.shift in
    let top = c.args.node.now in
    let open_node = c.loop-below.open in
    let token = leaf_tree c.in-Some-Token.token in
    let found = c.in-Some-Token.ensures.lookup in
    let child = child_here open_node c.children.result.now c.in-Some-Token.field-0.now _ c.children.ensures found.3.0 found.1 c.in-Some-Token.field-0-is in
    let here : text_length (shifted shift token) ≤ text_length (shifted shift (branch_tree open_node.node.now)) = child_le shift open_node.node.now.kind open_node.node.now.children open_node.slot token child.0 child.1 in
    let le : text_length (shifted shift token) ≤ text_length (shifted shift (branch_tree top)) = omega (arith, here, not_longer shift top c.loop-below.above.items open_node.node.now c.loop-below.invariant.nodes) in
    let error = c.in_err-shifted_token-in-Some-Token.field-0.0 in
    let up : ShiftRefuses (text_length (shifted shift (branch_tree top))) error = refused_above error _ _ le c.in_err-shifted_token-in-Some-Token.ensures.refused in
    search (rules, up)

pub loop-below-smaller-in_ok-advance-in-Some-Token : goal.loop-below-smaller-in_ok-advance-in-Some-Token
loop-below-smaller-in_ok-advance-in-Some-Token c =
    let open_node = c.loop-below.open in
    let token = leaf_tree c.in-Some-Token.token in
    let found = c.in-Some-Token.ensures.lookup in
    let child = child_here open_node c.children.result.now c.in-Some-Token.field-0.now _ c.children.ensures found.3.0 found.1 c.in-Some-Token.field-0-is in
    work_more c.loop-below.above.items open_node c.advance.new.self token _ child (omega arith) c.in_ok-advance-in-Some-Token.ensures

pub loop-below-preserved-in_ok-advance-in-Some-Token : goal.loop-below-preserved-in_ok-advance-in-Some-Token
loop-below-preserved-in_ok-advance-in-Some-Token c =
    let shift = c.args.shift in
    let open_node = c.loop-below.open in
    let token = leaf_tree c.in-Some-Token.token in
    let found = c.in-Some-Token.ensures.lookup in
    let child = child_here open_node c.children.result.now c.in-Some-Token.field-0.now _ c.children.ensures found.3.0 found.1 c.in-Some-Token.field-0-is in
    let more = c.in_ok-advance-in-Some-Token.ensures in
    record {
      nodes = subst (λ b. AreOpen shift c.args.node.now c.loop-below.above.items b) (sym more.node) c.loop-below.invariant.nodes;
      so_far = so_far_more shift open_node c.advance.new.self token _ child c.in_ok-shifted_token-in-Some-Token.ensures.ok c.loop-below.invariant.so_far more;
    }

pub returns-in_default-clause-ok : goal.returns-in_default-clause-ok
returns-in_default-clause-ok c =
    let shift = c.args.shift in
    let top = c.args.node.now in
    let open_node = c.loop-below.open in
    let empty : length c.loop-below.above.items ≡ 0 = omega (arith, c.in_default.ensures.cases, c.loop-below.above.ok.0) in
    let none : c.loop-below.above.items ≡ [] = nil_from_length _ empty in
    let is_top : top ≡ open_node.node.now = subst (λ os. AreOpen shift top os open_node.node.now) none c.loop-below.invariant.nodes in
    let long : length c.children.result.now ≡ length open_node.node.now.children = sym (length-map c.children.result.now element_tree) ∙ ap length c.children.ensures in
    let all : length open_node.node.now.children ≤ open_node.slot = omega (arith, long, c.in-None.ensures.lookup.3) in
    let whole = so_far_whole shift open_node (option_map branch_tree c.in_ok-new-in-None.new) all c.loop-below.invariant.so_far c.in_ok-new-in-None.ensures in
    c.in_ok-changed_or_shared-in-None.ensures
    ∙ subst (λ b. unwrap_or (option_map branch_tree c.in_ok-new-in-None.new) (branch_tree b) ≡ shifted shift (branch_tree b)) (sym is_top) whole

pub advance-requires-in-None : goal.advance-requires-in-None
advance-requires-in-None c =
    let shift = c.args.shift in
    let top = c.args.node.now in
    let parent = c.in-Some.parent in
    let b = c.loop-below.open.node.now in
    let inner = innermost shift top c.pop.new.self.items parent b (subst (λ os. AreOpen shift top os b) c.in-Some.ensures.items c.loop-below.invariant.nodes) in
    record { below = inner.child.0; short = omega (arith, inner.so_far.short, length-map parent.built.items element_tree) }

pub loop-below-preserved : goal.loop-below-preserved
loop-below-preserved c =
    let shift = c.args.shift in
    let top = c.args.node.now in
    let open_node = c.loop-below.open in
    let parent = c.in-Some.parent in
    let b = open_node.node.now in
    let above = c.pop.new.self.items in
    let inner = innermost shift top above parent b (subst (λ os. AreOpen shift top os b) c.in-Some.ensures.items c.loop-below.invariant.nodes) in
    let long : length c.children.result.now ≡ length b.children = sym (length-map c.children.result.now element_tree) ∙ ap length c.children.ensures in
    let all : length b.children ≤ open_node.slot = omega (arith, long, c.in-None.ensures.lookup.3) in
    let whole = so_far_whole shift open_node (option_map branch_tree c.in_ok-new-in-None.new) all c.loop-below.invariant.so_far c.in_ok-new-in-None.ensures in
    let mapped : option_map element_tree c.map.result ≡ option_map branch_tree c.in_ok-new-in-None.new = mapped_nodes c.in_ok-new-in-None.new c.map.result _ (λ x e p. ap element_tree p) c.map.ensures.cases in
    let more = c.in_ok-advance-in-None.ensures in
    record {
      nodes = subst (λ a. AreOpen shift top above a) (sym more.node) inner.above;
      so_far = so_far_more shift parent c.advance-in-None.new.self (branch_tree b) c.map.result inner.child (ap (λ o. unwrap_or o (branch_tree b)) mapped ∙ whole) inner.so_far more;
    }
