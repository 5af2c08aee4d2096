-- Open nodes, one inside another: the highest first.
--     IsChild, child_here            a tree is the child at the slot; an element of the list in code is
--     begun_changed                  the new children after one that changes
--     IsSoFar                        the children before the slot are done
--     so_far_opened, so_far_more     it is so of a node that is opened; with one child more that is done
--     so_far_whole                   with all children done, the whole node is
--     AreOpen                        these nodes are open from this node down to that one, each at the slot of the next
--     opened                         one node more is open
--     Innermost, innermost           the last of these
--     not_longer                     the text of a node below is not longer
--     work, work_opened, work_more   a measure falls where a node is opened, a child done, a node closed
use Rattle.std.specs.Prelude.{◌≡◌, ℕ, ◌+◌, ◌*◌, ◌<◌, ◌≤◌, List, [], ◌∷◌, ◌++◌, length, take, drop, map, Option, Some, None, option_map, unwrap_or, sum_by, refl}
use Rattle.std.proofs.Common.{ap, sym, ◌∙◌, subst, arith, get_or, add-one, drop-cons}
use Rattle.std.proofs.lemmas.List.{length-append, length-map, take-map, take_all}
use Rattle.std.proofs.lemmas.List.Sums.{sum_by_push}
use Rattle.cst_core.specs.Tree.{SyntaxTree, node, forest, text_length}
use Rattle.cst_core.specs.Green.{Branch, branch_tree}
use Rattle.cst_core.specs.GreenElement.{element_tree, element_trees}
use Rattle.green_tree.specs.declared.green.GreenElement.{GreenElement}
use Rattle.green_tree.specs.inner.TreeSize.{size, forest_size}
use Rattle.whitespace.specs.inner.Shift.{shifted, with_changed}
use Rattle.whitespace.specs.inner.OpenNodes.{IsOpened, IsAdvanced, IsClosed, begun}
use Rattle.whitespace.specs.declared.shift.OpenNode.{OpenNode}
use Rattle.whitespace.specs.declared.shift.Shift.{Shift}
use Rattle.whitespace.proofs.Shifted.{Built, built_none, built_kept, built_changed, node_is, child_le, tree_at}

-- the child at the slot
abbrev pub IsChild : OpenNode → SyntaxTree → Type 0
IsChild o t = (o.slot < length o.node.now.children) × (t ≡ get_or o.node.now.children o.slot t)

pub child_here : (o : OpenNode) (es : List GreenElement) (e f : GreenElement) → element_trees es ≡ o.node.now.children → o.slot < length es → e ≡ get_or es o.slot e → e ≡ f → IsChild o (element_tree f)
child_here o es e f same below is form =
    let long : length es ≡ length o.node.now.children = sym (length-map es element_tree) ∙ ap length same in
    let here : element_tree e ≡ get_or o.node.now.children o.slot (element_tree e) = tree_at element_tree es o.slot e below is ∙ ap (λ ts. get_or ts o.slot (element_tree e)) same in
    (omega arith, subst (λ x. element_tree x ≡ get_or o.node.now.children o.slot (element_tree x)) form here)

-- the new children after one that changes, as code holds them
pub begun_changed : (o : OpenNode) (es : List GreenElement) (e : GreenElement) (built : List SyntaxTree) → element_trees es ≡ o.node.now.children
    → built ≡ with_changed element_tree o.built.items (take o.slot es) e → built ≡ begun o (Some e)
begun_changed o es e built same is =
    let before : element_trees (take o.slot es) ≡ take o.slot o.node.now.children = sym (take-map element_tree o.slot es) ∙ ap (take o.slot) same in
    is ∙ ap (λ ts. element_trees o.built.items ++ drop (length o.built.items) ts ++ element_tree e ∷ []) before

module _ (shift : Shift) where
  abbrev pub IsSoFar : OpenNode → Type 0
  IsSoFar o = Built shift o.node.now.children (element_trees o.built.items) o.slot

  pub so_far_opened : (o : OpenNode) (b : Branch) → IsOpened o b → IsSoFar o
  so_far_opened o b is =
      subst (λ n. Built shift o.node.now.children (element_trees o.built.items) n) (sym is.first)
      (subst (λ es. Built shift o.node.now.children (element_trees es) 0) (sym is.none) (built_none shift o.node.now.children))

  -- a child that is done
  pub so_far_more : (o after : OpenNode) (t : SyntaxTree) (new : Option GreenElement) → IsChild o t
      → unwrap_or (option_map element_tree new) t ≡ shifted shift t → IsSoFar o → IsAdvanced o new after → IsSoFar after
  so_far_more o after t new child done so_far more =
      subst (λ ts. Built shift ts (element_trees after.built.items) after.slot) (sym (ap (λ b. b.children) more.node))
      (subst (λ n. Built shift o.node.now.children (element_trees after.built.items) n) (sym more.next)
      (subst (λ us. Built shift o.node.now.children us (o.slot + 1)) (sym more.built) (next new done)))
    where
      next : (new : Option GreenElement) → unwrap_or (option_map element_tree new) t ≡ shifted shift t → Built shift o.node.now.children (begun o new) (o.slot + 1)
      next None stays = built_kept shift o.node.now.children (element_trees o.built.items) o.slot t child.0 child.1 so_far stays
      next (Some e) changed =
          built_changed shift o.node.now.children (element_trees o.built.items) o.slot t child.0 child.1 so_far (element_tree e) (begun o (Some e)) changed
          (ap (λ n. element_trees o.built.items ++ drop n (take o.slot o.node.now.children) ++ element_tree e ∷ []) (sym (length-map o.built.items element_tree)))

  pub so_far_whole : (o : OpenNode) (new : Option SyntaxTree) → length o.node.now.children ≤ o.slot → IsSoFar o → IsClosed o new → unwrap_or new (branch_tree o.node.now) ≡ shifted shift (branch_tree o.node.now)
  so_far_whole o new all so_far is =
      let ts = o.node.now.children in
      let us = element_trees o.built.items in
      let made : us ++ drop (length us) ts ≡ map (shifted shift) ts = subst (λ xs. us ++ drop (length us) xs ≡ map (shifted shift) xs) (take_all o.slot ts all) so_far.made in
      is
      ∙ ap (λ n. node o.node.now.kind (us ++ drop n ts)) (sym (length-map o.built.items element_tree))
      ∙ ap (node o.node.now.kind) made
      ∙ sym (node_is shift o.node.now.kind ts)

  -- ---- open nodes, one inside another
  abbrev pub AreOpen : Branch → List OpenNode → Branch → Type 0
  AreOpen top [] b = top ≡ b
  AreOpen top (o ∷ os) b = (o.node.now ≡ top) × IsSoFar o × ((next : Branch) × IsChild o (branch_tree next) × AreOpen next os b)

  pub opened : (top : Branch) (os : List OpenNode) (o : OpenNode) (b : Branch) → AreOpen top os o.node.now → IsSoFar o → IsChild o (branch_tree b) → AreOpen top (os ++ o ∷ []) b
  opened top [] o b are so_far child = (sym are, so_far, (b, child, refl))
  opened top (q ∷ os) o b are so_far child = (are.0, are.1, (are.2.0, are.2.1, opened are.2.0 os o b are.2.2 so_far child))

  pub record Innermost (top : Branch) (os : List OpenNode) (o : OpenNode) (b : Branch) : Type 0 where
    pub above : AreOpen top os o.node.now
    pub so_far : IsSoFar o
    pub child : IsChild o (branch_tree b)

  pub innermost : (top : Branch) (os : List OpenNode) (o : OpenNode) (b : Branch) → AreOpen top (os ++ o ∷ []) b → Innermost top os o b
  innermost top [] o b are = record {
    above = sym are.0;
    so_far = are.1;
    child = subst (λ a. IsChild o (branch_tree a)) are.2.2 are.2.1;
  }
  innermost top (q ∷ os) o b are =
      let in_rest = innermost are.2.0 os o b are.2.2 in
      record { above = (are.0, are.1, (are.2.0, are.2.1, in_rest.above)); so_far = in_rest.so_far; child = in_rest.child }

  pub not_longer : (top : Branch) (os : List OpenNode) (b : Branch) → AreOpen top os b → text_length (shifted shift (branch_tree b)) ≤ text_length (shifted shift (branch_tree top))
  not_longer top [] b are = subst (λ a. text_length (shifted shift (branch_tree b)) ≤ text_length (shifted shift (branch_tree a))) (sym are) (omega arith)
  not_longer top (o ∷ os) b are =
      let next = are.2.0 in
      let here : text_length (shifted shift (branch_tree next)) ≤ text_length (shifted shift (branch_tree o.node.now)) = child_le shift o.node.now.kind o.node.now.children o.slot (branch_tree next) are.2.1.0 are.2.1.1 in
      let top_is : text_length (shifted shift (branch_tree o.node.now)) ≡ text_length (shifted shift (branch_tree top)) = ap (λ a. text_length (shifted shift (branch_tree a))) are.0 in
      omega (arith, not_longer next os b are.2.2, here, top_is)

-- ---- a measure
abbrev pub left_size : ℕ → OpenNode → ℕ
left_size n o = forest_size (forest (drop n o.node.now.children))

abbrev pub work : List OpenNode → OpenNode → ℕ
work os o = 2 * (left_size o.slot o + sum_by (λ q. left_size (q.slot + 1) q) os) + length os

size_left : (ts : List SyntaxTree) (i : ℕ) (t : SyntaxTree) → i < length ts → t ≡ get_or ts i t → forest_size (forest (drop i ts)) ≡ size t + forest_size (forest (drop (i + 1) ts))
size_left ts i t below is =
    let at : drop i ts ≡ t ∷ drop (i + 1) ts = rw (add-one, is) (drop-cons ts i t below) in
    ap (λ us. forest_size (forest us)) at

pub work_opened : (os : List OpenNode) (o new : OpenNode) (b : Branch) → IsChild o (branch_tree b) → IsOpened new b → work (os ++ o ∷ []) new < work os o
work_opened os o new b child opens =
    let sum = sum_by_push (λ q. left_size (q.slot + 1) q) os o in
    let more : length (os ++ o ∷ []) ≡ length os + 1 = length-append os (o ∷ []) in
    let fresh : left_size new.slot new ≡ forest_size (forest b.children) = ap (λ n. left_size n new) opens.first ∙ ap (λ a. forest_size (forest a.children)) opens.node in
    omega (arith, sum, more, fresh, size_left o.node.now.children o.slot (branch_tree b) child.0 child.1)

pub work_more : (os : List OpenNode) (o after : OpenNode) (t : SyntaxTree) (new : Option GreenElement) → IsChild o t → 0 < size t → IsAdvanced o new after → work os after < work os o
work_more os o after t new child some more =
    let next : left_size after.slot after ≡ left_size (o.slot + 1) o = ap (λ n. left_size n after) more.next ∙ ap (λ a. forest_size (forest (drop (o.slot + 1) a.children))) more.node in
    omega (arith, next, size_left o.node.now.children o.slot t child.0 child.1, some)
