-- How the depth of open nodes changes as nodes are opened, filled and closed.
use Rattle.std.proofs.Common.{◌≡◌, ℕ, ◌+◌, ◌-◌, ◌≤◌, ◌<◌, suc, zero, List, [], ◌∷◌, ◌++◌, length, arith, Option, None, Some, Bool, true, false, if◌then◌else◌, option_to_list, subst, sym, ap, ◌∙◌, append-nil, length-append}
use Rattle.cst_core.specs.Tree.{SyntaxTree, forest}
use Rattle.cst_core.specs.GreenElement.{element_trees}
use Rattle.tree_text.specs.declared.open_node.OpenNode.{OpenNode}
use Rattle.tree_text.specs.Depth.{depth, forest_depth}
use Rattle.tree_text.specs.inner.OpenDepth.{open_depth}

-- how deep the children of an open node are
abbrev pub filled : OpenNode → ℕ
filled n = forest_depth (forest (element_trees n.children.items))

-- the outer nodes alone are no deeper
pub outer_below : (ns : List OpenNode) (n : OpenNode) → open_depth ns ≤ open_depth (ns ++ n ∷ [])
outer_below [] n = omega arith
outer_below (m ∷ ns) n = let step = outer_below ns n in grind arith

-- the innermost node is as deep as it is nested, and its children below it
pub innermost_below : (ns : List OpenNode) (n : OpenNode) → length ns + suc (filled n) ≤ open_depth (ns ++ n ∷ [])
innermost_below [] n = grind arith
innermost_below (m ∷ ns) n = let step = innermost_below ns n in grind arith

-- nothing else makes open nodes deep
pub open_depth_at_most : (ns : List OpenNode) (n : OpenNode) (k : ℕ) → open_depth ns ≤ k → length ns + suc (filled n) ≤ k → open_depth (ns ++ n ∷ []) ≤ k
open_depth_at_most [] n k outer inner = grind arith
open_depth_at_most (m ∷ ns) n zero outer inner = grind arith
open_depth_at_most (m ∷ ns) n (suc k) outer inner = let step = open_depth_at_most ns n k in grind arith

pub forest_depth_at_most : (ts : List SyntaxTree) (t : SyntaxTree) (k : ℕ) → forest_depth (forest ts) ≤ k → depth t ≤ k → forest_depth (forest (ts ++ t ∷ [])) ≤ k
forest_depth_at_most [] t k all one = grind arith
forest_depth_at_most (u ∷ ts) t k all one = let step = forest_depth_at_most ts t k in grind arith

length_more : (old new : List OpenNode) (n : OpenNode) → old ≡ new ++ n ∷ [] → length old ≡ suc (length new)
length_more old new n is = grind (arith, length-append new (n ∷ []), ap length is)

-- closing the innermost node leaves the outer ones as deep as they were
pub popped : (old new : List OpenNode) (n : Option OpenNode) (k : ℕ) → old ≡ new ++ option_to_list n → open_depth old ≤ k → open_depth new ≤ k
popped old new None k is fits = let e : old ≡ new = is ∙ append-nil new in subst (λ ns. open_depth ns ≤ k) e fits
popped old new (Some n) k is fits =
    let fits' : open_depth (new ++ n ∷ []) ≤ k = subst (λ ns. open_depth ns ≤ k) is fits in
    let below = outer_below new n in omega arith

-- a node that is opened, or that goes back to where it stands
pub pushed : (old new : List OpenNode) (n : OpenNode) (b : Bool) (k : ℕ) → new ≡ (if b then old ++ n ∷ [] else old) → open_depth old ≤ k → length old + suc (filled n) ≤ k → open_depth new ≤ k
pushed old new n true k is outer inner = subst (λ ns. open_depth ns ≤ k) (sym is) (open_depth_at_most old n k outer inner)
pushed old new n false k is outer inner = subst (λ ns. open_depth ns ≤ k) (sym is) outer

-- the innermost node with one more child
pub one_more_fits : (old new : List OpenNode) (n m : OpenNode) (t : SyntaxTree) (k : ℕ) → old ≡ new ++ n ∷ [] → element_trees m.children.items ≡ element_trees n.children.items ++ t ∷ [] → open_depth old ≤ k → depth t ≤ k - length old → length new + suc (filled m) ≤ k
one_more_fits old new n m t k is more fits shallow =
    let fits' : open_depth (new ++ n ∷ []) ≤ k = subst (λ ns. open_depth ns ≤ k) is fits in
    let inner : length new + suc (filled n) ≤ k = let below = innermost_below new n in omega arith in
    let len : length old ≡ suc (length new) = length_more old new n is in
    let deep : depth t ≤ k - suc (length new) = subst (λ d. depth t ≤ k - d) len shallow in
    let all : forest_depth (forest (element_trees n.children.items ++ t ∷ [])) ≤ k - suc (length new) =
    forest_depth_at_most (element_trees n.children.items) t (k - suc (length new)) (omega arith) deep in
    let all' : filled m ≤ k - suc (length new) = subst (λ ts. forest_depth (forest ts) ≤ k - suc (length new)) (sym more) all in
    omega arith

-- the innermost node as it is
pub innermost_fits : (old new : List OpenNode) (n : OpenNode) (k : ℕ) → old ≡ new ++ n ∷ [] → open_depth old ≤ k → suc (filled n) + length new ≤ k
innermost_fits old new n k is fits =
    let fits' : open_depth (new ++ n ∷ []) ≤ k = subst (λ ns. open_depth ns ≤ k) is fits in
    let below = innermost_below new n in omega arith

-- a node without children where a parenthesis may be opened
pub opened_fits : (ns : List OpenNode) (n : OpenNode) (k : ℕ) → n.children.items ≡ [] → length ns < k → length ns + suc (filled n) ≤ k
opened_fits ns n k none room =
    let flat : filled n ≡ 0 = ap (λ es. forest_depth (forest (element_trees es))) none in
    omega arith
