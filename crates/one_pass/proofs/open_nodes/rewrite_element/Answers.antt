use Rattle.std.specs.Prelude.{ℕ, List, [], ◌∷◌, ◌++◌, false, ◌≡◌, map}
use Rattle.std.specs.List.{list_any}
use Rattle.std.specs.List.Sorted.{IsPermutation, IsStableBy}
use Rattle.std.specs.Ordering.{is_lt}
use Rattle.std.proofs.lemmas.List.Sorted.{answers_always}
use Rattle.std.proofs.Common.{refl, rules, arith, ap, ap₂, sym, subst, ◌∙◌}
use Rattle.green_tree.specs.Path.{Path}
use Rattle.green_tree.specs.Tree.{Tree, SyntaxTree, Forest, Token, Node}
use Rattle.green_tree.specs.GreenElement.{element_tree}
use Rattle.green_tree.specs.Green.{branch_tree}
use Rattle.green_tree.specs.Count.{counted}
use Rattle.edit_change.specs.Effort.{parents_of}
use Rattle.edit_change.specs.Rewriting.{NumberedAim, rewritten}
use Rattle.edit_change.specs.inner.Aimed.{aims_of, some_path, has_parent}
use Rattle.edit_change.specs.declared.aimed.Aimed.{Aimed}
use Rattle.edit_change.specs.inner.KindOnly.{kind_only}
use Rattle.edit_change.proofs.AlteredNodes.{on_ok, on_ok-map, if_ok-map, some-parents}
use Rattle.edit_change.proofs.Untouched.{nothing_rewritten, unaimed}
use Rattle.one_pass.specs.inner.Built.{built, nodes_built}
use Rattle.one_pass.specs.inner.Marked.{marked, mark_below, marks_of, marks_seen, wanted}
use Rattle.one_pass.specs.inner.Pass.{given_in, green_rewritten}
use Rattle.one_pass.specs.inner.Sweep.{AreOrdered, IsReordered}
use Rattle.one_pass.proofs.Counted.{counts-at_most}
use Rattle.one_pass.proofs.TouchedNodes.{on_ok-touched}
use Rattle.one_pass.proofs.MarksInOrder.{kept-found}
use Rattle.one_pass.proofs.OpenedNode.{opened-order, whole-opened, built-opened, marks-opened, from-top, ordered-top}
use Rattle.one_pass.proofs.Ascending.{less_by, keys-ordered}
use Rattle.one_pass.proofs.Reordered.{site_at, are-ordered, are-reordered, any-moved, rewritten-reordered, built-reordered}
use Rattle.one_pass.proofs.open_nodes.rewrite_element.Goals as goal

-- ---- nothing is built
no-parents : (cs : List NumberedAim) (k : ℕ) (f : Forest ℕ) → nodes_built cs (Node k f) ≡ 0 → list_any has_parent cs ≡ false
no-parents cs k f h = sym (some-parents cs) ∙ go (parents_of cs) h
  where
    go : (ps : List Path) → built cs [] (Node k f) ps ≡ 0 → some_path ps ≡ false
    go [] none = refl
    go (p ∷ ps) none = absurd (omega (arith, none))

same-tree : (given : ℕ → List SyntaxTree) (xs : List Aimed) (t : SyntaxTree) → nodes_built (aims_of xs) t ≡ 0 → t ≡ rewritten kind_only given (aims_of xs) [] t
same-tree given xs (Token k s) h = refl
same-tree given xs (Node k f) h = sym (nothing_rewritten given xs (Node k f) (no-parents (aims_of xs) k f h))

same-labels : {L : Type 0} (label_at : Path → ℕ → L) (trees : ℕ → List (Tree L)) (xs : List Aimed) (t : SyntaxTree) → nodes_built (aims_of xs) t ≡ 0 → rewritten label_at (λ c. []) [] [] t ≡ rewritten label_at trees (aims_of xs) [] t
same-labels label_at trees xs (Token k s) h = refl
same-labels label_at trees xs (Node k f) h = sym (unaimed label_at trees xs (no-parents (aims_of xs) k f h) [] (Node k f))

pub returns-in_default-clause-path : goal.returns-in_default-clause-path
returns-in_default-clause-path c = on_ok c.share.result refl

pub returns-in_default-clause-tree : goal.returns-in_default-clause-tree
returns-in_default-clause-tree c =
    let own = element_tree c.args.element.now in
    if_ok-map _ _ c.share.result (λ e is. ap element_tree is ∙ same-tree (given_in c.args.given.now) c.args.aims.now own c.in_default.ensures.none) c.share.ensures

pub returns-in_default-clause-count : goal.returns-in_default-clause-count
returns-in_default-clause-count c =
    let none : nodes_built (aims_of c.args.aims.now) (element_tree c.args.element.now) ≡ 0 = c.in_default.ensures.none in
    on_ok c.share.result (omega (arith, none))

pub returns-in_default-clause-builds : goal.returns-in_default-clause-builds
returns-in_default-clause-builds c =
    on_ok-map c.share.result (counts-at_most c.args.aims.now c.args.element.now c.args.walk.now.builds c.args.walk.now.builds) (returns-in_default-clause-count c)

pub returns-in_default-clause-whole : goal.returns-in_default-clause-whole
returns-in_default-clause-whole c =
    on_ok-touched c.share.result c.args.aims.now c.args.element.now c.args.walk.now.builds c.args.walk.now.builds (returns-in_default-clause-count c)

pub returns-in_default-clause-marks : goal.returns-in_default-clause-marks
returns-in_default-clause-marks c =
    let found = marks_of c.args.walk.now.found.items in
    let own = element_tree c.args.element.now in
    let ms = marks_seen 0 c.args.sought.now in
    on_ok c.share.result (λ trees are. c.in_ok-push_kept.ensures ∙ ap₂ (λ p ns. found ++ map (mark_below p) ns) c.deref.ensures.value (sym (kept-found own ms c.requires)) ∙ ap (λ u. found ++ map (mark_below c.args.walk.now.path.items) (marked u)) (same-labels (wanted ms) trees c.args.aims.now own c.in_default.ensures.none))

-- ---- the aims, sorted
sorted-same : (xs ys zs all : List Aimed) → ys ≡ xs → all ≡ zs → IsPermutation ys zs → IsStableBy (less_by site_at) ys zs → IsReordered (aims_of xs) (aims_of all)
sorted-same xs ys zs all copied is each_once stable =
    subst (λ us. IsReordered (aims_of xs) (aims_of us)) (sym is) (subst (λ us. IsReordered (aims_of us) (aims_of zs)) copied (are-reordered ys zs each_once stable))

-- ---- a node is opened, with the aims in order
pub rewrite_open-requires : goal.rewrite_open-requires
rewrite_open-requires c =
    opened-order c.in-Some.node.now 0 c.deref-2.result.now (marks_seen 0 c.args.sought.now) c.args.walk.now c.open_node.new.walk c.in_ok-top.top c.in_ok-top.ensures.opened (ordered-top c.deref-2.result.now (subst AreOrdered (sym c.deref-2.ensures.value) (are-ordered c.sort_by.new.self.items (c.in_ok-sort_by.ensures.sorted (less_by site_at) (keys-ordered site_at) (answers_always _ _ _ (λ f a r f' k. let told : is_lt r ≡ less_by site_at a.0.now a.1.0.now = search rules in told))))))

pub returns-clause-path : goal.returns-clause-path
returns-clause-path c = on_ok-map c.rewrite_open.result (λ h. h ∙ c.in_ok-top.ensures.path) c.rewrite_open.ensures.path

pub returns-clause-tree : goal.returns-clause-tree
returns-clause-tree c =
    let table = c.args.given.now in
    let sorted = c.deref-2.result.now in
    let b = c.in-Some.node.now in
    let stable = c.in_ok-sort_by.ensures.stable (less_by site_at) (keys-ordered site_at) (answers_always _ _ _ (λ f a r f' k. let told : is_lt r ≡ less_by site_at a.0.now a.1.0.now = search rules in told)) in
    let same = sorted-same c.args.aims.now c.in_ok-sorted.sorted.items c.sort_by.new.self.items c.deref-2.result.now c.in_ok-sorted.ensures.items c.deref-2.ensures.value c.in_ok-sort_by.ensures.permutation stable in
    let whole = whole-opened b 0 sorted (marks_seen 0 c.args.sought.now) c.args.walk.now c.open_node.new.walk c.in_ok-top.top c.in_ok-top.ensures.opened table in
    let own = whole ∙ ap (λ cs. rewritten kind_only (given_in table) cs [] (branch_tree b)) (from-top sorted) ∙ rewritten-reordered (aims_of c.args.aims.now) (aims_of sorted) same kind_only (given_in table) [] (branch_tree b) ∙ ap (rewritten kind_only (given_in table) (aims_of c.args.aims.now) []) c.in-Some.ensures.tree in
    if_ok-map _ (λ e. element_tree e ≡ green_rewritten table c.args.aims.now c.args.element.now) c.rewrite_open.result (λ e is. is ∙ own) c.rewrite_open.ensures.tree

pub returns-clause-count : goal.returns-clause-count
returns-clause-count c =
    let cs = aims_of c.args.aims.now in
    let sorted = c.deref-2.result.now in
    let b = c.in-Some.node.now in
    let stable = c.in_ok-sort_by.ensures.stable (less_by site_at) (keys-ordered site_at) (answers_always _ _ _ (λ f a r f' k. let told : is_lt r ≡ less_by site_at a.0.now a.1.0.now = search rules in told)) in
    let same = sorted-same c.args.aims.now c.in_ok-sorted.sorted.items c.sort_by.new.self.items c.deref-2.result.now c.in_ok-sorted.ensures.items c.deref-2.ensures.value c.in_ok-sort_by.ensures.permutation stable in
    let built = built-opened b 0 sorted (marks_seen 0 c.args.sought.now) c.args.walk.now c.open_node.new.walk c.in_ok-top.top c.in_ok-top.ensures.opened (ap (list_any has_parent) (from-top sorted) ∙ any-moved has_parent cs (aims_of sorted) same.each_once ∙ c.in-Some.ensures.aimed) in
    let own = built ∙ ap (λ ds. nodes_built ds (branch_tree b)) (from-top sorted) ∙ built-reordered cs (aims_of sorted) same (branch_tree b) ∙ ap (nodes_built cs) c.in-Some.ensures.tree in
    on_ok-map c.rewrite_open.result (λ h. h ∙ ap₂ counted c.in_ok-top.ensures.count own) c.rewrite_open.ensures.count

pub returns-clause-builds : goal.returns-clause-builds
returns-clause-builds c =
    on_ok-map c.rewrite_open.result (counts-at_most c.args.aims.now c.args.element.now c.args.walk.now.builds c.rewrite_open.new.walk.builds) (returns-clause-count c)

pub returns-clause-whole : goal.returns-clause-whole
returns-clause-whole c =
    on_ok-touched c.rewrite_open.result c.args.aims.now c.args.element.now c.args.walk.now.builds c.rewrite_open.new.walk.builds (returns-clause-count c)

pub returns-clause-marks : goal.returns-clause-marks
returns-clause-marks c =
    let sought = marks_seen 0 c.args.sought.now in
    let before = marks_of c.args.walk.now.found.items in
    let sorted = c.deref-2.result.now in
    let b = c.in-Some.node.now in
    let cs = aims_of c.args.aims.now in
    let stable = c.in_ok-sort_by.ensures.stable (less_by site_at) (keys-ordered site_at) (answers_always _ _ _ (λ f a r f' k. let told : is_lt r ≡ less_by site_at a.0.now a.1.0.now = search rules in told)) in
    let same = sorted-same c.args.aims.now c.in_ok-sorted.sorted.items c.sort_by.new.self.items c.deref-2.result.now c.in_ok-sorted.ensures.items c.deref-2.ensures.value c.in_ok-sort_by.ensures.permutation stable in
    on_ok-map c.rewrite_open.result (λ h trees are. h trees are ∙ marks-opened b 0 sorted sought c.args.walk.now c.open_node.new.walk c.in_ok-top.top c.in_ok-top.ensures.opened trees ∙ ap₂ (λ p ds. before ++ map (mark_below p) (marked (rewritten (wanted sought) trees ds [] (branch_tree b)))) c.in_ok-top.ensures.path (from-top sorted) ∙ ap (λ t. before ++ map (mark_below c.args.walk.now.path.items) (marked t)) (rewritten-reordered cs (aims_of sorted) same (wanted sought) trees [] (branch_tree b) ∙ ap (rewritten (wanted sought) trees cs []) c.in-Some.ensures.tree)) c.rewrite_open.ensures.marks
