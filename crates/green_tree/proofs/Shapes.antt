-- What lists of trees of the same shapes have in common.
use Rattle.std.proofs.Common.{◌≡◌, ◌<◌, ℕ, zero, suc, ◌+◌, ◌-◌, List, [], ◌∷◌, length, get_or, take, drop, refl, ap, arith, add-one}
use Rattle.std.specs.Prelude.{◌↔◌}
use Rattle.std.specs.List.{drop-map}
use Rattle.std.proofs.lemmas.List.{length-drop, length-map, take_all}
use Rattle.green_tree.specs.Tree.{Forest, SyntaxTree, Node, more, node, forest, without_texts, forest_without_texts, SameShape}
use Rattle.green_tree.specs.Green.{Branch, branch_tree}
use Rattle.green_tree.specs.GreenElement.{element_tree, element_trees}
use Rattle.green_tree.specs.declared.green.GreenElement.{GreenElement}
use Rattle.green_tree.specs.inner.SameShapes.{SameShapes}
use Rattle.green_tree.proofs.Splices.{take-trees}

same_first : (t u : SyntaxTree) (f g : Forest ℕ) → more t f ≡ more u g → t ≡ u
same_first t u f g h = cc

same_rest : (t u : SyntaxTree) (f g : Forest ℕ) → more t f ≡ more u g → f ≡ g
same_rest t u f g h = cc

same_both : (t u : SyntaxTree) (f g : Forest ℕ) → t ≡ u → f ≡ g → more t f ≡ more u g
same_both t u f g h k = cc

same_forest : (k j : ℕ) (f g : Forest ℕ) → Node k f ≡ Node j g → f ≡ g
same_forest k j f g h = cc

first_shape : (t u : SyntaxTree) (ts us : List SyntaxTree) → SameShapes (t ∷ ts) (u ∷ us) → SameShape t u
first_shape t u ts us h = same_first (without_texts t) (without_texts u) (forest_without_texts (forest ts)) (forest_without_texts (forest us)) h

pub rest_shapes : (t u : SyntaxTree) (ts us : List SyntaxTree) → SameShapes (t ∷ ts) (u ∷ us) → SameShapes ts us
rest_shapes t u ts us h = same_rest (without_texts t) (without_texts u) (forest_without_texts (forest ts)) (forest_without_texts (forest us)) h

pub both_shapes : (t u : SyntaxTree) (ts us : List SyntaxTree) → SameShape t u → SameShapes ts us → SameShapes (t ∷ ts) (u ∷ us)
both_shapes t u ts us h k = same_both (without_texts t) (without_texts u) (forest_without_texts (forest ts)) (forest_without_texts (forest us)) h k

pub length-SameShapes : (ts us : List SyntaxTree) → SameShapes ts us → length ts ≡ length us
length-SameShapes [] [] h = refl
length-SameShapes [] (u ∷ us) h = absurd (cc)
length-SameShapes (t ∷ ts) [] h = absurd (cc)
length-SameShapes (t ∷ ts) (u ∷ us) h = ap suc (length-SameShapes ts us (rest_shapes t u ts us h))

-- nodes of the same shape have children of the same shapes
shapes_of_children : (k j : ℕ) (ts us : List SyntaxTree) → SameShape (node k ts) (node j us) → SameShapes ts us
shapes_of_children k j ts us h = same_forest k j (forest_without_texts (forest ts)) (forest_without_texts (forest us)) h

pub kinds_same : (a b : Branch) → SameShape (branch_tree a) (branch_tree b) → a.kind ≡ b.kind
kinds_same a b h = cc

pub children_same : (a b : Branch) → SameShape (branch_tree a) (branch_tree b) → SameShapes a.children b.children
children_same a b h = shapes_of_children a.kind b.kind a.children b.children h

pub nodes_same : (a b : Branch) → a.kind ≡ b.kind → SameShapes a.children b.children → SameShape (branch_tree a) (branch_tree b)
nodes_same a b h k = cc

shapes_before : (n : ℕ) (ts us : List SyntaxTree) → SameShapes ts us → SameShapes (take n ts) (take n us)
shapes_before zero ts us h = refl
shapes_before (suc n) [] [] h = refl
shapes_before (suc n) [] (u ∷ us) h = absurd (cc)
shapes_before (suc n) (t ∷ ts) [] h = absurd (cc)
shapes_before (suc n) (t ∷ ts) (u ∷ us) h = both_shapes t u (take n ts) (take n us) (first_shape t u ts us h) (shapes_before n ts us (rest_shapes t u ts us h))

shapes_from : (n : ℕ) (ts us : List SyntaxTree) → SameShapes ts us → SameShapes (drop n ts) (drop n us)
shapes_from zero ts us h = h
shapes_from (suc n) [] [] h = refl
shapes_from (suc n) [] (u ∷ us) h = absurd (cc)
shapes_from (suc n) (t ∷ ts) [] h = absurd (cc)
shapes_from (suc n) (t ∷ ts) (u ∷ us) h = shapes_from n ts us (rest_shapes t u ts us h)

-- two lists are of the same shapes where their parts are
shapes_of_parts : (n : ℕ) (ts us : List SyntaxTree) → n < length ts → length ts ≡ length us
    → SameShapes (take n ts) (take n us) → SameShapes (take 1 (drop n ts)) (take 1 (drop n us)) → SameShapes (drop (suc n) ts) (drop (suc n) us) → SameShapes ts us
shapes_of_parts n [] us inside long before at after = absurd (omega arith)
shapes_of_parts n (t ∷ ts) [] inside long before at after = absurd (omega arith)
shapes_of_parts zero (t ∷ ts) (u ∷ us) inside long before at after = both_shapes t u ts us (first_shape t u [] [] at) after
shapes_of_parts (suc n) (t ∷ ts) (u ∷ us) inside long before at after = both_shapes t u ts us (first_shape t u (take n ts) (take n us) before) (shapes_of_parts n ts us (omega arith) (omega arith) (rest_shapes t u (take n ts) (take n us) before) at after)

-- the same of elements, of which the children of a node are made
abbrev pub SameElements : List GreenElement → List GreenElement → Type 0
SameElements es fs = SameShapes (element_trees es) (element_trees fs)

pub same_before : (n : ℕ) (es fs : List GreenElement) → SameElements es fs → SameElements (take n es) (take n fs)
same_before n es fs h = rw (← take-trees n es, ← take-trees n fs) (shapes_before n (element_trees es) (element_trees fs) h)

same_from : (n : ℕ) (es fs : List GreenElement) → SameElements es fs → SameElements (drop n es) (drop n fs)
same_from n es fs h = rw (← drop-map element_tree n es, ← drop-map element_tree n fs) (shapes_from n (element_trees es) (element_trees fs) h)

whole_end : (n : ℕ) (es : List GreenElement) → take (length es - n) (drop n es) ≡ drop n es
whole_end n es = take_all (length es - n) (drop n es) (rw (length-drop n es) (omega arith))

-- as slices of two lists of one length are
pub same_after : (n : ℕ) (es fs : List GreenElement) → SameElements es fs → SameElements (take (length es - n) (drop n es)) (take (length fs - n) (drop n fs))
same_after n es fs h = rw (whole_end n es, whole_end n fs) (same_from n es fs h)

at_one : (n : ℕ) (es : List GreenElement) (e : GreenElement) → n < length es → e ≡ get_or es n e → take 1 (drop n es) ≡ e ∷ []
at_one n [] e h is = absurd (omega arith)
at_one zero (x ∷ es) e h is = rw is refl
at_one (suc n) (x ∷ es) e h is = at_one n es e (omega arith) is

same_one : (n : ℕ) (es fs : List GreenElement) → SameElements es fs → SameElements (take 1 (drop n es)) (take 1 (drop n fs))
same_one n es fs h = same_before 1 (drop n es) (drop n fs) (same_from n es fs h)

one : (n : ℕ) → n + 1 - n ≡ 1
one n = omega arith

-- two lists are of the same shapes where slices of them are, as a slot cuts them
same_parts : (n : ℕ) (es fs : List GreenElement) → n < length es → length es ≡ length fs
    → SameElements (take n es) (take n fs) → SameElements (take (n + 1 - n) (drop n es)) (take (n + 1 - n) (drop n fs)) → SameElements (take (length es - (n + 1)) (drop (n + 1) es)) (take (length fs - (n + 1)) (drop (n + 1) fs)) → SameElements es fs
same_parts n es fs h long before here after =
    shapes_of_parts n (element_trees es) (element_trees fs) (rw (length-map es element_tree) h) (rw (length-map es element_tree, length-map fs element_tree) long)
    (rw (take-trees n es, take-trees n fs) before)
    (rw (drop-map element_tree n es, drop-map element_tree n fs, take-trees 1 (drop n es), take-trees 1 (drop n fs)) (rw (one n) at here))
    (rw (drop-map element_tree (suc n) es, drop-map element_tree (suc n) fs) (rw (whole_end (n + 1) es, whole_end (n + 1) fs, add-one) at after))

-- the elements in one slot
pub same_slot : (n : ℕ) (es fs : List GreenElement) (e f : GreenElement) → n < length es → n < length fs → e ≡ get_or es n e → f ≡ get_or fs n f
    → SameElements es fs → SameShape (element_tree e) (element_tree f)
same_slot n es fs e f h k is_e is_f same = first_shape (element_tree e) (element_tree f) [] [] (rw (at_one n es e h is_e, at_one n fs f k is_f) at (same_one n es fs same))

pub slot_same : (n : ℕ) (es fs : List GreenElement) (e f : GreenElement) → n < length es → n < length fs → e ≡ get_or es n e → f ≡ get_or fs n f
    → SameShape (element_tree e) (element_tree f) → SameElements (take (n + 1 - n) (drop n es)) (take (n + 1 - n) (drop n fs))
slot_same n es fs e f h k is_e is_f same = rw (one n, at_one n es e h is_e, at_one n fs f k is_f) (both_shapes (element_tree e) (element_tree f) [] [] same refl)

-- what a walk knows of two nodes of one kind, with as many children, whose children but the one in a slot are of the same shapes
pub record Alike (a b : Branch) (n : ℕ) (es fs : List GreenElement) : Type 0 where
  pub kind : a.kind ≡ b.kind
  pub left : element_trees es ≡ a.children
  pub right : element_trees fs ≡ b.children
  pub long : length es ≡ length fs
  pub inside : n < length es
  pub before : SameElements (take n es) (take n fs)
  pub after : SameElements (take (length es - (n + 1)) (drop (n + 1) es)) (take (length fs - (n + 1)) (drop (n + 1) fs))

pub same_by_slot : (a b : Branch) (n : ℕ) (es fs : List GreenElement) → Alike a b n es fs → SameElements (take (n + 1 - n) (drop n es)) (take (n + 1 - n) (drop n fs)) ↔ SameShape (branch_tree a) (branch_tree b)
same_by_slot a b n es fs k = (
  λ here. nodes_same a b k.kind (rw (← k.left, ← k.right) (same_parts n es fs k.inside k.long k.before here k.after)),
  λ same. rw (one n) (same_one n es fs (rw (k.left, k.right) (children_same a b same))),
)
