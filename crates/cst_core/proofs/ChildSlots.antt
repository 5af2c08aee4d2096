-- The children of an element, one slot at a time: from a slot on, and up to a slot.
use Rattle.std.proofs.Common.{◌≡◌, ℕ, zero, suc, ◌+◌, ◌<◌, ◌≤◌, List, [], ◌∷◌, ◌++◌, length, map, take, drop, Option, Some, None, refl, ap, sym, ◌∙◌, subst, arith, append_assoc}
use Rattle.std.specs.Prelude.{filter_map, reverse, option_map, option_and_then, slice_get, unwrap_or, IsSome}
use Rattle.std.specs.List.{cons_option}
use Rattle.std.proofs.Math.ListN.{drop_of_length-le}
use Rattle.std.proofs.Math.Seq.{take-length}
use Rattle.std.proofs.lemmas.List.{length-map, append-nil, reverse-append}
use Rattle.std.proofs.lemmas.List.Elements.{filter_map-append}
use Rattle.green_tree.specs.Path.{Path, counted_from, first_item, last_item, parent_path, last_slot}
use Rattle.green_tree.specs.Tree.{SyntaxTree, Token, at, children}
use Rattle.cst_core.specs.Element.{Element, IsElement, subtree, below, element_at, parent_of}
use Rattle.cst_core.specs.SyntaxElement.{syntax_as, syntax_of, node_of, child_elements, child_nodes}
use Rattle.cst_core.specs.inner.ChildSlots.{child_in, node_in, nodes_from_slot, nodes_up_to}
use Rattle.cst_core.specs.declared.element.SyntaxElement.{SyntaxElement}
use Rattle.green_tree.proofs.Lookup.{at-append}
use Rattle.green_tree.proofs.FoundTokens.{some_is_not_none}
use Rattle.cst_core.proofs.LastSlot.{parent-and-slot}
use Rattle.green_tree.specs.Green.{Branch, Leaf, branch_tree, leaf_tree}
use Rattle.cst_core.proofs.Children.{at_below, child_there, child_past, last_item-push}

pub length_counted : (a n : ℕ) → length (counted_from a n) ≡ n
length_counted a zero = refl
length_counted a (suc n) = ap suc (length_counted (suc a) n)

drop_slot : {X : Type 0} (f : ℕ → X) (a n i : ℕ) → i < n → drop i (map f (counted_from a n)) ≡ f (a + i) ∷ drop (suc i) (map f (counted_from a n))
drop_slot f a zero i h = absurd (omega arith)
drop_slot f a (suc n) zero h =
    let same : a ≡ a + 0 = omega arith in
    ap (λ j. f j ∷ map f (counted_from (suc a) n)) same
drop_slot f a (suc n) (suc i) h =
    let same : suc a + i ≡ a + suc i = omega arith in
    drop_slot f (suc a) n i (omega arith) ∙ ap (λ j. f j ∷ drop (suc i) (map f (counted_from (suc a) n))) same

take_slot : {X : Type 0} (f : ℕ → X) (a n i : ℕ) → i < n → take (suc i) (map f (counted_from a n)) ≡ take i (map f (counted_from a n)) ++ f (a + i) ∷ []
take_slot f a zero i h = absurd (omega arith)
take_slot f a (suc n) zero h =
    let same : a ≡ a + 0 = omega arith in
    ap (λ j. f j ∷ []) same
take_slot f a (suc n) (suc i) h =
    let same : suc a + i ≡ a + suc i = omega arith in
    ap (λ xs. f a ∷ xs) (take_slot f (suc a) n i (omega arith) ∙ ap (λ j. take i (map f (counted_from (suc a) n)) ++ f j ∷ []) same)

pub length_child_elements : (e : Element) → length (child_elements e) ≡ length (children (subtree e))
length_child_elements e = length-map (counted_from 0 (length (children (subtree e)))) (λ i. syntax_of (below e (i ∷ []))) ∙ length_counted 0 (length (children (subtree e)))

pub drop_child : (e : Element) (i : ℕ) → i < length (children (subtree e)) → drop i (child_elements e) ≡ syntax_of (below e (i ∷ [])) ∷ drop (suc i) (child_elements e)
drop_child e i h =
    let same : 0 + i ≡ i = omega arith in
    drop_slot (λ j. syntax_of (below e (j ∷ []))) 0 (length (children (subtree e))) i h ∙ ap (λ j. syntax_of (below e (j ∷ [])) ∷ drop (suc i) (child_elements e)) same

pub take_child : (e : Element) (i : ℕ) → i < length (children (subtree e)) → take (suc i) (child_elements e) ≡ take i (child_elements e) ++ syntax_of (below e (i ∷ [])) ∷ []
take_child e i h =
    let same : 0 + i ≡ i = omega arith in
    take_slot (λ j. syntax_of (below e (j ∷ []))) 0 (length (children (subtree e))) i h ∙ ap (λ j. take i (child_elements e) ++ syntax_of (below e (j ∷ [])) ∷ []) same

node_in-there : (e : Element) (t : SyntaxTree) (i : ℕ) → at e.root e.path ≡ Some t → i < length (children (subtree e)) → node_in e i ≡ node_of (syntax_of (below e (i ∷ [])))
node_in-there e t i h inside = ap (option_and_then node_of) (child_there e t i h inside)

pub nodes_from_slot-next : (e : Element) (t : SyntaxTree) (i : ℕ) → at e.root e.path ≡ Some t → i < length (children (subtree e)) → nodes_from_slot e i ≡ cons_option (node_in e i) (nodes_from_slot e (suc i))
nodes_from_slot-next e t i h inside =
    ap (filter_map node_of) (drop_child e i inside) ∙ ap (λ o. cons_option o (nodes_from_slot e (suc i))) (sym (node_in-there e t i h inside))

pub nodes_from_slot-end : (e : Element) (i : ℕ) → length (children (subtree e)) ≤ i → nodes_from_slot e i ≡ []
nodes_from_slot-end e i h =
    let count = length_child_elements e in
    ap (filter_map node_of) (drop_of_length-le (child_elements e) (omega (arith, count)))

nodes_up_to-next : (e : Element) (t : SyntaxTree) (i : ℕ) → at e.root e.path ≡ Some t → i < length (children (subtree e)) → nodes_up_to e (suc i) ≡ nodes_up_to e i ++ cons_option (node_in e i) []
nodes_up_to-next e t i h inside =
    ap (filter_map node_of) (take_child e i inside)
    ∙ filter_map-append node_of (take i (child_elements e)) (syntax_of (below e (i ∷ [])) ∷ [])
    ∙ ap (λ o. nodes_up_to e i ++ cons_option o []) (sym (node_in-there e t i h inside))

-- ---- what a walk from either end finds
pub first_node_found : (e : Element) (t : SyntaxTree) (i : ℕ) (x : Element) → at e.root e.path ≡ Some t → i < length (children (subtree e)) → node_in e i ≡ Some x → first_item (nodes_from_slot e i) ≡ Some x
first_node_found e t i x h inside is = ap first_item (nodes_from_slot-next e t i h inside ∙ ap (λ o. cons_option o (nodes_from_slot e (suc i))) is)

pub first_node_passed : (e : Element) (t : SyntaxTree) (i j : ℕ) → at e.root e.path ≡ Some t → i < length (children (subtree e)) → j ≡ suc i → node_in e i ≡ None → nodes_from_slot e i ≡ nodes_from_slot e j
first_node_passed e t i j h inside next is =
    nodes_from_slot-next e t i h inside ∙ ap (λ o. cons_option o (nodes_from_slot e (suc i))) is ∙ ap (nodes_from_slot e) (sym next)

pub last_node_found : (e : Element) (t : SyntaxTree) (i j : ℕ) (x : Element) → at e.root e.path ≡ Some t → i < length (children (subtree e)) → j ≡ suc i → node_in e i ≡ Some x → last_item (nodes_up_to e j) ≡ Some x
last_node_found e t i j x h inside next is =
    ap (λ k. last_item (nodes_up_to e k)) next ∙ ap last_item (nodes_up_to-next e t i h inside ∙ ap (λ o. nodes_up_to e i ++ cons_option o []) is) ∙ last_item-push (nodes_up_to e i) x

pub last_node_passed : (e : Element) (t : SyntaxTree) (i j : ℕ) → at e.root e.path ≡ Some t → i < length (children (subtree e)) → j ≡ suc i → node_in e i ≡ None → nodes_up_to e j ≡ nodes_up_to e i
last_node_passed e t i j h inside next is =
    ap (nodes_up_to e) next ∙ nodes_up_to-next e t i h inside ∙ ap (λ o. nodes_up_to e i ++ cons_option o []) is ∙ append-nil (nodes_up_to e i)

pub nodes_up_to-more : (e : Element) (t : SyntaxTree) (i j : ℕ) (x : Element) → at e.root e.path ≡ Some t → i < length (children (subtree e)) → j ≡ suc i → node_in e i ≡ Some x → nodes_up_to e j ≡ nodes_up_to e i ++ x ∷ []
nodes_up_to-more e t i j x h inside next is =
    ap (nodes_up_to e) next ∙ nodes_up_to-next e t i h inside ∙ ap (λ o. nodes_up_to e i ++ cons_option o []) is

pub nodes_up_to-all : (e : Element) (n : ℕ) → n ≡ length (children (subtree e)) → nodes_up_to e n ≡ child_nodes e
nodes_up_to-all e n is =
    ap (nodes_up_to e) (is ∙ sym (length_child_elements e)) ∙ ap (filter_map node_of) (take-length (child_elements e))

-- ---- what a walk from the end lists, the last one first
pub nodes_pushed : (e : Element) (t : SyntaxTree) (i j : ℕ) (x : Element) (xs : List Element) → at e.root e.path ≡ Some t → i < length (children (subtree e)) → j ≡ suc i → node_in e i ≡ Some x → (xs ++ x ∷ []) ++ reverse (nodes_up_to e i) ≡ xs ++ reverse (nodes_up_to e j)
nodes_pushed e t i j x xs h inside next is =
    append_assoc xs (x ∷ []) (reverse (nodes_up_to e i))
    ∙ ap (λ ys. xs ++ ys) (sym (ap reverse (nodes_up_to-more e t i j x h inside next is) ∙ reverse-append (nodes_up_to e i) (x ∷ [])))

pub children_pushed : (e : Element) (t : SyntaxTree) (i j : ℕ) (x : SyntaxElement) (xs : List SyntaxElement) → at e.root e.path ≡ Some t → i < length (children (subtree e)) → j ≡ suc i → child_in e i ≡ Some x → (xs ++ x ∷ []) ++ reverse (take i (child_elements e)) ≡ xs ++ reverse (take j (child_elements e))
children_pushed e t i j x xs h inside next is =
    let same : syntax_of (below e (i ∷ [])) ≡ x = ap (λ o. unwrap_or o x) (sym (child_there e t i h inside) ∙ is) in
    let more : take j (child_elements e) ≡ take i (child_elements e) ++ x ∷ [] = ap (λ k. take k (child_elements e)) next ∙ take_child e i inside ∙ ap (λ y. take i (child_elements e) ++ y ∷ []) same in
    append_assoc xs (x ∷ []) (reverse (take i (child_elements e)))
    ∙ ap (λ ys. xs ++ ys) (sym (ap reverse more ∙ reverse-append (take i (child_elements e)) (x ∷ [])))

pub child_not_none : (e : Element) (t : SyntaxTree) (i : ℕ) → at e.root e.path ≡ Some t → i < length (children (subtree e)) → child_in e i ≡ None → ⊥
child_not_none e t i h inside none = some_is_not_none (sym (child_there e t i h inside) ∙ none)

pub take_all_children : (e : Element) (n : ℕ) → n ≡ length (children (subtree e)) → take n (child_elements e) ≡ child_elements e
take_all_children e n is = ap (λ k. take k (child_elements e)) (is ∙ sym (length_child_elements e)) ∙ take-length (child_elements e)

-- ---- the slot of an element that has a parent
within : {X : Type 0} (xs : List X) (i : ℕ) → IsSome (slice_get xs i) → i < length xs
within [] i h = absurd (cc (h))
within (x ∷ xs) zero h = omega arith
within (x ∷ xs) (suc i) h = let rest = within xs i h in omega (arith, rest)

some_below : (t : SyntaxTree) (i : ℕ) → IsSome (at t (i ∷ [])) → IsSome (slice_get (children t) i)
some_below t i h = elim (slice_get (children t) i) as (λ o. IsSome (option_and_then (λ c. Some c) o) → IsSome o) [ None ↦ λ none. none | Some c ↦ λ some. some ] h

slot_of : (o : Option SyntaxTree) (i : ℕ) → IsSome (option_and_then (λ c. at c (i ∷ [])) o) → i < length (children (unwrap_or o (Token 0 [])))
slot_of None i h = absurd (cc (h))
slot_of (Some t) i h = within (children t) i (some_below t i h)

slot_in_parent : (e p : Element) (q : Path) → IsElement (element_at e q) → parent_of (element_at e q) ≡ Some p → last_slot q < length (children (subtree p))
slot_in_parent e p [] there h = absurd (cc)
slot_in_parent e p (i ∷ q) there h =
    let above = parent_path (i ∷ q) in
    let two = subst (λ r. IsSome (at e.root r)) (parent-and-slot i q) there in
    let inside = slot_of (at e.root above) (last_slot (i ∷ q)) (subst IsSome (at-append e.root above (last_slot (i ∷ q) ∷ [])) two) in
    subst (λ o. last_slot (i ∷ q) < length (children (subtree (unwrap_or o p)))) h inside

pub slot_is_inside : (e p : Element) → IsElement e → parent_of e ≡ Some p → last_slot e.path < length (children (subtree p))
slot_is_inside e p there h = slot_in_parent e p e.path there h

-- ---- where a walk finds nothing, no slot that it passes has a node
first_item-cons : {X : Type 0} (o : Option X) (xs : List X) → first_item (cons_option o xs) ≡ None → o ≡ None
first_item-cons None xs h = refl
first_item-cons (Some x) xs h = absurd (cc)

some_not_none : {X : Type 0} {x : X} → Some x ≡ None → ⊥
some_not_none h = absurd (cc)

last_item-cons : {X : Type 0} (xs : List X) (o : Option X) → last_item (xs ++ cons_option o []) ≡ None → o ≡ None
last_item-cons xs None h = refl
last_item-cons xs (Some x) h = absurd (some_not_none (sym (last_item-push xs x) ∙ h))

pub first_node_none : (e : Element) (t : SyntaxTree) (i : ℕ) → at e.root e.path ≡ Some t → i < length (children (subtree e)) → first_item (nodes_from_slot e i) ≡ None → node_in e i ≡ None
first_node_none e t i h inside none = first_item-cons (node_in e i) (nodes_from_slot e (suc i)) (ap first_item (sym (nodes_from_slot-next e t i h inside)) ∙ none)

pub last_node_none : (e : Element) (t : SyntaxTree) (i j : ℕ) → at e.root e.path ≡ Some t → i < length (children (subtree e)) → j ≡ suc i → last_item (nodes_up_to e j) ≡ None → node_in e i ≡ None
last_node_none e t i j h inside next none =
    last_item-cons (nodes_up_to e i) (node_in e i) (ap last_item (sym (ap (nodes_up_to e) next ∙ nodes_up_to-next e t i h inside)) ∙ none)

-- ---- what is in one slot, by the shared child there
pub node_in-node : (e : Element) (t : SyntaxTree) (i : ℕ) (b : Branch) → at e.root e.path ≡ Some t → at t (i ∷ []) ≡ Some (branch_tree b) → node_in e i ≡ Some (element_at e (e.path ++ i ∷ []))
node_in-node e t i b h there = ap (λ o. option_and_then node_of (option_map (λ d. syntax_as d (element_at e (e.path ++ i ∷ []))) o)) (at_below e t (i ∷ []) h ∙ there)

pub node_in-token : (e : Element) (t : SyntaxTree) (i : ℕ) (l : Leaf) → at e.root e.path ≡ Some t → at t (i ∷ []) ≡ Some (leaf_tree l) → node_in e i ≡ None
node_in-token e t i l h there = ap (λ o. option_and_then node_of (option_map (λ d. syntax_as d (element_at e (e.path ++ i ∷ []))) o)) (at_below e t (i ∷ []) h ∙ there)

pub node_in-past : (e : Element) (t : SyntaxTree) (i : ℕ) → at e.root e.path ≡ Some t → length (children (subtree e)) ≤ i → node_in e i ≡ None
node_in-past e t i h past = ap (option_and_then node_of) (child_past e t i h past)
