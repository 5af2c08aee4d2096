-- The elements in the child slots of an element.
use Rattle.std.proofs.Common.{◌≡◌, ℕ, zero, suc, ◌+◌, ◌<◌, ◌≤◌, List, [], ◌∷◌, ◌++◌, length, map, Option, Some, None, refl, ap, sym, ◌∙◌, arith}
use Rattle.std.specs.Prelude.{slice_get, option_map, option_and_then, unwrap_or, IsSome}
use Rattle.std.proofs.lemmas.Option.{slice_get_past, slice_get-get_or}
use Rattle.std.proofs.lemmas.List.{length-map, map-append}
use Rattle.green_tree.specs.Path.{Path, counted_from, first_item, last_item, parent_path, last_slot}
use Rattle.green_tree.specs.Tree.{SyntaxTree, Token, at, children}
use Rattle.green_tree.specs.Green.{branch_tree, Branch}
use Rattle.green_tree.specs.GreenElement.{element_trees, element_tree}
use Rattle.cst_core.specs.Element.{Element, subtree, below, parent_of, element_at}
use Rattle.cst_core.specs.SyntaxElement.{syntax_as, syntax_of, syntax_at, child_elements, next_sibling, previous_sibling}
use Rattle.cst_core.specs.declared.element.SyntaxElement.{SyntaxElement}
use Rattle.green_tree.specs.declared.green.GreenElement.{GreenElement}
use Rattle.green_tree.proofs.Lookup.{at-append, children-branch_tree}
use Rattle.green_tree.proofs.FoundTokens.{some_is_not_none}

pub subtree_there : (e : Element) (t : SyntaxTree) → at e.root e.path ≡ Some t → subtree e ≡ t
subtree_there e t h = ap (λ o. unwrap_or o (Token 0 [])) h

pub at_below : (e : Element) (t : SyntaxTree) (p : Path) → at e.root e.path ≡ Some t → at e.root (e.path ++ p) ≡ at t p
at_below e t p h = at-append e.root e.path p ∙ ap (option_and_then (λ c. at c p)) h

-- where a path from the element on leads nowhere
pub below_none : (e : Element) (t : SyntaxTree) (p : Path) → at e.root e.path ≡ Some t → None ≡ at t p → None ≡ syntax_at e (e.path ++ p)
below_none e t p h none = ap (option_map (λ d. syntax_as d (below e p))) (none ∙ sym (at_below e t p h))

-- where it leads somewhere
pub below_some : (e : Element) (t c : SyntaxTree) (p : Path) → at e.root e.path ≡ Some t → at t p ≡ Some c → syntax_at e (e.path ++ p) ≡ None → ⊥
below_some e t c p h there none =
    let some : syntax_at e (e.path ++ p) ≡ Some (syntax_as c (below e p)) = ap (option_map (λ d. syntax_as d (below e p))) (at_below e t p h ∙ there) in
    some_is_not_none (sym some ∙ none)

-- how many children an element has, from the list of the shared node
pub length_children : (e : Element) (b : Branch) (es : List GreenElement) → branch_tree b ≡ subtree e → element_trees es ≡ b.children → length (children (subtree e)) ≡ length es
length_children e b es h same = ap (λ t. length (children t)) (sym h) ∙ ap length (children-branch_tree b) ∙ ap length (sym same) ∙ length-map es element_tree

child_of_some : (e : Element) (t : SyntaxTree) (i : ℕ) (c : SyntaxTree) → at e.root e.path ≡ Some t → slice_get (children t) i ≡ Some c → syntax_at e (e.path ++ i ∷ []) ≡ Some (syntax_of (below e (i ∷ [])))
child_of_some e t i c h is =
    let there = at_below e t (i ∷ []) h ∙ ap (option_and_then (λ d. Some d)) is in
    ap (option_map (λ d. syntax_as d (below e (i ∷ [])))) there ∙ ap (λ d. Some (syntax_as d (below e (i ∷ [])))) (sym (subtree_there (below e (i ∷ [])) c there))

-- a slot that holds a child
pub child_there : (e : Element) (t : SyntaxTree) (i : ℕ) → at e.root e.path ≡ Some t → i < length (children (subtree e)) → syntax_at e (e.path ++ i ∷ []) ≡ Some (syntax_of (below e (i ∷ [])))
child_there e t i h inside =
    let within : i < length (children t) = rw (← subtree_there e t h) inside in
    child_of_some e t i _ h (slice_get-get_or (children t) i (Token 0 []) within)

-- a slot past the children
pub child_past : (e : Element) (t : SyntaxTree) (i : ℕ) → at e.root e.path ≡ Some t → length (children (subtree e)) ≤ i → syntax_at e (e.path ++ i ∷ []) ≡ None
child_past e t i h past =
    let over : length (children t) ≤ i = rw (← subtree_there e t h) past in
    ap (option_map (λ d. syntax_as d (below e (i ∷ [])))) (at_below e t (i ∷ []) h ∙ ap (option_and_then (λ d. Some d)) (slice_get_past (children t) i over))

-- the same of any value, whether its path leads to an element or not
pub child_past-any : (e : Element) (i : ℕ) → length (children (subtree e)) ≤ i → syntax_at e (e.path ++ i ∷ []) ≡ None
child_past-any e i past =
    elim (at e.root e.path) as (λ o. at e.root e.path ≡ o → syntax_at e (e.path ++ i ∷ []) ≡ None) [
      | None ↦ λ none. ap (option_map (λ d. syntax_as d (below e (i ∷ [])))) (at-append e.root e.path (i ∷ []) ∙ ap (option_and_then (λ c. at c (i ∷ []))) none)
      | Some t ↦ λ there. child_past e t i there past
    ] refl

pub counted_more : (a n : ℕ) → counted_from a (suc n) ≡ counted_from a n ++ (a + n) ∷ []
counted_more a zero = ap (λ i. i ∷ []) (omega arith)
counted_more a (suc n) =
    let same : suc a + n ≡ a + suc n = omega arith in
    ap (λ r. a ∷ r) (counted_more (suc a) n ∙ ap (λ i. counted_from (suc a) n ++ i ∷ []) same)

-- the elements of the first n child slots
abbrev pub first_children : Element → ℕ → List SyntaxElement
first_children e n = map (λ i. syntax_of (below e (i ∷ []))) (counted_from 0 n)

pub first_children_more : (e : Element) (n : ℕ) → first_children e (n + 1) ≡ first_children e n ++ syntax_of (below e (n ∷ [])) ∷ []
first_children_more e n =
    let next : n + 1 ≡ suc n = omega arith in
    let last : 0 + n ≡ n = omega arith in
    ap (first_children e) next ∙ ap (map (λ i. syntax_of (below e (i ∷ [])))) (counted_more 0 n ∙ ap (λ i. counted_from 0 n ++ i ∷ []) last) ∙ map-append (λ i. syntax_of (below e (i ∷ []))) (counted_from 0 n) (n ∷ [])

-- the first and the last of the children
pub first_child : (e : Element) (t : SyntaxTree) (n : ℕ) → at e.root e.path ≡ Some t → n ≡ length (children (subtree e)) → syntax_at e (e.path ++ 0 ∷ []) ≡ first_item (first_children e n)
first_child e t zero h is = child_past e t 0 h (omega arith)
first_child e t (suc n) h is = child_there e t 0 h (omega arith)

pub last_item-push : {X : Type 0} (xs : List X) (x : X) → last_item (xs ++ x ∷ []) ≡ Some x
last_item-push [] x = refl
last_item-push (y ∷ []) x = refl
last_item-push (y ∷ z ∷ xs) x = last_item-push (z ∷ xs) x

pub last_child : (e : Element) (t : SyntaxTree) (n : ℕ) → at e.root e.path ≡ Some t → n + 1 ≡ length (children (subtree e)) → syntax_at e (e.path ++ n ∷ []) ≡ last_item (child_elements e)
last_child e t n h is =
    child_there e t n h (omega arith) ∙ sym (last_item-push (first_children e n) (syntax_of (below e (n ∷ [])))) ∙ ap last_item (sym (first_children_more e n)) ∙ ap (λ m. last_item (first_children e m)) is

-- siblings are children of the parent
parent_is : (e p : Element) (i : ℕ) (q : Path) → Some (element_at e (parent_path (i ∷ q))) ≡ Some p → element_at e (parent_path (i ∷ q)) ≡ p
parent_is e p i q h = ap (λ o. unwrap_or o p) h

next_of_parent : (e p : Element) (q : Path) → e.path ≡ q → parent_of (element_at e q) ≡ Some p → next_sibling (element_at e q) ≡ syntax_at p (p.path ++ suc (last_slot q) ∷ [])
next_of_parent e p [] is h = absurd (cc)
next_of_parent e p (i ∷ q) is h = ap (λ f. syntax_at f (f.path ++ suc (last_slot (i ∷ q)) ∷ [])) (parent_is e p i q h)

pub next_sibling-child : (e p : Element) → parent_of e ≡ Some p → next_sibling e ≡ syntax_at p (p.path ++ suc (last_slot e.path) ∷ [])
next_sibling-child e p h = next_of_parent e p e.path refl h

previous_of_parent : (e p : Element) (q : Path) (j : ℕ) → parent_of (element_at e q) ≡ Some p → last_slot q ≡ suc j → previous_sibling (element_at e q) ≡ syntax_at p (p.path ++ j ∷ [])
previous_of_parent e p [] j h is = absurd (cc)
previous_of_parent e p (i ∷ q) j h is = rw is (ap (λ f. syntax_at f (f.path ++ j ∷ [])) (parent_is e p i q h))

pub previous_sibling-child : (e p : Element) (j : ℕ) → parent_of e ≡ Some p → last_slot e.path ≡ suc j → previous_sibling e ≡ syntax_at p (p.path ++ j ∷ [])
previous_sibling-child e p j h is = previous_of_parent e p e.path j h is

-- the next child pushed
pub one_more_child : (e : Element) (n : ℕ) (x : SyntaxElement) → Some x ≡ Some (syntax_of (below e (n ∷ []))) → first_children e n ++ x ∷ [] ≡ first_children e (n + 1)
one_more_child e n x h = ap (λ y. first_children e n ++ y ∷ []) (ap (λ o. unwrap_or o x) h) ∙ sym (first_children_more e n)

pub no_more_child : (e : Element) (n : ℕ) → None ≡ Some (syntax_of (below e (n ∷ []))) → ⊥
no_more_child e n h = cc

pub is_element : (o : Option SyntaxTree) (t : SyntaxTree) → o ≡ Some t → IsSome o
is_element o t h = rw h
