-- The nodes above an element, from the top down.
use Rattle.std.proofs.Common.{◌≡◌, ℕ, ◌+◌, ◌-◌, ◌<◌, ◌≤◌, List, [], ◌∷◌, ◌++◌, length, map, take, drop, get_or, Some, None, refl, ap, sym, ◌∙◌, subst, arith, length-drop}
use Rattle.std.specs.Prelude.{reverse, option_and_then, IsSome}
use Rattle.std.proofs.lemmas.List.{map-append, reverse-append, take-append-drop, take_all, take_more}
use Rattle.green_tree.specs.Path.{Path, above}
use Rattle.green_tree.specs.Tree.{SyntaxTree, at}
use Rattle.green_tree.specs.Green.{Branch, Leaf, branch_tree, leaf_tree}
use Rattle.green_tree.specs.GreenElement.{element_tree, element_trees}
use Rattle.green_tree.specs.declared.green.GreenElement.{GreenElement}
use Rattle.green_tree.proofs.Lookup.{at-append, at_past}
use Rattle.green_tree.proofs.Slots.{slice_get-child}
use Rattle.cst_core.specs.Element.{Element, element_at}

above-push : (p : Path) (i : ℕ) → above (p ++ i ∷ []) ≡ above p ++ p ∷ []
above-push [] i = refl
above-push (j ∷ p) i = ap (λ ps. [] ∷ map (λ q. j ∷ q) ps) (above-push p i) ∙ ap (λ ps. [] ∷ ps) (map-append (λ q. j ∷ q) (above p) (p ∷ []))

-- one level more is listed
pub listed_more : (e : Element) (path : Path) (d : ℕ) (all : List Element) (n : Element) → d < length path → all ≡ map (element_at e) (above (take d path)) → n ≡ element_at e (take d path) → all ++ n ∷ [] ≡ map (element_at e) (above (take (d + 1) path))
listed_more e path d all n h is same =
    ap (λ xs. xs ++ n ∷ []) is
    ∙ ap (λ m. map (element_at e) (above (take d path)) ++ m ∷ []) same
    ∙ sym (map-append (element_at e) (above (take d path)) (take d path ∷ []))
    ∙ ap (map (element_at e)) (sym (above-push (take d path) (get_or path d 0)))
    ∙ ap (λ p. map (element_at e) (above p)) (sym (take_more path d 0 h))

-- all levels are
pub listed_all : (e : Element) (path : Path) (d : ℕ) → length path ≤ d → map (element_at e) (above (take d path)) ≡ map (element_at e) (above path)
listed_all e path d h = ap (λ p. map (element_at e) (above p)) (take_all d path h)

-- the child on the way down
pub child_on_way : (r : SyntaxTree) (b : Branch) (es : List GreenElement) (path : Path) (d : ℕ) (c : GreenElement) → at r (take d path) ≡ Some (branch_tree b) → d < length path → element_trees es ≡ b.children → get_or path d 0 < length es → c ≡ get_or es (get_or path d 0) c → at r (take (d + 1) path) ≡ Some (element_tree c)
child_on_way r b es path d c there h same k is =
    let own = slice_get-child b es (get_or path d 0) c same k is in
    let below : at (branch_tree b) (get_or path d 0 ∷ []) ≡ Some (element_tree c) = rw own in
    ap (at r) (take_more path d 0 h) ∙ at-append r (take d path) (get_or path d 0 ∷ []) ∙ ap (option_and_then (λ t. at t (get_or path d 0 ∷ []))) there ∙ below

rest_of_way : (r t : SyntaxTree) (path : Path) (d : ℕ) → at r (take d path) ≡ Some t → at r path ≡ at t (drop d path)
rest_of_way r t path d there =
    ap (at r) (sym (take-append-drop d path)) ∙ at-append r (take d path) (drop d path) ∙ ap (option_and_then (λ c. at c (drop d path))) there

none_there : (r : SyntaxTree) (path : Path) → at r path ≡ None → IsSome (at r path) → ⊥
none_there r path none some = let h = subst IsSome none some in absurd (cc (h))

-- there is one
pub way_goes_on : (r : SyntaxTree) (b : Branch) (es : List GreenElement) (path : Path) (d : ℕ) → at r (take d path) ≡ Some (branch_tree b) → IsSome (at r path) → d < length path → element_trees es ≡ b.children → length es ≤ get_or path d 0 → ⊥
way_goes_on r b es path d there some h same k = none_there r path (rest_of_way r (branch_tree b) path d there ∙ at_past b es path d same h k) some

-- a token ends the way
pub token_ends_way : (r : SyntaxTree) (l : Leaf) (path : Path) (d : ℕ) → at r (take d path) ≡ Some (leaf_tree l) → IsSome (at r path) → length path ≤ d
token_ends_way r l path d there some =
    elim (drop d path) as (λ q. drop d path ≡ q → length path ≤ d) [
      | [] ↦ λ none. let count : length path - d ≡ 0 = sym (length-drop d path) ∙ ap length none in omega (arith, count)
      | i ∷ q ↦ λ more. absurd (none_there r path (rest_of_way r (leaf_tree l) path d there ∙ ap (at (leaf_tree l)) more) some)
    ] refl

-- from the nearest on
pub map-reverse : {X Y : Type 0} (f : X → Y) (xs : List X) → reverse (map f xs) ≡ map f (reverse xs)
map-reverse f [] = refl
map-reverse f (x ∷ xs) =
    reverse-append (f x ∷ []) (map f xs) ∙ ap (λ ys. ys ++ f x ∷ []) (map-reverse f xs) ∙ sym (map-append f (reverse xs) (x ∷ [])) ∙ ap (map f) (sym (reverse-append (x ∷ []) xs))
