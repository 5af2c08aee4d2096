-- What a path leads to.
use Rattle.std.proofs.Common.{◌≡◌, ℕ, ◌+◌, ◌<◌, ◌≤◌, get_or, add-one, drop-cons, suc, List, [], ◌∷◌, ◌++◌, length, drop, Option, Some, None, refl, ap, sym, ◌∙◌}
use Rattle.std.specs.Prelude.{slice_get, option_and_then, option_map, IsSome}
use Rattle.std.proofs.lemmas.Option.{slice_get-map, slice_get_read, slice_get_past}
use Rattle.green_tree.specs.Path.{Path}
use Rattle.green_tree.specs.Tree.{Tree, Forest, SyntaxTree, Token, Node, end, more, at, children, trees, forest}
use Rattle.green_tree.specs.Green.{branch_tree, Branch}
use Rattle.green_tree.specs.GreenElement.{element_trees, element_tree}
use Rattle.green_tree.specs.declared.green.GreenElement.{GreenElement}

pub trees-forest : {L : Type 0} (ts : List (Tree L)) → trees (forest ts) ≡ ts
trees-forest [] = refl
trees-forest (t ∷ ts) = ap (λ r. t ∷ r) (trees-forest ts)

pub forest-trees : {L : Type 0} (f : Forest L) → forest (trees f) ≡ f
forest-trees end = refl
forest-trees (more t f) = ap (more t) (forest-trees f)

pub children-branch_tree : (b : Branch) → children (branch_tree b) ≡ b.children
children-branch_tree b = trees-forest b.children

-- one step down
pub at-child : (b : Branch) (es : List GreenElement) (i : ℕ) (p : Path) → element_trees es ≡ b.children → at (branch_tree b) (i ∷ p) ≡ option_and_then (λ c. at c p) (option_map element_tree (slice_get es i))
at-child b es i p e = rw (trees-forest, ← e, slice_get-map)

-- a path in two parts
pub at-append : {L : Type 0} (t : Tree L) (p q : Path) → at t (p ++ q) ≡ option_and_then (λ c. at c q) (at t p)
at-append t [] q = refl
at-append t (i ∷ p) q =
    elim (slice_get (children t) i) as (λ o. option_and_then (λ c. at c (p ++ q)) o ≡ option_and_then (λ c. at c q) (option_and_then (λ c. at c p) o)) [ None ↦ refl | Some c ↦ at-append c p q ]

-- the tree is there, and is a node
pub record IsNodeThere (o : Option SyntaxTree) : Type 0 where
  pub kind : ℕ
  pub below : Forest ℕ
  pub is : o ≡ Some (Node kind below)

node_above : (o : Option SyntaxTree) (i : ℕ) (c : SyntaxTree) → option_and_then (λ t. at t (i ∷ [])) o ≡ Some c → IsNodeThere o
node_above None i c h = absurd (cc)
node_above (Some (Token k s)) i c h = absurd (cc)
node_above (Some (Node k f)) i c h = record { kind = k; below = f; is = refl }

-- what a longer path leads to is below a node
pub at_front : (t : SyntaxTree) (p : Path) (i : ℕ) (c : SyntaxTree) → at t (p ++ i ∷ []) ≡ Some c → IsNodeThere (at t p)
at_front t p i c h = node_above (at t p) i c (sym (at-append t p (i ∷ [])) ∙ h)

some_at_front : (t : SyntaxTree) (p : Path) (i : ℕ) (o : Option SyntaxTree) → at t (p ++ i ∷ []) ≡ o → IsSome o → IsNodeThere (at t p)
some_at_front t p i None h there = absurd (cc (there))
some_at_front t p i (Some c) h there = at_front t p i c h

-- the parent of what a path leads to is a node
pub at_parent : (t : SyntaxTree) (p : Path) (i : ℕ) → IsSome (at t (p ++ i ∷ [])) → IsNodeThere (at t p)
at_parent t p i there = some_at_front t p i (at t (p ++ i ∷ [])) refl there

-- nothing is below a token
pub at-token : (k : ℕ) (s : List ℕ) (i : ℕ) (p : Path) → at (Token k s) (i ∷ p) ≡ None
at-token k s i p = refl

-- one step of a walk along a path
pub at_step : (b : Branch) (es : List GreenElement) (path : Path) (n : ℕ) (e : GreenElement) → element_trees es ≡ b.children → n < length path → get_or path n 0 < length es → e ≡ get_or es (get_or path n 0) e → at (branch_tree b) (drop n path) ≡ at (element_tree e) (drop (n + 1) path)
at_step b es path n e same h k is =
    let there = slice_get_read es (length es) (get_or path n 0) e refl k is in
    rw (add-one, drop-cons path n 0 h) (at-child b es (get_or path n 0) (drop (suc n) path) same ∙ ap (λ o. option_and_then (λ c. at c (drop (suc n) path)) (option_map element_tree o)) there)

-- a walk that finds no child
pub at_past : (b : Branch) (es : List GreenElement) (path : Path) (n : ℕ) → element_trees es ≡ b.children → n < length path → length es ≤ get_or path n 0 → at (branch_tree b) (drop n path) ≡ None
at_past b es path n same h k =
    let past = slice_get_past es (get_or path n 0) k in
    rw (drop-cons path n 0 h) (at-child b es (get_or path n 0) (drop (suc n) path) same ∙ ap (λ o. option_and_then (λ c. at c (drop (suc n) path)) (option_map element_tree o)) past)

-- a walk that has a slot left at a token
pub at-token_at : (k : ℕ) (s : List ℕ) (path : Path) (n : ℕ) → n < length path → at (Token k s) (drop n path) ≡ None
at-token_at k s path n h = rw (drop-cons path n 0 h)

pub node_is_not_token : (o : Option SyntaxTree) (k : ℕ) (s : List ℕ) → IsNodeThere o → Some (Token k s) ≡ o → ⊥
node_is_not_token o k s there h = let e = h ∙ there.is in cc

pub node_is_not_none : (o : Option SyntaxTree) → IsNodeThere o → None ≡ o → ⊥
node_is_not_none o there h = let e = h ∙ there.is in cc
