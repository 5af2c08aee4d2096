-- Siblings before a slot, and those from it on.
use Rattle.std.proofs.Common.{◌≡◌, ℕ, ◌-◌, ◌≤◌, List, [], length, map, min, take, drop, Some, sym, ap, ◌∙◌, arith, length-drop}
use Rattle.std.specs.Prelude.{unwrap_or}
use Rattle.std.proofs.lemmas.List.{take_min, drop_min, take_all, take-map, drop-map}
use Rattle.cst_core.specs.Path.{Path}
use Rattle.cst_core.specs.Tree.{SyntaxTree, Token, at, children}
use Rattle.cst_core.specs.Green.{Branch, branch_tree}
use Rattle.green_tree.proofs.Lookup.{trees-forest}
use Rattle.edit_change.specs.declared.position.Position.{Position}
use Rattle.edit_change.specs.Position.{first_of}
use Rattle.edit_change.specs.PositionForm.{FirstChild, After}
use Rattle.cst_core.specs.Element.{Element}

pub map_before : {X Y : Type 0} (f : X → Y) (xs : List X) (i m : ℕ) → m ≡ min i (length xs) → map f (take m xs) ≡ take i (map f xs)
map_before f xs i m is = rw (is, take_min) (sym (take-map f i xs))

pub map_from : {X Y : Type 0} (f : X → Y) (xs : List X) (i m : ℕ) → m ≡ min i (length xs) → map f (take (length xs - m) (drop m xs)) ≡ drop i (map f xs)
map_from f xs i m is =
    let all : length (drop m xs) ≤ length xs - m = omega (arith, length-drop m xs) in
    ap (map f) (take_all (length xs - m) (drop m xs) all ∙ ap (λ k. drop k xs) is ∙ drop_min i xs) ∙ sym (drop-map f i xs)

-- what stands in a node at a path
pub children_there : (b : Branch) (t : SyntaxTree) (p : Path) → Some (branch_tree b) ≡ at t p → b.children ≡ children (unwrap_or (at t p) (Token 0 []))
children_there b t p there = rw (← there) (sym (trees-forest b.children))

pub children_of : (b : Branch) (t : SyntaxTree) → branch_tree b ≡ t → b.children ≡ children t
children_of b t is = rw (← is) (sym (trees-forest b.children))

pub first_child_is : (p : Position) (n : Element) → Some n ≡ first_of p → p ≡ FirstChild n
first_child_is (FirstChild m) n is = cc
first_child_is (After e) n is = absurd (cc)
