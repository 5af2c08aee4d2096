-- An element that is not a root stands at a slot of its parent's children.
--     child-there                   where a path leads to an element, its parent has a child at its last slot
--     within-children               that is one of the parent's children
--     no-child-of-token, no-child-of-none      so the parent is neither a token nor missing
use Rattle.std.specs.Prelude.{◌≡◌, ℕ, suc, ◌<◌, List, [], ◌∷◌, length, slice_get, Option, Some, None, option_and_then, refl}
use Rattle.std.proofs.Common.{ap, sym, ◌∙◌, subst, arith}
use Rattle.std.proofs.lemmas.Option.{none-some, same_Some, slice_get_within}
use Rattle.cst_core.specs.Path.{Path, parent_path, last_slot}
use Rattle.cst_core.specs.Tree.{SyntaxTree, Token, at, children}
use Rattle.cst_core.specs.Green.{Branch, branch_tree}
use Rattle.green_tree.proofs.Lookup.{trees-forest}

abbrev HasChild : Option SyntaxTree → ℕ → Type 0
HasChild o i = (u : SyntaxTree) × (o ≡ Some u) × (i < length (children u))

pub child-there : (top : SyntaxTree) (p : Path) (t : SyntaxTree) → (p ≡ [] → ⊥) → at top p ≡ Some t → HasChild (at top (parent_path p)) (last_slot p)
child-there top [] t below there = absurd (below refl)
child-there top (i ∷ []) t below there =
    (elim (slice_get (children top) i) as (λ o. option_and_then (λ c. at c []) o ≡ Some t → slice_get (children top) i ≡ o → HasChild (Some top) i) [
      | None ↦ λ h is. absurd (none-some t h)
      | Some c ↦ λ h is. (top, refl, slice_get_within (children top) i c is)
    ]) there refl
child-there top (i ∷ j ∷ p) t below there =
    (elim (slice_get (children top) i) as (λ o. option_and_then (λ c. at c (j ∷ p)) o ≡ Some t → HasChild (option_and_then (λ c. at c (parent_path (j ∷ p))) o) (last_slot (j ∷ p))) [
      | None ↦ λ h. absurd (none-some t h)
      | Some c ↦ λ h. child-there c (j ∷ p) t (λ e. let l : suc (length p) ≡ 0 = ap length e in absurd (omega (arith, l))) h
    ]) there

-- the parent is a node with so many children
pub within-children : (b : Branch) (o : Option SyntaxTree) (i : ℕ) → o ≡ Some (branch_tree b) → HasChild o i → i < length b.children
within-children b o i is has =
    subst (λ ts. i < length ts) (ap children (same_Some has.0 (branch_tree b) (sym has.1 ∙ is)) ∙ trees-forest b.children) has.2

pub no-child-of-token : (k : ℕ) (s : List ℕ) (o : Option SyntaxTree) (i : ℕ) → o ≡ Some (Token k s) → HasChild o i → ⊥
no-child-of-token k s o i is has =
    let l : i < length (children (Token k s)) = subst (λ u. i < length (children u)) (same_Some has.0 (Token k s) (sym has.1 ∙ is)) has.2 in
    omega (arith, l)

pub no-child-of-none : (o : Option SyntaxTree) (i : ℕ) → o ≡ None → HasChild o i → ⊥
no-child-of-none o i is has = none-some has.0 (sym is ∙ has.1)
