-- How a count of nodes is raised, one part after another, and what the parts come to.
--     raises-none, raises-both      by nothing; by one part and then another one
--     raises-weaker, raises-same    where a premise gives another one; where the parts come to the same
--     raises-built                  by what a pass builds
--     raises-empty                  none is touched where nothing aims into elements
--     one-of, payload-at            what holds of each element; the payload of an owner
--     deep                          what a change of this depth or more adds
--     one-level                     A LEVEL MORE: what its owners add
--     all-deep, none-deep           what all add, and what none does
use Rattle.std.specs.Prelude.{◌≡◌, ℕ, suc, ◌+◌, ◌<◌, ◌≤◌, min, List, [], ◌∷◌, map, get_or, length, sum_by, All, Some, refl}
use Rattle.std.specs.List.{enumerate_from}
use Rattle.std.proofs.Common.{ap, sym, subst, ◌∙◌, arith}
use Rattle.std.proofs.lemmas.List.Sums.{sum_by-cons}
use Rattle.std.proofs.Math.ListN.{get_or-map}
use Rattle.std.specs.Option.{option_map_or}
use Rattle.std.proofs.lemmas.List.{length-map}
use Rattle.std.proofs.lemmas.List.Elements.{All-get_or}
use Rattle.std.proofs.lemmas.Option.{slice_get-get_or}
use Rattle.cst_core.specs.Element.{Element, subtree}
use Rattle.cst_core.specs.SyntaxElement.{element_of}
use Rattle.cst_core.specs.declared.element.SyntaxElement.{SyntaxElement}
use Rattle.green_tree.specs.Tree.{SyntaxTree, Token, Node}
use Rattle.edit_change.specs.Change.{payload}
use Rattle.edit_change.specs.NewTree.{payload_of}
use Rattle.cst_core.specs.Path.{counted_from}
use Rattle.green_tree.specs.Count.{counted}
use Rattle.edit_change.specs.Effort.{touched}
use Rattle.edit_change.specs.declared.change.Change.{Change}
use Rattle.edit_change.specs.TouchedNodes.{touched_each, Raises}

-- ---- one part after another
pub raises-none : (premise : Type 0) (n : ℕ) → n ≤ 18446744073709551615 → Raises premise 0 n n
raises-none premise n l = record {
  further = 0;
  at_most = omega arith;
  raised = omega (arith, l);
  exact = λ p. omega (arith, l);
}

pub raises-both : (premise : Type 0) (some more start middle after : ℕ) → Raises premise some start middle → Raises premise more middle after → Raises premise (some + more) start after
raises-both premise some more start middle after x y = record {
  further = x.further + y.further;
  at_most = omega (arith, x.at_most, y.at_most);
  raised = omega (arith, x.raised, y.raised);
  exact = λ p. omega (arith, x.exact p, y.exact p);
}

pub raises-weaker : (premise other : Type 0) (most start after : ℕ) → (other → premise) → Raises premise most start after → Raises other most start after
raises-weaker premise other most start after gives x = record {
  further = x.further;
  at_most = x.at_most;
  raised = x.raised;
  exact = λ o. x.exact (gives o);
}

pub raises-same : (premise : Type 0) (most other start after : ℕ) → most ≡ other → Raises premise most start after → Raises premise other start after
raises-same premise most other start after same x = subst (λ n. Raises premise n start after) same x

pub raises-built : (premise : Type 0) (most own start after : ℕ) → after ≤ start + most → after ≡ counted start own → (premise → after ≡ counted start most) → Raises premise most start after
raises-built premise most own start after at_most counts exact = record {
  further = min own most;
  at_most = omega arith;
  raised = omega (arith, at_most, counts);
  exact = exact;
}

-- ---- elements
nothing_touched : (t : SyntaxTree) → touched t [] ≡ 0
nothing_touched (Token k s) = refl
nothing_touched (Node k f) = refl

pub raises-empty : (es : List Element) → touched_each [] es ≡ 0
raises-empty [] = refl
raises-empty (e ∷ es) =
    omega (arith, sum_by-cons (λ x. touched (subtree x) []) e es, nothing_touched (subtree e), raises-empty es)

pub one-of : (P : Element → Type 0) (es : List SyntaxElement) (i : ℕ) (e : SyntaxElement) → i < length es → e ≡ get_or es i e → All P (map element_of es) → P (element_of e)
one-of P es i e l is all =
    subst P (get_or-map element_of es i e ∙ ap element_of (sym is)) (All-get_or P (map element_of es) i (element_of e) (omega (arith, l, length-map es element_of)) all)

pub payload-at : (cs : List Change) (o : ℕ) (change : Change) → o < length cs → change ≡ get_or cs o change → payload_of cs o ≡ payload change
payload-at cs o change l is = ap (λ x. option_map_or payload x []) (slice_get-get_or cs o change l ∙ ap (λ c. Some c) (sym is))

-- ---- by the changes, or by their numbers
pub by-number : {X : Type 0} (f : ℕ → ℕ) (n : ℕ) (xs : List X) → sum_by f (counted_from n (length xs)) ≡ sum_by (λ c. f c.0) (enumerate_from n xs)
by-number f n [] = refl
by-number {X} f n (x ∷ xs) =
    let next : suc n ≡ n + 1 = omega arith in
    sum_by-cons f n (counted_from (suc n) (length xs)) ∙ ap (λ m. f n + m) (by-number f (suc n) xs ∙ ap (λ k. sum_by (λ (c : ℕ × X). f c.0) (enumerate_from k xs)) next) ∙ sym (sum_by-cons (λ (c : ℕ × X). f c.0) (n, x) (enumerate_from (n + 1) xs))
