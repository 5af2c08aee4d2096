-- What a plan makes of a tree, from what its pass is told.
--     plain-whole                   without origins, the new tree is what the pass makes
--     changed-whole                 the changed paths are those of what is given
--     one-made                      where the pass makes one tree, there is one new tree
use Rattle.std.specs.Prelude.{◌≡◌, ℕ, suc, Bool, true, List, [], ◌∷◌, ◌++◌, map, filter, flat_map, length, slice_get, Some, None, refl, false}
use Rattle.std.specs.List.{AllByRecursion, enumerate_from}
use Rattle.std.specs.Option.{option_map_or}
use Rattle.std.proofs.Common.{ap, ap₂, sym, ◌∙◌, arith}
use Rattle.std.proofs.lemmas.Option.{same_Some}
use mathlib.Core.Path.{fun_ext}
use Rattle.cst_core.specs.Path.{Path, first_item}
use Rattle.cst_core.specs.Tree.{Tree, SyntaxTree, relabelled}
use Rattle.cst_core.specs.Element.{Element, address, subtree}
use Rattle.edit_change.specs.inner.KindOnly.{kind_only}
use Rattle.edit_change.specs.Rewriting.{numbers, rewritten_whole}
use Rattle.edit_change.specs.Topmost.{topmost}
use Rattle.edit_change.specs.Nesting.{is_independent}
use Rattle.edit_change.specs.NewTree.{OriginTree, plain, origin, change_aims, given, independents, is_free, new_tree}
use Rattle.edit_change.specs.Results.{changed}
use Rattle.edit_change.specs.declared.change.Change.{Change}
use Rattle.edit_change.proofs.BroughtTops.{mark, marked, marked-free}
use Rattle.edit_change.proofs.Lists.{all_filter, all_weaker, all_enumerated}
use Rattle.edit_change.proofs.Relabelled.{map-rewritten_whole, topmost-relabelled}
use Rattle.edit_change.proofs.GivenTrees.{whole-agree}

-- what is kept is labelled as not given
abbrev pub not_given : Path → ℕ → Bool
not_given p k = false

module _ (cs : List Change) (places : ℕ → Path) where
  -- ---- the tree
  pub plain-whole : (root : Element) (table : ℕ → List SyntaxTree) → ((c : ℕ) → table c ≡ map plain (given cs places c)) → map plain (new_tree cs places root) ≡ rewritten_whole kind_only table (independents cs) (subtree root)
  plain-whole root table is =
      map-rewritten_whole (λ o. o.kind) (origin (address root) None) (given cs places) (independents cs) (subtree root) ∙ ap (λ g. rewritten_whole kind_only g (independents cs) (subtree root)) (fun_ext (λ c. sym (is c)))

  -- ---- the changed paths
  topmost-map : {L M : Type 0} (h : L → M) (test : M → Bool) (ts : List (Tree L)) → flat_map (topmost test) (map (relabelled h) ts) ≡ flat_map (topmost (λ l. test (h l))) ts
  topmost-map h test [] = refl
  topmost-map h test (t ∷ ts) = ap₂ (λ x y. x ++ y) (topmost-relabelled h test t) (topmost-map h test ts)

  free-numbers : AllByRecursion (λ n. is_free cs n ≡ true) (numbers (independents cs))
  free-numbers =
      all-numbers (filter (λ d. is_independent cs d.1) (enumerate_from 0 cs)) (all_filter (λ d. slice_get cs d.0 ≡ Some d.1) (λ d. is_independent cs d.1) (enumerate_from 0 cs) (all_enumerated cs))
    where
      all-numbers : (ds : List (ℕ × Change)) → AllByRecursion (λ d. (slice_get cs d.0 ≡ Some d.1) × (is_independent cs d.1 ≡ true)) ds → AllByRecursion (λ n. is_free cs n ≡ true) (numbers (change_aims ds))
      all-numbers [] a = tt
      all-numbers (d ∷ ds) a = (ap (λ o. option_map_or (is_independent cs) o false) a.0.0 ∙ a.0.1, all-numbers ds a.1)

  pub changed-whole : (root : Element) → flat_map (changed (is_free cs)) (new_tree cs places root) ≡ flat_map (topmost (λ b. b)) (rewritten_whole not_given (marked cs places) (independents cs) (subtree root))
  changed-whole root =
      let agree : AllByRecursion (λ n. map (relabelled (mark cs)) (given cs places n) ≡ marked cs places n) (numbers (independents cs)) = all_weaker (λ n. is_free cs n ≡ true) (λ n. map (relabelled (mark cs)) (given cs places n) ≡ marked cs places n) (numbers (independents cs)) (λ n free. marked-free cs places n free) free-numbers in
      sym (topmost-map (mark cs) (λ b. b) (new_tree cs places root)) ∙ ap (flat_map (topmost (λ b. b))) (map-rewritten_whole (mark cs) (origin (address root) None) (given cs places) (independents cs) (subtree root) ∙ whole-agree not_given (λ n. map (relabelled (mark cs)) (given cs places n)) (marked cs places) (independents cs) agree (subtree root))

-- ---- one tree
pub one-made : (ts : List OriginTree) (t : SyntaxTree) → map plain ts ≡ t ∷ [] → (made : OriginTree) × (ts ≡ made ∷ []) × (t ≡ plain made)
one-made [] t h = cc
one-made (made ∷ []) t h = (made, refl, sym (same_Some (plain made) t (ap first_item h)))
one-made (made ∷ other ∷ ts) t h = absurd (suc-not-one (ap length h))
  where
    suc-not-one : {n : ℕ} → suc (suc n) ≡ 1 → ⊥
    suc-not-one e = omega (arith, e)
