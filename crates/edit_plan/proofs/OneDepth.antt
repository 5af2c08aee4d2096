-- Changes of one depth: what is around one of them is in the region of none.
use Rattle.std.specs.Prelude.{◌≡◌, ℕ, nat_lt, Bool, true, false, not, cond, List, [], ◌∷◌, length, filter_map, None, All, refl}
use Rattle.std.specs.List.{AllByRecursion, list_all}
use Rattle.std.proofs.Common.{ap, sym, ◌∙◌}
use Rattle.std.proofs.lemmas.Bool.{and_parts, cases_Bool, not-true, or_from, true≢false}
use Rattle.std.proofs.lemmas.List.Elements.{All-from_recursion}
use mathlib.Core.Logic.{inl, inr}
use Rattle.cst_core.specs.Path.{Path, same_path, has_path, last_item}
use Rattle.edit_change.specs.declared.change.Change.{Change}
use Rattle.edit_change.specs.Nesting.{region, region_at, surroundings, is_dropped, owner}
use Rattle.edit_change.proofs.Lists.{all_weaker}
use Rattle.edit_change.proofs.Paths.{same_path-true}
use Rattle.edit_change.proofs.Positions.{all-fail}
use Rattle.edit_change.specs.RewritingLaws.{is_at_depth}

-- a path above a depth is none that is not
other_depth : (n : ℕ) (p q : Path) → nat_lt (length p) n ≡ true → not (nat_lt (length q) n) ≡ true → same_path p q ≡ false
other_depth n p q short long =
    elim (cases_Bool (same_path p q)) [
      | inl same ↦ absurd (true≢false (sym short ∙ ap (λ r. nat_lt (length r) n) (same_path-true p q same) ∙ not-true _ long))
      | inr other ↦ other
    ]

not_among : (n : ℕ) (p : Path) (qs : List Path) → nat_lt (length p) n ≡ true → list_all (λ q. not (nat_lt (length q) n)) qs ≡ true → has_path qs p ≡ false
not_among n p [] short long = refl
not_among n p (q ∷ qs) short long =
    let parts = and_parts _ _ long in
    or_from _ _ (other_depth n p q short parts.0) (not_among n p qs short parts.1)

module _ (n : ℕ) (cs : List Change) (all : AllByRecursion (λ c. is_at_depth n c ≡ true) cs) where
  none_around : (ps : List Path) → list_all (λ p. nat_lt (length p) n) ps ≡ true → filter_map (region_at cs) ps ≡ []
  none_around [] short = refl
  none_around (p ∷ ps) short =
      let parts = and_parts _ _ short in
      rw (all-fail (λ r. has_path (region r) p) cs (all_weaker (λ r. is_at_depth n r ≡ true) (λ r. has_path (region r) p ≡ false) cs (λ r at. not_among n p (region r) parts.0 (and_parts _ _ at).1) all)) (none_around ps parts.1)

  none_in : (b : Bool) → cond b None (last_item {X = ℕ} []) ≡ None
  none_in true = refl
  none_in false = refl

  pub own_nothing : All (λ c. owner cs c ≡ None) cs
  own_nothing =
      All-from_recursion (λ c. owner cs c ≡ None) cs (all_weaker (λ c. is_at_depth n c ≡ true) (λ c. owner cs c ≡ None) cs (λ c at. ap (λ ns. cond (is_dropped cs c) None (last_item ns)) (none_around (surroundings c) (and_parts _ _ at).0) ∙ none_in (is_dropped cs c)) all)
