-- In a tree that no change brought anything to, nothing is changed.
use Rattle.std.specs.Prelude.{◌≡◌, ℕ, Bool, false, ◌&&◌, not, List, [], ◌∷◌, ◌++◌, filter, flat_map, Some, None, refl}
use Rattle.std.specs.Option.{option_map_or}
use Rattle.std.proofs.Common.{ap, ap₂, ◌∙◌}
use mathlib.Core.Path.{fun_ext}
use Rattle.cst_core.specs.Path.{Path}
use Rattle.cst_core.specs.Tree.{at, paths, label}
use Rattle.edit_change.specs.NewTree.{Origin, OriginTree}
use Rattle.edit_change.specs.Topmost.{holds_at, parent_holds}
use Rattle.edit_change.specs.Results.{is_brought, changed}

filter-none : {X : Type 0} (xs : List X) → filter (λ x. false) xs ≡ []
filter-none [] = refl
filter-none (x ∷ xs) = filter-none xs

holds-none : (t : OriginTree) (p : Path) (test : Origin → Bool) → ((o : Origin) → test o ≡ false) → holds_at test t p ≡ false
holds-none t p test none =
    elim (at t p) as (λ o. option_map_or (λ e. test (label e)) o false ≡ false) [ None ↦ refl | Some e ↦ none (label e) ]

changed-none : (is_free : ℕ → Bool) → ((c : ℕ) → is_free c ≡ false) → (t : OriginTree) → changed is_free t ≡ []
changed-none free none t =
    let brought : (o : Origin) → is_brought free o ≡ false = λ o. elim o.change as (λ c. option_map_or free c false ≡ false) [ None ↦ refl | Some c ↦ none c ] in
    ap (λ f. filter f (paths t)) (fun_ext (λ p. ap (λ b. b && not (parent_holds (is_brought free) t p)) (holds-none t p (is_brought free) brought))) ∙ filter-none (paths t)

pub all_changed-none : (is_free : ℕ → Bool) → ((c : ℕ) → is_free c ≡ false) → (ts : List OriginTree) → flat_map (changed is_free) ts ≡ []
all_changed-none free none [] = refl
all_changed-none free none (t ∷ ts) = ap₂ (λ xs ys. xs ++ ys) (changed-none free none t) (all_changed-none free none ts)
