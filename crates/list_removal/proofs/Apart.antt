-- Lists of paths that have none in common.
--     same_path-true             paths that a test calls one are one
--     all_weaker                 what follows from what all have, all have
--     none-is                    a list of one, which does not pass, has no first that passes
--     apart                      where no path of one list is in the other, none of the other is in the one
use Rattle.std.specs.Prelude.{◌≡◌, ◌&&◌, Bool, true, false, List, [], ◌∷◌, position, None, refl}
use Rattle.std.specs.List.{AllByRecursion, list_any}
use Rattle.std.specs.Cmp.{nat_eq_equiv}
use Rattle.std.proofs.Common.{ap₂, ◌∙◌}
use Rattle.std.proofs.lemmas.Bool.{and_parts, or_parts, or_from, eqb-true}
use Rattle.cst_core.specs.Path.{Path, same_path, has_path}

pub same_path-true : (p q : Path) → same_path p q ≡ true → p ≡ q
same_path-true [] [] h = refl
same_path-true [] (j ∷ q) h = cc
same_path-true (i ∷ p) [] h = cc
same_path-true (i ∷ p) (j ∷ q) h =
    let parts = and_parts _ _ h in
    ap₂ (λ k r. k ∷ r) (eqb-true i j parts.0) (same_path-true p q parts.1)

same-turned : (p q : Path) → same_path p q ≡ same_path q p
same-turned [] [] = refl
same-turned [] (j ∷ q) = refl
same-turned (i ∷ p) [] = refl
same-turned (i ∷ p) (j ∷ q) = ap₂ (λ a b. a && b) (nat_eq_equiv.symm i j) (same-turned p q)

pub all_weaker : {X : Type 0} (P Q : X → Type 0) (xs : List X) → ((x : X) → P x → Q x) → AllByRecursion P xs → AllByRecursion Q xs
all_weaker P Q [] h all = tt
all_weaker P Q (x ∷ xs) h all = (h x all.0, all_weaker P Q xs h all.1)

pub none-is : {X : Type 0} (test : X → Bool) (x : X) → test x ≡ false → position test (x ∷ []) ≡ None
none-is test x fails = rw fails refl

-- ---- two lists
not-in : (p : Path) (ps : List Path) → AllByRecursion (λ r. same_path r p ≡ false) ps → has_path ps p ≡ false
not-in p [] all = refl
not-in p (r ∷ ps) all = or_from _ _ (same-turned p r ∙ all.0) (not-in p ps all.1)

pub apart : (ps qs : List Path) → AllByRecursion (λ p. has_path qs p ≡ false) ps → list_any (has_path ps) qs ≡ false
apart ps [] all = refl
apart ps (q ∷ qs) all =
    or_from _ _ (not-in q ps (all_weaker (λ p. has_path (q ∷ qs) p ≡ false) (λ p. same_path p q ≡ false) ps (λ p none. (or_parts _ _ none).0) all)) (apart ps qs (all_weaker (λ p. has_path (q ∷ qs) p ≡ false) (λ p. has_path qs p ≡ false) ps (λ p none. (or_parts _ _ none).1) all))
