-- Tests of paths, and what their answers say.
use Rattle.std.specs.Prelude.{◌≡◌, suc, true, false, not, nat_eq, List, [], ◌∷◌, length, refl}
use Rattle.std.specs.List.{list_any}
use Rattle.std.proofs.Common.{ap, sym, ◌∙◌, arith}
use Rattle.std.proofs.lemmas.Bool.{eqb-true, eq-eqb, true≢false, false≢true, true_from_ne_false, or_cases, or_left, or_right}
use mathlib.Core.Logic.{inl, inr}
use lib.Pointwise.{pointwise_decides}
use Rattle.cst_core.specs.Path.{Path, same_path, has_path}

decides : (p q : Path) → (same_path p q ≡ true → p ≡ q) × (p ≡ q → same_path p q ≡ true)
decides = pointwise_decides (λ x y. (eqb-true x y, eq-eqb x y))

pub same_path-true : (p q : Path) → same_path p q ≡ true → p ≡ q
same_path-true p q h = (decides p q).0 h

pub same_path_from : (p q : Path) → p ≡ q → same_path p q ≡ true
same_path_from p q h = (decides p q).1 h

-- ---- answers of tests
pub is-empty : (p : Path) → nat_eq (length p) 0 ≡ true → p ≡ []
is-empty [] h = refl
is-empty (i ∷ p) h = absurd (omega (arith, eqb-true (suc (length p)) 0 h))

pub not-empty : (p : Path) → nat_eq (length p) 0 ≡ false → p ≡ [] → ⊥
not-empty p h none = true≢false (sym (ap (λ q. nat_eq (length q) 0) none) ∙ h)

pub same-from-ne : (p q : Path) → not (same_path p q) ≡ false → p ≡ q
same-from-ne p q h = same_path-true p q (true_from_ne_false (same_path p q) (λ k. true≢false (sym (ap not k) ∙ h)))

pub differ-from-ne : (p q : Path) → not (same_path p q) ≡ true → p ≡ q → ⊥
differ-from-ne p q h same = true≢false (sym h ∙ ap not (same_path_from p q same))

-- ---- two lists with a path in common
pub meets : (ps qs : List Path) (p : Path) → has_path ps p ≡ true → has_path qs p ≡ true → list_any (has_path ps) qs ≡ true
meets ps [] p h k = absurd (false≢true k)
meets ps (q ∷ qs) p h k =
    elim (or_cases (same_path p q) (has_path qs p) k) [
      | inl here ↦ or_left (has_path ps q) (list_any (has_path ps) qs) (ap (has_path ps) (sym (same_path-true p q here)) ∙ h)
      | inr there ↦ or_right (has_path ps q) (list_any (has_path ps) qs) (meets ps qs p h there)
    ]
