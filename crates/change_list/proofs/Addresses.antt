-- The test of two element values: by their addresses alone.
use Rattle.std.specs.Prelude.{◌≡◌, true}
use Rattle.std.proofs.Common.{ap, ap₂}
use Rattle.std.proofs.lemmas.Bool.{and_parts, eqb-true, eq-eqb}
use lib.Pointwise.{pointwise_decides}
use Rattle.cst_core.specs.Path.{Path, same_path}
use Rattle.cst_core.specs.Element.{Element, address, same_address, same_element}

pub same_path-true : (p q : Path) → same_path p q ≡ true → p ≡ q
same_path-true p q h = (pointwise_decides (λ x y. (eqb-true x y, eq-eqb x y)) p q).0 h

pub same_path_from : (p q : Path) → p ≡ q → same_path p q ≡ true
same_path_from p q h = (pointwise_decides (λ x y. (eqb-true x y, eq-eqb x y)) p q).1 h

pub same_element-true : (e f : Element) → same_element e f ≡ true → address e ≡ address f
same_element-true e f h =
    let parts = and_parts _ _ h in
    ap₂ (λ n p. record { number = n; path = p }) (eqb-true e.number f.number parts.0) (same_path-true e.path f.path parts.1)

-- values of one address are told apart from any other value alike
pub same_element-right : (d e f : Element) → same_element e f ≡ true → same_element d e ≡ same_element d f
same_element-right d e f h = ap (same_address (address d)) (same_element-true e f h)

pub same_element-left : (d e f : Element) → same_element d e ≡ true → same_element d f ≡ same_element e f
same_element-left d e f h = ap (λ a. same_address a (address f)) (same_element-true d e h)
