-- The copy of an address, and the pair that it comes from.
--     same_addresses                 addresses of equal number and path are equal
--     same_path-true, same_path-from, same_address-true, same_address-itself    what the tests of equality say
--     pair_of_copy                   the pair
use Rattle.std.specs.Prelude.{◌≡◌, true, false, cond, [], ◌∷◌, find, option_map, Some, All, refl}
use Rattle.std.specs.Cmp.Derive.{both_true}
use Rattle.std.proofs.Common.{ap₂}
use Rattle.std.proofs.lemmas.Bool.{and_parts, eqb-true, eq-eqb}
use Rattle.std.proofs.lemmas.Option.{none-some, same_Some}
use Rattle.std.proofs.lemmas.List.Elements.{All-head, All-tail}
use lib.Pointwise.{pointwise_decides}
use Rattle.cst_core.specs.Path.{Path, same_path}
use Rattle.cst_core.specs.Element.{Address, Element, address, same_address}
use Rattle.edit_map.specs.Mapping.{Mapping, copy}

pub same_addresses : (a b : Address) → a.number ≡ b.number → a.path ≡ b.path → a ≡ b
same_addresses a b n p = ap₂ (λ x y. record { number = x; path = y }) n p

decides : (p q : Path) → (same_path p q ≡ true → p ≡ q) × (p ≡ q → same_path p q ≡ true)
decides = pointwise_decides (λ x y. (eqb-true x y, eq-eqb x y))

pub same_path-true : (p q : Path) → same_path p q ≡ true → p ≡ q
same_path-true p q h = (decides p q).0 h

pub same_path-from : (p q : Path) → p ≡ q → same_path p q ≡ true
same_path-from p q h = (decides p q).1 h

pub same_address-true : (a b : Address) → same_address a b ≡ true → a ≡ b
same_address-true a b h =
    let parts = and_parts _ _ h in
    same_addresses a b (eqb-true a.number b.number parts.0) (same_path-true a.path b.path parts.1)

pub same_address-itself : (a : Address) → same_address a a ≡ true
same_address-itself a = both_true (eq-eqb a.number a.number refl) (same_path-from a.path a.path refl)

-- the copy of an address comes from a pair of that address
pub pair_of_copy : (P : Element × Element → Type 0) (m : Mapping) (x : Address) (c : Element) → All P m → copy m x ≡ Some c → (pair : Element × Element) × P pair × (address pair.0 ≡ x) × (pair.1 ≡ c)
pair_of_copy P [] x c all is = absurd (none-some c is)
pair_of_copy P (pair ∷ m) x c all is =
    (elim (same_address (address pair.0) x) as (λ b. same_address (address pair.0) x ≡ b → option_map (λ d. d.1) (cond b (Some pair) (find (λ d. same_address (address d.0) x) m)) ≡ Some c → (pair : Element × Element) × P pair × (address pair.0 ≡ x) × (pair.1 ≡ c)) [
      | true ↦ λ e this. (pair, All-head P pair m all, same_address-true (address pair.0) x e, same_Some pair.1 c this)
      | false ↦ λ _ that. pair_of_copy P m x c (All-tail P pair m all) that
    ]) refl is
