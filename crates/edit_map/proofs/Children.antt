-- What a child is, by its path without the last slot.
use Rattle.std.specs.Prelude.{◌≡◌, ℕ, [], ◌∷◌, ◌++◌, ◌↔◌, IsTrue}
use Rattle.std.proofs.Common.{ap, sym, ◌∙◌}
use Rattle.cst_core.specs.Path.{Path, same_path, parent_path}
use Rattle.cst_core.specs.Element.{Element, IsChild}
use Rattle.cst_core.proofs.LastSlot.{parent_path-push}
use Rattle.edit_map.proofs.Copies.{same_path-true, same_path-from}

pushed-not-empty : (p : Path) (i : ℕ) → p ++ i ∷ [] ≡ [] → ⊥
pushed-not-empty [] i e = cc
pushed-not-empty (j ∷ p) i e = cc

pub child-by-front : (parent e : Element) (front : Path) (slot : ℕ) → e.number ≡ parent.number → e.path ≡ front ++ slot ∷ [] → IsTrue (same_path front parent.path) ↔ IsChild parent e
child-by-front parent e front slot number path =
    let above : parent_path e.path ≡ front = ap parent_path path ∙ parent_path-push front slot in (
      λ same. (number, λ none. pushed-not-empty front slot (sym path ∙ none), above ∙ same_path-true front parent.path same),
      λ child. same_path-from front parent.path (sym above ∙ child.2),
    )
