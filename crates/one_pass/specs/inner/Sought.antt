-- Registered elements in document order, as they are sought in the trees that are rewritten. The mark of one is its number.
--     addresses, registered_at      the addresses of elements; the numbers of the registered elements that are at an address
--     as_registered                 one in code, by its number and its address
--     place_of, AreInOrder          the number of its tree, and then its path; these are one after another
--     begins_with, within           a path begins with another one; those at an address or below it
--     sought_at                     their marks, with the paths from there
--     below                         the address at a path below another one
--     IsTableOf                     those in code have below each address what is registered there
use Rattle.std.specs.Prelude.{◌≡◌, ℕ, Bool, List, ◌∷◌, ◌++◌, map, filter, take, drop, length}
use Rattle.std.specs.List.{enumerate_from}
use Rattle.cst_core.specs.Path.{Path, same_path}
use Rattle.cst_core.specs.Element.{Address, address, same_address}
use Rattle.cst_core.specs.inner.InTree.{address_path}
use Rattle.cst_core.specs.SyntaxElement.{element_of}
use Rattle.cst_core.specs.declared.element.SyntaxElement.{SyntaxElement}
use Rattle.one_pass.specs.inner.Marked.{Marking, marks_at}
use Rattle.one_pass.specs.inner.Sweep.{Ascending}
use Rattle.one_pass.specs.declared.sought.Registered.{Registered}

abbrev pub addresses : List SyntaxElement → List Address
addresses es = map (λ e. address (element_of e)) es

abbrev pub registered_at : List Address → Address → List ℕ
registered_at rs a = map (λ r. r.0) (filter (λ r. same_address r.1 a) (enumerate_from 0 rs))

-- ---- in code
abbrev pub as_registered : Registered → ℕ × Address
as_registered r = (r.mark.number, record { number = r.tree; path = r.mark.path.now })

abbrev pub place_of : Registered → Path
place_of r = r.tree ∷ r.mark.path.now

abbrev pub AreInOrder : List Registered → Type 0
AreInOrder xs = Ascending place_of xs

abbrev pub begins_with : Path → Path → Bool
begins_with q p = same_path (take (length q) p) q

abbrev pub within : List Registered → Address → List Registered
within xs a = filter (λ r. begins_with (address_path a) (place_of r)) xs

abbrev pub sought_at : List Registered → Address → List Marking
sought_at xs a = map (λ r. (r.mark.number, drop (length a.path) r.mark.path.now)) (within xs a)

abbrev pub below : Address → Path → Address
below a p = record { number = a.number; path = a.path ++ p }

abbrev pub IsTableOf : List Address → List Registered → Type 0
IsTableOf rs xs = (a : Address) (p : Path) → marks_at (sought_at xs a) p ≡ registered_at rs (below a p)
