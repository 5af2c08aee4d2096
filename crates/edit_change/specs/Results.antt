-- What is told of a new tree: which elements changes brought, where annotated ones are, and which node stands for an old one.
--     is_brought                    An origin names an independent change: the element comes from that change's payload.
--     changed                       The paths, in document order, of the elements that come from the payload of an independent change and
--                                   whose parent does not.
--     copies_of                     The paths, in document order, of the elements that were copied from an address. An element that stays
--                                   in place is copied from its old self.
--     paths_with                    Of annotated paths, those of one annotation, in order.
--     annotated                     For each registration in order: its annotation with the paths of the copies of the followed element.
--     stands_like, stand_in_path    What is at a path has the kind and the start of an old element, each start counted in its tree; the
--                                   first path of a node for which this holds.
use Rattle.std.specs.Prelude.{ℕ, nat_eq, ◌&&◌, Bool, false, List, map, filter, flat_map, find, Option}
use Rattle.std.specs.Option.{option_map_or}
use Rattle.cst_core.specs.Path.{Path}
use Rattle.cst_core.specs.Tree.{SyntaxTree, label, at, paths}
use Rattle.cst_core.specs.Order.{node_paths, start}
use Rattle.cst_core.specs.Element.{Address, Element, address, same_address, subtree}
use Rattle.edit_map.specs.Mapping.{Mapping, followed}
use Rattle.edit_change.specs.Topmost.{holds_at, topmost}
use Rattle.edit_change.specs.NewTree.{Origin, OriginTree}

-- ---- changed elements, where `is_free` says which changes have no owner
abbrev pub is_brought : (ℕ → Bool) → Origin → Bool
is_brought is_free o = option_map_or is_free o.change false

abbrev pub changed : (ℕ → Bool) → OriginTree → List Path
changed is_free t = topmost (is_brought is_free) t

-- ---- annotated elements
abbrev pub paths_with : ℕ → List (ℕ × Path) → List Path
paths_with annotation ns = map (λ n. n.1) (filter (λ n. nat_eq n.0 annotation) ns)

abbrev pub copies_of : OriginTree → Address → List Path
copies_of t a = filter (holds_at (λ o. same_address a o.address) t) (paths t)

-- a registration is an element and the number of an annotation
abbrev pub annotated : Mapping → List (Element × ℕ) → OriginTree → List (ℕ × Path)
annotated m registrations t = flat_map (λ r. map (λ p. (r.1, p)) (copies_of t (address (followed m r.0)))) registrations

-- ---- finding a node again
abbrev pub stands_like : Element → SyntaxTree → Path → Bool
stands_like old t p = option_map_or (λ e. nat_eq (label e) (label (subtree old))) (at t p) false && nat_eq (start t p) (start old.root old.path)

abbrev pub stand_in_path : Element → SyntaxTree → Option Path
stand_in_path old t = find (stands_like old t) (node_paths t)
