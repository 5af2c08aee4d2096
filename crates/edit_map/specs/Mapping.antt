-- Which element of a younger tree is the copy of which one.
--     Mapping                       Pairs of an element and its copy, the newest first. The newest pair of an address wins.
--     copy, copied                  The copy of an address, if it has one; the address of the copy, or else the address itself.
--     mapped_elements               The elements of all pairs, originals and copies.
--     Rises, IsRising               A copy has a greater tree number than its original, and the same shape; every copy has.
--     child_address                 The address of the child in a slot.
--     StandsFor                     At this path of a payload is the place of an address. The paragraph under the table explains it.
--     path_in                       The path of a place in code, if there is one.
--     IsPlace                       A target has this place in a payload; if no path is named, it has none.
--     below_copy                    An element, where itself or an element above it is exchanged for a copy; the path below is kept.
--     step                          The lowest of an element and the elements above it that has a copy, exchanged for that copy; the path
--                                   below is kept.
--     Steps, IsFollowed             n steps lead from one element to another; some number of steps does, and no further step is possible.
--     followed, followed_within     The end of an element's steps, after at most as many as there are pairs; the element after at most n
--                                   steps.
--
-- `StandsFor`: at the path `.` a payload is the place of itself. Its child i is the place of every address whose copy
-- is that child, and of the child itself if the child has no copy. From such an address, the rest of a longer path
-- leads on in the same way.
--
-- Let `(7)` be an argument list of a later tree. With `R/1` mapped to child 1 of `(7)`, the place of `R/1` in `(7)` is
-- `1`. If the payload is that copy itself, `R/1` has no place in it. Without a mapping, an element has a place in a
-- payload of the same tree: `R/1` has the place `1` in `R`, and `.` in `R/1`.
--
-- A copy of a copy is no place, though following leads to it: with `R/2` mapped to `S/0`, and `S/0` to `V/0`, the
-- element `R/2` is followed to `V/0`, but has no place in `V`.
use Rattle.std.specs.Prelude.{◌≡◌, ℕ, zero, suc, ◌<◌, List, [], ◌∷◌, ◌++◌, map, length, drop, find, filter_map, Option, None, option_map, MatchOption, IsSomeAnd, All, Vec}
use Rattle.std.specs.Global.{Global}
use Rattle.std.specs.Option.{option_map_or}
use Rattle.cst_core.specs.Path.{Path, up_to, last_item}
use Rattle.cst_core.specs.Tree.{SameShape}
use Rattle.cst_core.specs.Element.{Address, Element, address, same_address, subtree}

abbrev pub Mapping : Type 0
Mapping = List (Element × Element)

abbrev pub copy : Mapping → Address → Option Element
copy m x = option_map (λ pair. pair.1) (find (λ pair. same_address (address pair.0) x) m)

abbrev pub copied : Mapping → Address → Address
copied m x = option_map_or address (copy m x) x

abbrev pub mapped_elements : Mapping → List Element
mapped_elements m = map (λ pair. pair.0) m ++ map (λ pair. pair.1) m

abbrev pub Rises : Element × Element → Type 0
Rises pair = (pair.0.number < pair.1.number) × SameShape (subtree pair.0) (subtree pair.1)

abbrev pub IsRising : Mapping → Type 0
IsRising m = All Rises m

-- ---- the place of a target in a payload
abbrev pub child_address : Address → ℕ → Address
child_address a i = record { number = a.number; path = a.path ++ i ∷ [] }

-- At the empty path a payload stands for itself. One step down, at child i, it stands for each address whose copy is child i,
-- and from there on down for all that stands for that address.
abbrev pub StandsFor : Mapping → Address → Path → Address → Type 0
StandsFor m r [] x = x ≡ r
StandsFor m r (i ∷ p) x = (y : Address) × (copied m y ≡ child_address r i) × StandsFor m y p x

abbrev pub path_in : Option (Vec ℕ Global) → Option Path
path_in place = option_map (λ v. v.items) place

abbrev pub IsPlace : Mapping → Address → Address → Option Path → Type 0
IsPlace m target payload place = MatchOption place ((p : Path) → StandsFor m payload p target → ⊥) (λ p. StandsFor m payload p target)

-- ---- following an element through the mapping
-- the copy c of the ancestor at p, and from there the path that leads from that ancestor to e
abbrev pub below_copy : Element → Path → Element → Element
below_copy e p c = record c { path = c.path ++ drop (length p) e.path }

-- of the ancestors and the element itself, the lowest that has a copy is exchanged
abbrev pub step : Mapping → Element → Option Element
step m e = last_item (filter_map (λ p. option_map (below_copy e p) (copy m (record { number = e.number; path = p }))) (up_to e.path))

abbrev pub Steps : Mapping → ℕ → Element → Element → Type 0
Steps m zero e f = e ≡ f
Steps m (suc n) e f = IsSomeAnd (step m e) (λ g. Steps m n g f)

pub record IsFollowed (m : Mapping) (e f : Element) : Type 0 where
  pub reached : (n : ℕ) × Steps m n e f
  pub ends : step m f ≡ None

abbrev pub followed_within : ℕ → Mapping → Element → Element
followed_within zero m e = e
followed_within (suc n) m e = option_map_or (followed_within n m) (step m e) e

-- Tree numbers rise with each step, so each pair of the mapping serves at most once.
abbrev pub followed : Mapping → Element → Element
followed m e = followed_within (length m) m e
