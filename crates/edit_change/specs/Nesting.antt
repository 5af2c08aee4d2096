-- Which changes clash, and which lie inside what another one replaces.
--     pairs_with, pairs             The pairs of each lesser number with this one; all pairs of numbers below n, ordered by the second
--                                   number and then by the first.
--     clashes                       The changes of these two numbers share a target.
--     first_clash                   The first pair, in the order of `pairs`, that clashes. A list of changes with a clash is refused.
--                                   `clashes_with` gives it of two editors before they are merged.
--     region, region_of_one         The targets of a replacement, which include everything below them too, but none where it replaces one
--                                   token alone; the region of one target.
--     region_at                     The first change whose region has this path.
--     is_keeping                    A `Replace` of a node by a node: changes that aim into the old node move into the new one. Every other
--                                   region drops them.
--     surroundings                  The elements whose replacement drops or moves this change: an insert's anchor and the elements above
--                                   it, or the elements above a replacement's targets.
--     is_around                     The region of one change has one of the surroundings of another.
--     is_dropped                    Some region that is not keeping is around the change.
--     Numbered, undropped           A change with its number; the changes that are not dropped, with their numbers.
--     owner                         For a change that is not dropped: the replacement with the deepest region around it, if there is one.
--     is_independent, has_owner     The change is neither dropped nor owned; it is owned by the change of this number.
--
-- Replacing `R/1/0` and replacing `R/1` do not clash. In the deletions of `R/1`, `R/4`, `R/4` and `R/1`, in this order,
-- the first clash is that of the changes 1 and 2.
--
-- A token that is replaced or deleted by itself has no region, so what is inserted after it is kept. An insert after a
-- replaced node is inside the region. Nothing is around a replacement of the root.
--
-- Deleting `R/1` and inserting `x` after `R/1`: the insert is dropped, and the text is `(, 2)`. Deleting the comma
-- `R/2` and inserting `x` after it: `(1x 2)`.
use Rattle.std.specs.Prelude.{ℕ, Bool, true, false, ◌&&◌, not, cond, nat_eq, List, [], ◌∷◌, map, length, flat_map, filter_map, position, find, slice_get, Option, Some, None, is_none, filter}
use Rattle.std.specs.List.{list_any, enumerate_from}
use Rattle.std.specs.Option.{option_map_or}
use Rattle.cst_core.specs.Path.{Path, has_path, up_to, above, counted_from, last_item}
use Rattle.cst_core.specs.declared.element.SyntaxElement.{SyntaxElement}
use Rattle.cst_core.specs.declared.element.SyntaxElement.TheVariants.{Node, Token}
use Rattle.edit_change.specs.Position.{anchor}
use Rattle.edit_change.specs.Change.{targets, shared_targets}
use Rattle.edit_change.specs.ChangeAim.{aim_path}
use Rattle.edit_change.specs.declared.change.Change.{Change}
use Rattle.edit_change.specs.declared.change.Change.TheVariants.{Insert, InsertAll, Replace, ReplaceWithMany}

-- ---- clashes
abbrev pub pairs_with : ℕ → List (ℕ × ℕ)
pairs_with j = map (λ i. (i, j)) (counted_from 0 j)

abbrev pub pairs : ℕ → List (ℕ × ℕ)
pairs n = flat_map pairs_with (counted_from 0 n)

abbrev pub clashes : List Change → ℕ → ℕ → Bool
clashes cs i j = option_map_or (λ c. option_map_or (shared_targets c) (slice_get cs j) false) (slice_get cs i) false

abbrev pub first_clash : List Change → Option (ℕ × ℕ)
first_clash cs = find (λ p. clashes cs p.0 p.1) (pairs (length cs))

-- ---- regions
abbrev pub region_of_one : SyntaxElement → List Path
region_of_one (Node n) = n.path ∷ []
region_of_one (Token t) = []

abbrev pub region : Change → List Path
region (Replace t e) = region_of_one t
region (ReplaceWithMany t es) = region_of_one t
region c = targets c

abbrev pub is_keeping : Change → Bool
is_keeping (Replace (Node n) (Some (Node r))) = true
is_keeping _ = false

-- from the top down
abbrev pub surroundings : Change → List Path
surroundings (Insert at e) = up_to (anchor at).path
surroundings (InsertAll at es) = up_to (anchor at).path
surroundings c = above (aim_path c)

abbrev pub is_around : Change → Change → Bool
is_around r c = list_any (has_path (surroundings c)) (region r)

-- ---- dropped and owned changes
abbrev pub is_dropped : List Change → Change → Bool
is_dropped cs c = list_any (λ r. not (is_keeping r) && is_around r c) cs

abbrev pub Numbered : Type 0
Numbered = ℕ × Change

abbrev pub undropped : List Change → List Numbered
undropped cs = filter (λ c. not (is_dropped cs c.1)) (enumerate_from 0 cs)

-- the change whose region has this path
abbrev pub region_at : List Change → Path → Option ℕ
region_at cs p = position (λ r. has_path (region r) p) cs

-- The surroundings go from the top down, so the last that is in a region is in the deepest one.
abbrev pub owner : List Change → Change → Option ℕ
owner cs c = cond (is_dropped cs c) None (last_item (filter_map (region_at cs) (surroundings c)))

abbrev pub is_independent : List Change → Change → Bool
is_independent cs c = not (is_dropped cs c) && is_none (owner cs c)

abbrev pub has_owner : List Change → ℕ → Change → Bool
has_owner cs d c = option_map_or (nat_eq d) (owner cs c) false
