-- Paths of child slots, counted from 0. The empty path leads to the top.
--     Path                          The child slots on the way from the top of a tree to an element, counted from 0.
--     same_path, has_path           Two paths are equal; a list has this path.
--     precedes                      Document order: an element comes before everything below it, and what is below one child comes before
--                                   the next child.
--     parent_path, last_slot        The path without its last slot; that slot. For `.` they are `.` and 0.
--     next_path, previous_path      The path of the next sibling; of the previous one. `.` has neither, and slot 0 has no previous one.
--     above, up_to                  The paths of all elements above a path, from the top down; the same with the path itself at the end.
--     counted_from                  n numbers, each one greater than the one before it, from a first number on.
--     siblings                      The paths from a first sibling to a last one.
--     first_item, last_item         The first item of a list, if there is one; the last one.
--
-- The path `1/0` has the parent path `1` and the last slot 0. In `L` the paths before it in document order are `.`, `0`
-- and `1`.
use Rattle.std.specs.Prelude.{ℕ, zero, suc, ◌-◌, ◌&&◌, ◌||◌, Bool, true, false, List, [], ◌∷◌, ◌++◌, map, nat_eq, nat_lt, Option, Some, None}
use Rattle.std.specs.List.{list_any}
use lib.Pointwise.{pointwise}

abbrev pub Path : Type 0
Path = List ℕ

abbrev pub same_path : Path → Path → Bool
same_path p q = pointwise nat_eq p q

abbrev pub has_path : List Path → Path → Bool
has_path ps p = list_any (same_path p) ps

abbrev pub precedes : Path → Path → Bool
precedes p [] = false
precedes [] (j ∷ q) = true
precedes (i ∷ p) (j ∷ q) = nat_lt i j || (nat_eq i j && precedes p q)

abbrev pub parent_path : Path → Path
parent_path [] = []
parent_path (i ∷ []) = []
parent_path (i ∷ j ∷ p) = i ∷ parent_path (j ∷ p)

abbrev pub last_slot : Path → ℕ
last_slot [] = 0
last_slot (i ∷ []) = i
last_slot (i ∷ j ∷ p) = last_slot (j ∷ p)

-- the top has no sibling, and the first child none before it
abbrev pub next_path : Path → Option Path
next_path [] = None
next_path (i ∷ p) = Some (parent_path (i ∷ p) ++ suc (last_slot (i ∷ p)) ∷ [])

abbrev slot_back : Path → ℕ → Option Path
slot_back p zero = None
slot_back p (suc i) = Some (p ++ i ∷ [])

abbrev pub previous_path : Path → Option Path
previous_path p = slot_back (parent_path p) (last_slot p)

abbrev pub above : Path → List Path
above [] = []
above (i ∷ p) = [] ∷ map (λ q. i ∷ q) (above p)

abbrev pub up_to : Path → List Path
up_to p = above p ++ p ∷ []

abbrev pub counted_from : ℕ → ℕ → List ℕ
counted_from i zero = []
counted_from i (suc n) = i ∷ counted_from (suc i) n

abbrev pub siblings : Path → Path → List Path
siblings p q = map (λ i. parent_path p ++ i ∷ []) (counted_from (last_slot p) (suc (last_slot q) - last_slot p))

abbrev pub first_item : {X : Type 0} → List X → Option X
first_item [] = None
first_item (x ∷ xs) = Some x

abbrev pub last_item : {X : Type 0} → List X → Option X
last_item [] = None
last_item (x ∷ []) = Some x
last_item (x ∷ y ∷ xs) = last_item (y ∷ xs)
