-- Marked elements: trees whose labels are lists of numbers, here called marks, and where each mark stands.
--     MarkTree, Marking             such a tree; a mark and the path of an element that has it
--     marks_on                      the marks of the element at a path
--     marked                        each mark with the path of its element, in document order
--     mark_below                    the same from an element at a path up
--     marked_from                   of trees that stand side by side, the first of them in this slot
--     mark_of, marks_of             a mark in code and where it stands; a list of these
--     mark_seen, marks_seen         a sought mark in code, and the path where it is sought, as it is seen from a node so many slots down; a list of these
--     marks_at, wanted              the marks sought at a path; each kept element is labelled by these
--     leads, kept_in                a path leads to a part of a tree; the marks whose paths do
--     seen_below, sought_below      a sought mark in a child slot or below, with that slot dropped; of these marks those that there are
--     InPathOrder                   the paths where marks are sought are in document order
--     is_before_child               a path ends here, or leads into a child before a slot
--     BeforeChild, FromChild        all marks are sought there; in children from the slot on
--     Finds                         marks that are found further
use Rattle.std.specs.Prelude.{◌≡◌, ℕ, suc, Bool, true, false, cond, nat_eq, nat_lt, List, [], ◌∷◌, ◌++◌, map, filter, flat_map, drop, Vec}
use Rattle.std.specs.List.{AllByRecursion}
use Rattle.std.specs.Global.{Global}
use Rattle.std.specs.Option.{option_map_or, is_some}
use Rattle.green_tree.specs.Path.{Path, same_path}
use Rattle.green_tree.specs.Tree.{Tree, label, at, paths}
use Rattle.one_pass.specs.inner.Sweep.{Ascending}
use Rattle.one_pass.specs.declared.mark.Mark.{Mark}
use Rattle.one_pass.specs.declared.mark.Sought.{Sought}

abbrev pub MarkTree : Type 0
MarkTree = Tree (List ℕ)

abbrev pub Marking : Type 0
Marking = ℕ × Path

abbrev pub marks_on : MarkTree → Path → List ℕ
marks_on t p = option_map_or label (at t p) []

abbrev pub marked : MarkTree → List Marking
marked t = flat_map (λ p. map (λ m. (m, p)) (marks_on t p)) (paths t)

abbrev pub mark_below : Path → Marking → Marking
mark_below p m = (m.0, p ++ m.1)

abbrev pub marked_from : ℕ → List MarkTree → List Marking
marked_from i [] = []
marked_from i (t ∷ ts) = map (mark_below (i ∷ [])) (marked t) ++ marked_from (suc i) ts

-- ---- in code
abbrev pub mark_of : Mark → Marking
mark_of m = (m.number, m.path.items)

abbrev pub marks_of : List Mark → List Marking
marks_of ms = map mark_of ms

abbrev pub mark_seen : ℕ → Sought → Marking
mark_seen depth s = (s.number, drop depth s.path.now)

abbrev pub marks_seen : ℕ → List Sought → List Marking
marks_seen depth xs = map (mark_seen depth) xs

-- ---- what is kept
abbrev pub marks_at : List Marking → Path → List ℕ
marks_at ms p = map (λ m. m.0) (filter (λ m. same_path p m.1) ms)

abbrev pub wanted : List Marking → Path → ℕ → List ℕ
wanted ms p k = marks_at ms p

abbrev pub leads : {L : Type 0} → Tree L → Path → Bool
leads t p = is_some (at t p)

abbrev pub kept_in : {L : Type 0} → Tree L → List Marking → List Marking
kept_in t ms = filter (λ m. leads t m.1) ms

abbrev pub seen_below : ℕ → ℕ → Path → List Marking
seen_below i n [] = []
seen_below i n (j ∷ p) = cond (nat_eq i j) ((n, p) ∷ []) []

abbrev pub sought_below : ℕ → List Marking → List Marking
sought_below i ms = flat_map (λ m. seen_below i m.0 m.1) ms

-- ---- which child they are sought in
abbrev pub InPathOrder : List Marking → Type 0
InPathOrder ms = Ascending (λ (m : Marking). m.1) ms

abbrev pub is_before_child : ℕ → Path → Bool
is_before_child slot [] = true
is_before_child slot (i ∷ p) = nat_lt i slot

abbrev pub BeforeChild : ℕ → List Marking → Type 0
BeforeChild slot ms = AllByRecursion (λ m. is_before_child slot m.1 ≡ true) ms

abbrev pub FromChild : ℕ → List Marking → Type 0
FromChild slot ms = AllByRecursion (λ m. is_before_child slot m.1 ≡ false) ms

-- ---- what a walk has found so far
abbrev pub Finds : Vec Mark Global → Vec Mark Global → List Marking → Type 0
Finds before after ms = marks_of after.items ≡ marks_of before.items ++ ms
