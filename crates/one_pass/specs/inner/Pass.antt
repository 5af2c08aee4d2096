-- What the pass is told: of what is kept the kinds alone, and of what changes give elements and their marks.
--     own_marks                     the mark of a top, if there is one
--     marks_there                   the marks of a given element: its top's, and its own
--     AreMarked                     given elements have the marks of these trees
--     given_trees                   given elements, as trees
--     entry_in, given_in            what a change gives, from a table by its number, and that as trees: nothing where the table has none
--     AreMarkedIn                   what each change gives has the marks of these trees
--     topped                        a tree with one mark more at its top
--     marks_at_path                 the marks of a given element, which stands at a path
--     Puts                          trees that are put after others
--     FindsNext                     a walk finds the marks of trees that are put next
--     FindsChange                   it finds those of what a change gives
--     TouchesAtMost, CountsBuilt    how a count of built nodes rises
--     CountsTouched                 how it rises where all that is touched is built
--     green_rewritten               the tree that a pass makes
--     FindsHere                     a walk finds marks, whose paths are counted from its own
--     FindsRewritten                it finds those of a rewritten element
use Rattle.edit_change.specs.inner.KindOnly.{kind_only}
use Rattle.std.specs.Prelude.{◌≡◌, ◌≤◌, ◌+◌, ℕ, List, [], ◌∷◌, ◌++◌, map, length, slice_get, Option, Some, None, Vec}
use Rattle.std.specs.Global.{Global}
use Rattle.std.specs.Option.{option_map_or}
use Rattle.green_tree.specs.Path.{Path}
use Rattle.green_tree.specs.Tree.{Token, Node, SyntaxTree}
use Rattle.green_tree.specs.GreenElement.{element_tree, element_trees}
use Rattle.green_tree.specs.declared.green.GreenElement.{GreenElement}
use Rattle.green_tree.specs.Count.{counted}
use Rattle.edit_change.specs.Effort.{touched, parents_of}
use Rattle.one_pass.specs.inner.Built.{nodes_built, AreBuilt}
use Rattle.edit_change.specs.Rewriting.{rewritten}
use Rattle.edit_change.specs.inner.Aimed.{aims_of}
use Rattle.one_pass.specs.inner.Marked.{MarkTree, Marking, marked, marked_from, mark_below, marks_of, marks_seen, wanted, Finds}
use Rattle.edit_change.specs.declared.aimed.Aimed.{Aimed}
use Rattle.one_pass.specs.declared.mark.Walk.{Walk}
use Rattle.one_pass.specs.declared.mark.Sought.{Sought}
use Rattle.one_pass.specs.declared.marked_element.MarkedElement.{MarkedElement}
use Rattle.one_pass.specs.declared.marked_element.GivenTable.{GivenTable}

abbrev pub own_marks : Option ℕ → List Marking
own_marks None = []
own_marks (Some n) = (n, []) ∷ []

abbrev pub marks_there : Option ℕ → MarkedElement → List Marking
marks_there top e = own_marks top ++ marks_of e.marks.items

abbrev pub AreMarked : Option ℕ → List MarkedElement → List MarkTree → Type 0
AreMarked top es ts = map marked ts ≡ map (marks_there top) es

abbrev pub given_trees : List MarkedElement → List SyntaxTree
given_trees es = map (λ e. element_tree e.element) es

abbrev pub entry_in : GivenTable → ℕ → List MarkedElement
entry_in table c = option_map_or (λ v. v.items) (slice_get table.entries.items c) []

abbrev pub given_in : GivenTable → ℕ → List SyntaxTree
given_in table c = given_trees (entry_in table c)

abbrev pub AreMarkedIn : GivenTable → (ℕ → List MarkTree) → Type 0
AreMarkedIn table trees = (c : ℕ) → AreMarked table.top (entry_in table c) (trees c)

abbrev pub topped : ℕ → MarkTree → MarkTree
topped n (Token l s) = Token (n ∷ l) s
topped n (Node l f) = Node (n ∷ l) f

-- ---- what is put into the new tree, and found
abbrev pub marks_at_path : Path → Option ℕ → MarkedElement → List Marking
marks_at_path path top e = map (mark_below path) (marks_there top e)

abbrev pub Puts : Vec GreenElement Global → Vec GreenElement Global → List SyntaxTree → Type 0
Puts before after ts = element_trees after.items ≡ element_trees before.items ++ ts

-- below the node at the path of a walk, which has these children so far
module _ (before : Walk) (out : Vec GreenElement Global) (after : Walk) where
  abbrev pub FindsNext : List MarkTree → Type 0
  FindsNext ts = Finds before.found after.found (map (mark_below before.path.items) (marked_from (length out.items) ts))

  abbrev pub FindsChange : GivenTable → ℕ → Type 0
  FindsChange table c = (trees : ℕ → List MarkTree) → AreMarkedIn table trees → FindsNext (trees c)

-- ---- what the pass makes of an element
abbrev pub TouchesAtMost : List Aimed → GreenElement → ℕ → ℕ → Type 0
TouchesAtMost aims e before after = after ≤ before + touched (element_tree e) (parents_of (aims_of aims))

abbrev pub CountsBuilt : List Aimed → GreenElement → ℕ → ℕ → Type 0
CountsBuilt aims e before after = after ≡ counted before (nodes_built (aims_of aims) (element_tree e))

abbrev pub CountsTouched : List Aimed → GreenElement → ℕ → ℕ → Type 0
CountsTouched aims e before after =
    AreBuilt (aims_of aims) (element_tree e) →
    after ≡ counted before (touched (element_tree e) (parents_of (aims_of aims)))

abbrev pub green_rewritten : GivenTable → List Aimed → GreenElement → SyntaxTree
green_rewritten table aims e = rewritten kind_only (given_in table) (aims_of aims) [] (element_tree e)

-- ---- where marks are, from the path of a walk on
abbrev pub FindsHere : Walk → Walk → List Marking → Type 0
FindsHere before after ms = Finds before.found after.found (map (mark_below before.path.items) ms)

module _ (table : GivenTable) (aims : List Aimed) (sought : List Sought) where
  abbrev pub FindsRewritten : GreenElement → Walk → Walk → Type 0
  FindsRewritten e before after =
      (trees : ℕ → List MarkTree) → AreMarkedIn table trees →
      FindsHere before after (marked (rewritten (wanted (marks_seen 0 sought)) trees (aims_of aims) [] (element_tree e)))
