-- What code keeps of what changes give, and how it is entered, from the last change in document order to the first.
--     element_rewritten, each_rewritten      an element, rewritten by what a table has; several
--     FindsElement                  the marks of a rewritten element are found
--     AreMarkedEach                 given elements have the marks of rewritten ones
--     CountsElement, CountsEach     how a count of nodes is raised by an element that is rewritten; by several
--     ArePayloadsBuilt              in each payload, each node that an owned change alters is there and stays
--     CountsPayloads                how the count is raised by the payloads of all owners
--     TellsGiven, TellsMarks        a table has what each change gives, and its marks, where another one has what each change owns
use Rattle.std.specs.Prelude.{ℕ, List, [], map, sum_by, All, None, Vec}
use Rattle.std.specs.Global.{Global}
use Rattle.cst_core.specs.Path.{Path}
use Rattle.cst_core.specs.Tree.{SyntaxTree}
use Rattle.cst_core.specs.Element.{Element, Address, subtree}
use Rattle.cst_core.specs.SyntaxElement.{element_of}
use Rattle.cst_core.specs.declared.element.SyntaxElement.{SyntaxElement}
use Rattle.std.specs.List.{enumerate_from}
use Rattle.edit_change.specs.Rewriting.{NumberedAim, rewritten}
use Rattle.edit_change.specs.Effort.{touched, parents_of}
use Rattle.one_pass.specs.inner.Built.{AreBuilt}
use Rattle.edit_change.specs.inner.Aimed.{aims_of}
use Rattle.one_pass.specs.inner.Marked.{MarkTree, marked}
use Rattle.edit_change.specs.inner.KindOnly.{kind_only}
use Rattle.one_pass.specs.inner.Pass.{AreMarked, AreMarkedIn, given_in, FindsHere}
use Rattle.edit_change.specs.declared.aimed.Aimed.{Aimed}
use Rattle.one_pass.specs.declared.marked_element.GivenTable.{GivenTable}
use Rattle.one_pass.specs.declared.marked_element.MarkedElement.{MarkedElement}
use Rattle.edit_change.specs.declared.change.Change.{Change}
use Rattle.edit_change.specs.NewTree.{payload_of, dependents}
use Rattle.edit_change.specs.TouchedNodes.{touched_each, touched_in, Raises}
use Rattle.one_pass.specs.inner.Sought.{IsTableOf}
use Rattle.one_pass.specs.inner.Marks.{element_sought, payload_sought, marks_given}
use Rattle.one_pass.specs.inner.OwnerTables.{AreDependents, AreGiven}
use Rattle.one_pass.specs.declared.dependent.Dependent.{Dependent}
use Rattle.one_pass.specs.declared.sought.Registered.{Registered}
use Rattle.one_pass.specs.declared.mark.Walk.{Walk}

-- ---- elements, rewritten by what a table has
module _ (table : GivenTable) where
  abbrev pub element_rewritten : List Aimed → SyntaxElement → SyntaxTree
  element_rewritten aims e = rewritten kind_only (given_in table) (aims_of aims) [] (subtree (element_of e))

  abbrev pub each_rewritten : List NumberedAim → List Element → List SyntaxTree
  each_rewritten cs es = map (rewritten kind_only (given_in table) cs []) (map subtree es)

  abbrev pub FindsElement : List Aimed → List Registered → SyntaxElement → Walk → Walk → Type 0
  FindsElement aims index e before after =
      (trees : ℕ → List MarkTree) → AreMarkedIn table trees →
      FindsHere before after (marked (element_sought index trees (aims_of aims) (element_of e)))

  abbrev pub AreMarkedEach : List Registered → List NumberedAim → List Element → List MarkedElement → Type 0
  AreMarkedEach index cs es given =
      (trees : ℕ → List MarkTree) → AreMarkedIn table trees → AreMarked None given (payload_sought index trees cs es)

module _ (changes : List Change) (owned : List (Vec Dependent Global)) where
  -- ---- all changes
  abbrev pub TellsGiven : GivenTable → Type 0
  TellsGiven table = (places : ℕ → Path) → AreDependents changes places owned → AreGiven changes places table

  abbrev pub TellsMarks : List Registered → GivenTable → Type 0
  TellsMarks index table =
      (places : ℕ → Path) (rs : List Address) → AreDependents changes places owned → IsTableOf rs index →
      AreMarkedIn table (marks_given rs changes places)

-- ---- nodes that are built
abbrev pub CountsElement : List Aimed → SyntaxElement → ℕ → ℕ → Type 0
CountsElement aims e before after =
    let tree = subtree (element_of e) in
    Raises (AreBuilt (aims_of aims) tree) (touched tree (parents_of (aims_of aims))) before after

abbrev pub CountsEach : List NumberedAim → List Element → ℕ → ℕ → Type 0
CountsEach aims es before after = Raises (All (λ e. AreBuilt aims (subtree e)) es) (touched_each aims es) before after

abbrev pub ArePayloadsBuilt : List Change → (ℕ → Path) → Type 0
ArePayloadsBuilt changes places =
    (c : ℕ) → All (λ e. AreBuilt (dependents changes places c) (subtree e)) (payload_of changes c)

module _ (changes : List Change) (owned : List (Vec Dependent Global)) where
  abbrev pub CountsPayloads : ℕ → ℕ → Type 0
  CountsPayloads before after =
      (places : ℕ → Path) → AreDependents changes places owned →
      Raises (ArePayloadsBuilt changes places) (sum_by (λ c. touched_in changes places c.0) (enumerate_from 0 changes)) before after
