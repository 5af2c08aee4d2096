-- What the pass makes of the old root.
--     TellsNewTree                  the new tree, without its origins, where the copies of each of some elements are in it, and the paths of changed elements
--     IsOnePass, IsOnePassOf        the same of values in code; where the tree and its changes are values in code too
--     IsAlone                       one change replaces the root, and no other does; none does
--     KeepsTop                      one node stands in the place of the root
--     root_rewritten, FindsInRoot   what stands in the place of the root; a walk finds its marks
--     CountsRoot                    how a count of nodes is raised by what stands in the place of the root
--     IsAllBuilt                    each node whose children a change alters is there, in the old tree or in a payload, and stays
--     CountsAll, CountsAllOf        how the count is raised by the old tree and all payloads
use Rattle.std.specs.Prelude.{◌≡◌, ℕ, false, List, [], ◌∷◌, map, Option, Some, None}
use Rattle.cst_core.specs.Path.{Path}
use Rattle.cst_core.specs.Tree.{SyntaxTree}
use Rattle.cst_core.specs.Green.{branch_tree}
use Rattle.cst_core.specs.Element.{Element, address, subtree}
use Rattle.cst_core.specs.SyntaxElement.{element_of}
use Rattle.cst_core.specs.declared.element.SyntaxElement.{SyntaxElement}
use Rattle.edit_change.specs.inner.PathLists.{path_lists}
use Rattle.one_pass.specs.inner.Sought.{sought_at}
use Rattle.one_pass.specs.inner.OwnerTables.{AreGiven}
use Rattle.edit_change.specs.Results.{changed, copies_of}
use Rattle.edit_change.specs.inner.OneNode.{IsOneNode}
use Rattle.edit_change.specs.NewTree.{OriginTree, plain, is_free, independents, new_tree}
use Rattle.one_pass.specs.declared.marked_element.GivenTable.{GivenTable}
use Rattle.edit_change.specs.inner.KindOnly.{kind_only}
use Rattle.one_pass.specs.inner.Pass.{given_in, AreMarkedIn, FindsHere}
use Rattle.edit_change.specs.inner.Aimed.{aims_of}
use Rattle.one_pass.specs.inner.Marked.{MarkTree, marked, wanted}
use Rattle.edit_change.specs.Topmost.{paths_of}
use Rattle.edit_change.specs.declared.aimed.Aimed.{Aimed}
use Rattle.one_pass.specs.declared.mark.Walk.{Walk}
use Rattle.edit_change.specs.Rewriting.{NumberedAim, replacements_at, is_replaced, rewritten_whole}
use Rattle.edit_change.specs.Effort.{touched, parents_of}
use Rattle.one_pass.specs.inner.Built.{AreBuilt}
use Rattle.edit_change.specs.TouchedNodes.{Raises, touched_by}
use Rattle.edit_change.specs.declared.change.Change.{Change}
use Rattle.edit_change.specs.declared.planned.Planned.{Planned}
use Rattle.edit_change.specs.inner.OwnerPlaces.{places_in}
use Rattle.one_pass.specs.declared.sought.Registered.{Registered}
use Rattle.one_pass.specs.inner.GivenTables.{ArePayloadsBuilt}
use Rattle.one_pass.specs.declared.rewriting.OnePass.{OnePass}

module _ (root : Element) (changes : List Change) (places : ℕ → Path) where
  pub record TellsNewTree (es : List SyntaxElement) (tree : SyntaxTree) (copies : List (List Path)) (changed_paths : List Path) : Type 0 where
    pub made : OriginTree
    pub is_new : new_tree changes places root ≡ made ∷ []
    pub tree_is : tree ≡ plain made
    pub copies_are : copies ≡ map (λ e. copies_of made (address (element_of e))) es
    pub changed_is : changed_paths ≡ changed (is_free changes) made

  abbrev pub IsOnePass : List SyntaxElement → OnePass → Type 0
  IsOnePass es o = TellsNewTree es (branch_tree o.green) (path_lists o.copies.items) (paths_of o.changed.items)

  pub record IsAllBuilt : Type 0 where
    pub tree : AreBuilt (independents changes) (subtree root)
    pub payloads : ArePayloadsBuilt changes places

  abbrev pub CountsAll : ℕ → ℕ → Type 0
  CountsAll before after = Raises IsAllBuilt (touched_by changes places root) before after

-- ---- of a tree and its changes in code
abbrev pub IsOnePassOf : Planned → List SyntaxElement → OnePass → Type 0
IsOnePassOf p es o = IsOnePass p.root.now p.changes.now (places_in p.places.now) es o

abbrev pub CountsAllOf : Planned → ℕ → ℕ → Type 0
CountsAllOf p before after = CountsAll p.root.now p.changes.now (places_in p.places.now) before after

-- ---- what stands in the place of the root
abbrev pub IsAlone : List NumberedAim → Option ℕ → Type 0
IsAlone cs None = is_replaced cs [] ≡ false
IsAlone cs (Some c) = replacements_at cs [] ≡ c ∷ []

abbrev pub KeepsTop : Element → List Change → Type 0
KeepsTop root changes =
    (places : ℕ → Path) (table : GivenTable) → AreGiven changes places table → IsOneNode (rewritten_whole kind_only (given_in table) (independents changes) (subtree root))

module _ (root : Element) (aims : List Aimed) where
  abbrev pub root_rewritten : GivenTable → List SyntaxTree
  root_rewritten table = rewritten_whole kind_only (given_in table) (aims_of aims) (subtree root)

  abbrev pub FindsInRoot : GivenTable → List Registered → Walk → Walk → Type 0
  FindsInRoot table index before after =
      (trees : ℕ → List MarkTree) → AreMarkedIn table trees →
      (t : MarkTree) ×
      (rewritten_whole (wanted (sought_at index (address root))) trees (aims_of aims) (subtree root) ≡ t ∷ []) ×
      FindsHere before after (marked t)

  abbrev pub CountsRoot : ℕ → ℕ → Type 0
  CountsRoot before after =
      Raises (AreBuilt (aims_of aims) (subtree root)) (touched (subtree root) (parents_of (aims_of aims))) before after
