-- What the pass makes, from what it was told and what it answered.
--     PassTold                      what the pass was told, of a tree, its changes and registered elements, and the trees and marks that it answered
--     is_one                        one node stands in the place of the root
--     is_made                       tree, copies and changed paths are those of the new tree
use Rattle.std.specs.Prelude.{◌≡◌, ℕ, ◌<◌, List, [], ◌∷◌, map, length, slice_get, Some, None, get_or, Vec, refl}
use Rattle.std.specs.Global.{Global}
use Rattle.std.specs.Option.{option_map_or}
use Rattle.std.proofs.Common.{ap, ap₂, sym, subst, ◌∙◌}
use Rattle.std.proofs.lemmas.List.{length-map}
use Rattle.cst_core.specs.Path.{Path}
use Rattle.cst_core.specs.Tree.{SyntaxTree}
use Rattle.cst_core.specs.Element.{Element, address, subtree}
use Rattle.cst_core.specs.SyntaxElement.{element_of}
use Rattle.cst_core.specs.declared.element.SyntaxElement.{SyntaxElement}
use Rattle.edit_change.specs.Rewriting.{NumberedAim, rewritten_whole}
use Rattle.edit_change.specs.Topmost.{paths_of}
use Rattle.one_pass.specs.inner.Marked.{MarkTree, Marking, marked_from, wanted}
use Rattle.edit_change.specs.inner.KindOnly.{kind_only}
use Rattle.one_pass.specs.inner.Pass.{given_trees, AreMarkedIn, given_in}
use Rattle.one_pass.specs.declared.marked_element.GivenTable.{GivenTable}
use Rattle.one_pass.proofs.MarksGiven.{all-topped}
use Rattle.edit_change.specs.NewTree.{OriginTree, plain, given, independents, new_tree}
use Rattle.edit_change.specs.declared.change.Change.{Change}
use Rattle.one_pass.specs.inner.OwnerTables.{AreGiven}
use Rattle.one_pass.specs.inner.Marks.{marks_given, with_marks}
use Rattle.edit_change.specs.inner.PathLists.{path_lists}
use Rattle.one_pass.specs.inner.Root.{KeepsTop, TellsNewTree}
use Rattle.edit_change.specs.inner.OneNode.{IsOneNode}
use Rattle.one_pass.specs.inner.Sought.{addresses, sought_at, IsTableOf}
use Rattle.one_pass.specs.declared.sought.Registered.{Registered}
use Rattle.one_pass.proofs.CopiesFound.{paths_within, all-copies}
use Rattle.one_pass.proofs.MarksTold.{with_tops, marks_told, copies-told, changed-told}
use Rattle.one_pass.proofs.WholeTree.{plain-whole, one-made}

pub record PassTold (root : Element) (changes : List Change) (places : ℕ → Path) (es : List SyntaxElement) (trees : List SyntaxTree) (marks : List Marking) : Type 0 where
  pub index : List Registered
  pub sought : IsTableOf (addresses es) index
  pub given : GivenTable
  pub without_top : given.top ≡ None
  pub given_are : AreGiven changes places given
  pub marks_are : AreMarkedIn given (marks_given (addresses es) changes places)
  pub table : GivenTable
  pub with_top : table.top ≡ Some (length es)
  pub same_entries : table.entries.items ≡ given.entries.items
  pub aims : List NumberedAim
  pub aims_are : aims ≡ independents changes
  pub trees_are : trees ≡ rewritten_whole kind_only (given_in table) aims (subtree root)
  pub marks_answered : (gs : ℕ → List MarkTree) → AreMarkedIn table gs → marks ≡ marked_from 0 (rewritten_whole (wanted (sought_at index (address root))) gs aims (subtree root))

module _ (root : Element) (changes : List Change) (places : ℕ → Path) (es : List SyntaxElement) (trees : List SyntaxTree) (marks : List Marking) (told : PassTold root changes places es trees marks) where
  same-given : (c : ℕ) → given_in told.table c ≡ map plain (given changes places c)
  same-given c = ap (λ xs. given_trees (option_map_or (λ w. w.items) (slice_get xs c) [])) told.same_entries ∙ told.given_are c

  pub is_one : KeepsTop root changes → IsOneNode trees
  is_one keeps = subst IsOneNode (sym (told.trees_are ∙ ap (λ ds. rewritten_whole kind_only (given_in told.table) ds (subtree root)) told.aims_are)) (keeps places told.table same-given)

  -- the marks, as the definitions have them
  marks-are : marks ≡ marks_told (addresses es) changes places told.index root told.sought
  marks-are =
      let tops = with_tops (addresses es) changes places told.index root told.sought in
      let number : told.table.top ≡ Some (length (addresses es)) = told.with_top ∙ ap (λ n. Some n) (sym (length-map es (λ e. address (element_of e)))) in
      told.marks_answered tops (all-topped told.given told.table (length (addresses es)) (marks_given (addresses es) changes places) told.without_top number told.same_entries told.marks_are) ∙ ap (λ ds. marked_from 0 (rewritten_whole (wanted (sought_at told.index (address root))) tops ds (subtree root))) told.aims_are

  pub is_made : (tree : SyntaxTree) (copies : List (Vec (Vec ℕ Global) Global)) (paths : List Path) → trees ≡ tree ∷ [] → length copies ≡ length es → ((k : ℕ) (d : Vec (Vec ℕ Global) Global) → k < length es → paths_of (get_or copies k d).items ≡ paths_within k marks) → paths ≡ paths_within (length es) marks → TellsNewTree root changes places es tree (path_lists copies) paths
  is_made tree copies paths one long dealt changed_are =
      let rs = addresses es in
      let count : length rs ≡ length es = length-map es (λ e. address (element_of e)) in
      let new : (made : OriginTree) × (new_tree changes places root ≡ made ∷ []) × (tree ≡ plain made) = one-made (new_tree changes places root) tree (plain-whole changes places root (given_in told.table) same-given ∙ ap (λ ds. rewritten_whole kind_only (given_in told.table) ds (subtree root)) (sym told.aims_are) ∙ sym told.trees_are ∙ one) in
      let made = new.0 in
      let there : (k : ℕ) (d : Vec (Vec ℕ Global) Global) → k < length es → paths_of (get_or copies k d).items ≡ paths_within k (marked_from 0 (with_marks rs made ∷ [])) = λ k d l. dealt k d l ∙ ap (paths_within k) marks-are ∙ copies-told rs changes places told.index root told.sought k (subst (λ n. k < n) (sym count) l) ∙ ap (λ ts. paths_within k (marked_from 0 (map (with_marks rs) ts))) new.1 in
      record {
        made = made;
        is_new = new.1;
        tree_is = new.2;
        copies_are = all-copies es copies (marked_from 0 (with_marks rs made ∷ [])) made long there refl;
        changed_is = changed_are ∙ ap₂ paths_within (sym count) marks-are ∙ changed-told rs changes places told.index root told.sought made new.1;
      }
