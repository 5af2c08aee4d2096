-- Where registered elements stand in what changes give and in the new tree, as marks.
--     with_marks                    a tree labelled by the numbers of the registered elements that its elements were copied from
--     marks_given                   what a change gives, so labelled
--     element_sought, payload_sought      an element, rewritten, with the marks of registered elements; several
--     with_answer                     another answer for one change
--     paths_of_mark                 the paths of one mark
--     ArePathsOf                    n lists have the paths of these marks, each those of its number
use Rattle.std.specs.Prelude.{◌≡◌, ◌<◌, ℕ, cond, nat_eq, List, [], map, filter, get_or, Vec}
use Rattle.std.specs.Global.{Global}
use Rattle.cst_core.specs.Path.{Path}
use Rattle.cst_core.specs.Tree.{relabelled}
use Rattle.cst_core.specs.Element.{Address, Element, address, subtree}
use Rattle.edit_change.specs.Rewriting.{NumberedAim, rewritten}
use Rattle.one_pass.specs.inner.Marked.{MarkTree, Marking, wanted}
use Rattle.edit_change.specs.Topmost.{paths_of}
use Rattle.edit_change.specs.NewTree.{OriginTree, given}
use Rattle.one_pass.specs.inner.Sought.{sought_at, registered_at}
use Rattle.edit_change.specs.declared.change.Change.{Change}
use Rattle.one_pass.specs.declared.sought.Registered.{Registered}

abbrev pub with_marks : List Address → OriginTree → MarkTree
with_marks rs t = relabelled (λ o. registered_at rs o.address) t

abbrev pub marks_given : List Address → List Change → (ℕ → Path) → ℕ → List MarkTree
marks_given rs changes places c = map (with_marks rs) (given changes places c)

abbrev pub element_sought : List Registered → (ℕ → List MarkTree) → List NumberedAim → Element → MarkTree
element_sought index trees cs e = rewritten (wanted (sought_at index (address e))) trees cs [] (subtree e)

abbrev pub payload_sought : List Registered → (ℕ → List MarkTree) → List NumberedAim → List Element → List MarkTree
payload_sought index trees cs es = map (element_sought index trees cs) es

abbrev pub with_answer : (ℕ → List MarkTree) → ℕ → List MarkTree → ℕ → List MarkTree
with_answer trees c ts n = cond (nat_eq n c) ts (trees n)

-- ---- dealt out
abbrev pub paths_of_mark : ℕ → List Marking → List Path
paths_of_mark n ms = map (λ m. m.1) (filter (λ m. nat_eq n m.0) ms)

-- ---- lists of paths, for one number after another
abbrev pub ArePathsOf : List Marking → ℕ → List (Vec (Vec ℕ Global) Global) → Type 0
ArePathsOf ms count lists =
    (k : ℕ) (d : Vec (Vec ℕ Global) Global) → k < count → paths_of (get_or lists k d).items ≡ paths_of_mark k ms
