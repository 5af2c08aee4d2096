-- Changes of the worked examples, made from element values by the forms of their trees, and what they come to.
use Rattle.std.specs.Prelude.{ℕ, List, [], ◌∷◌, flat_map, map, unwrap_or, cond, nat_eq, Option, Some, None}
use Rattle.cst_core.specs.Path.{Path}
use Rattle.cst_core.specs.Tree.{SyntaxTree, text}
use Rattle.cst_core.specs.Element.{Element}
use Rattle.cst_core.specs.SyntaxElement.{syntax_of}
use Rattle.edit_map.proofs.Rows.{element_of_tree}
use Rattle.edit_map.proofs.RowTrees.{tree_U, tree_X, tree_Y, tree_V, tree_E, tree_F, tree_Z, tree_S1, tree_S3}
use Rattle.edit_change.specs.Position as place
use Rattle.edit_change.specs.Nesting.{owner}
use Rattle.edit_change.specs.NewTree.{new_tree, is_free}
use Rattle.edit_change.specs.Results.{changed}
use Rattle.edit_change.specs.declared.position.Position.{Position}
use Rattle.edit_change.specs.PositionForm.{FirstChild}
use Rattle.edit_change.specs.declared.change.Change.{Change}
use Rattle.edit_change.specs.declared.change.Change.TheVariants.{Insert, InsertAll, Replace, ReplaceWithMany, ReplaceAll}

-- ---- positions
abbrev pub after : Element → Position
after e = unwrap_or (place.after (syntax_of e)) (FirstChild e)

abbrev pub before : Element → Position
before e = unwrap_or (place.before (syntax_of e)) (FirstChild e)

abbrev pub first_in : Element → Position
first_in n = FirstChild n

abbrev pub last_in : Element → Position
last_in n = place.last_child_of n

-- ---- changes
abbrev pub insert : Position → Element → Change
insert at e = Insert at (syntax_of e)

abbrev pub insert_all : Position → List Element → Change
insert_all at es = InsertAll at (map syntax_of es)

abbrev pub delete : Element → Change
delete e = Replace (syntax_of e) None

abbrev pub replace : Element → Element → Change
replace e r = Replace (syntax_of e) (Some (syntax_of r))

abbrev pub replace_with_many : Element → List Element → Change
replace_with_many e es = ReplaceWithMany (syntax_of e) (map syntax_of es)

abbrev pub replace_all : Element → Element → List Element → Change
replace_all first last es = ReplaceAll (syntax_of first) (syntax_of last) (map syntax_of es)

-- ---- elements: the edited tree has the number 1
abbrev pub E : Path → Element
E p = element_of_tree 1 tree_E p

abbrev pub F : Path → Element
F p = element_of_tree 1 tree_F p

abbrev pub Z : Path → Element
Z p = element_of_tree 1 tree_Z p

abbrev pub X : Element
X = element_of_tree 2 tree_X (0 ∷ [])

abbrev pub Y : Element
Y = element_of_tree 3 tree_Y (0 ∷ [])

abbrev pub U : Element
U = element_of_tree 4 tree_U (0 ∷ [])

abbrev pub V : Element
V = element_of_tree 6 tree_V []

abbrev pub S1 : Element
S1 = element_of_tree 2 tree_S1 []

abbrev pub S3 : Element
S3 = element_of_tree 3 tree_S3 []

-- ---- what they come to
-- the place of one change's target, and of two
abbrev pub no_places : ℕ → Path
no_places c = []

abbrev pub placed : ℕ → Path → (ℕ → Path) → ℕ → Path
placed d p others c = cond (nat_eq c d) p (others c)

-- the new text, and the changed paths
abbrev pub outcome : List Change → (ℕ → Path) → SyntaxTree → List ℕ × List Path
outcome cs places t =
    let new = new_tree cs places (element_of_tree 1 t []) in
    (flat_map text new, flat_map (changed (is_free cs)) new)

abbrev pub owners : List Change → List (Option ℕ)
owners cs = map (owner cs) cs
