-- The text of a plan: a line for each change.
-- `{}` of a plan prints a line for each change, in the order of their numbers. Paths are those of the old tree.
--
--     slot_text, path_text          A slot after `/`; the slots of a path with `/` between them, or `.` for the root.
--     position_text                 ` first ` and the path of a node, or ` after ` and that of an element.
--     what_text                     What a change does, and where: `insert`, `insert_all`, `delete`, `replace`, `replace_with_many` or
--                                   `replace_all`, with a position, the path of the target, or those of both ends of a range.
--     fate_text                     `, dropped`; `, along with 2` for a change that moves along with change 2; nothing for one that is
--                                   carried out on the tree.
--     line_text, plan_text          The line of a change: its number, `what_text` and `fate_text`; those of a plan.
--
-- If `R/4/0` is deleted and then `R/4`, the text is `0 delete 4/0, dropped` and, on the second line, `1 delete 4`.
use Rattle.std.specs.Prelude.{ℕ, false, cond, List, [], ◌∷◌, ◌++◌, flat_map, slice_get, Some, None, is_some, option_and_then, codes, decimal}
use Rattle.std.specs.List.{enumerate_from}
use Rattle.std.specs.Option.{option_map_or}
use Rattle.cst_core.specs.Path.{Path}
use Rattle.cst_core.specs.SyntaxElement.{element_of}
use Rattle.edit_change.specs.Position.{anchor, first_of}
use Rattle.edit_change.specs.declared.position.Position.{Position}
use Rattle.edit_change.specs.declared.change.Change.{Change}
use Rattle.edit_change.specs.declared.change.Change.TheVariants.{Insert, InsertAll, Replace, ReplaceWithMany, ReplaceAll}
use Rattle.edit_change.specs.Nesting.{Numbered, is_dropped, owner}
use Rattle.edit_plan.specs.Plan.{Plan}

abbrev pub slot_text : ℕ → List ℕ
slot_text slot = codes "/" ++ decimal slot

abbrev pub path_text : Path → List ℕ
path_text [] = codes "."
path_text (slot ∷ slots) = decimal slot ++ flat_map slot_text slots

abbrev pub position_text : Position → List ℕ
position_text at = cond (is_some (first_of at)) (codes " first ") (codes " after ") ++ path_text (anchor at).path

abbrev pub what_text : Change → List ℕ
what_text (Insert at e) = codes "insert" ++ position_text at
what_text (InsertAll at es) = codes "insert_all" ++ position_text at
what_text (Replace target None) = codes "delete " ++ path_text (element_of target).path
what_text (Replace target (Some e)) = codes "replace " ++ path_text (element_of target).path
what_text (ReplaceWithMany target es) = codes "replace_with_many " ++ path_text (element_of target).path
what_text (ReplaceAll first last es) =
    codes "replace_all " ++ path_text (element_of first).path ++ codes " " ++ path_text (element_of last).path

abbrev pub fate_text : List Change → ℕ → List ℕ
fate_text cs n =
    cond (option_map_or (is_dropped cs) (slice_get cs n) false) (codes ", dropped") (option_map_or (λ o. codes ", along with " ++ decimal o) (option_and_then (owner cs) (slice_get cs n)) [])

abbrev pub line_text : List Change → Numbered → List ℕ
line_text cs c = decimal c.0 ++ codes " " ++ what_text c.1 ++ fate_text cs c.0 ++ codes "\n"

abbrev pub plan_text : Plan → List ℕ
plan_text p = flat_map (line_text p.changes) (enumerate_from 0 p.changes)
