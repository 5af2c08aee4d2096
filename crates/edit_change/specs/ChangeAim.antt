-- Where a change aims.
--     aim, position_aim             The aim of a change; of a position.
--     aim_path                      The path of an insert's anchor, or of the first element that a replacement replaces.
use Rattle.cst_core.specs.Path.{Path}
use Rattle.cst_core.specs.SyntaxElement.{element_of}
use Rattle.edit_change.specs.Aim.{Aim, FirstIn, AfterElement, Over}
use Rattle.edit_change.specs.Position.{anchor}
use Rattle.edit_change.specs.Change.{targets}
use Rattle.edit_change.specs.declared.position.Position.{Position}
use Rattle.edit_change.specs.PositionForm.{FirstChild, After}
use Rattle.edit_change.specs.declared.change.Change.{Change}
use Rattle.edit_change.specs.declared.change.Change.TheVariants.{Insert, InsertAll, Replace, ReplaceWithMany, ReplaceAll}

abbrev pub position_aim : Position → Aim
position_aim (FirstChild n) = FirstIn n.path
position_aim (After e) = AfterElement (element_of e).path

abbrev pub aim : Change → Aim
aim (Insert at e) = position_aim at
aim (InsertAll at es) = position_aim at
aim c = Over (targets c)

abbrev pub aim_path : Change → Path
aim_path (Insert at e) = (anchor at).path
aim_path (InsertAll at es) = (anchor at).path
aim_path (Replace t e) = (element_of t).path
aim_path (ReplaceWithMany t es) = (element_of t).path
aim_path (ReplaceAll first last es) = (element_of first).path
