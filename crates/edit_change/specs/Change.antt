-- Changes of a tree: the payload of each and what it replaces.
-- A `Change` has one of five forms: `Insert`, `InsertAll`, `Replace` (a deletion if it has no new element),
-- `ReplaceWithMany`, and `ReplaceAll` (of the siblings from a first to a last). Changes are numbered from 0 in the
-- order in which they were recorded.
--
--     payload                       The new elements of a change, in order.
--     elements                      All element values in a change: its anchor or its ends, and its payload.
--     targets                       The paths that a replacement replaces: one, or those of the siblings from first to last.
--     shared_targets                Two replacements have a target in common. Deletions count, and so do replacements that are dropped.
use Rattle.std.specs.Prelude.{Bool, List, [], ◌∷◌, map, Some, None}
use Rattle.std.specs.List.{list_any}
use Rattle.cst_core.specs.Path.{Path, has_path, siblings}
use Rattle.cst_core.specs.Element.{Element}
use Rattle.cst_core.specs.SyntaxElement.{element_of}
use Rattle.edit_change.specs.Position.{anchor}
use Rattle.edit_change.specs.declared.change.Change.{Change}
use Rattle.edit_change.specs.declared.change.Change.TheVariants.{Insert, InsertAll, Replace, ReplaceWithMany, ReplaceAll}

abbrev pub payload : Change → List Element
payload (Insert at e) = element_of e ∷ []
payload (InsertAll at es) = map element_of es
payload (Replace t None) = []
payload (Replace t (Some e)) = element_of e ∷ []
payload (ReplaceWithMany t es) = map element_of es
payload (ReplaceAll first last es) = map element_of es

abbrev pub elements : Change → List Element
elements (Insert at e) = anchor at ∷ payload (Insert at e)
elements (InsertAll at es) = anchor at ∷ payload (InsertAll at es)
elements (Replace t e) = element_of t ∷ payload (Replace t e)
elements (ReplaceWithMany t es) = element_of t ∷ payload (ReplaceWithMany t es)
elements (ReplaceAll first last es) = element_of first ∷ element_of last ∷ payload (ReplaceAll first last es)

-- All changes of a list are of one tree, so paths tell its elements apart.
abbrev pub targets : Change → List Path
targets (Replace t e) = (element_of t).path ∷ []
targets (ReplaceWithMany t es) = (element_of t).path ∷ []
targets (ReplaceAll first last es) = siblings (element_of first).path (element_of last).path
targets _ = []

abbrev pub shared_targets : Change → Change → Bool
shared_targets c d = list_any (has_path (targets c)) (targets d)
