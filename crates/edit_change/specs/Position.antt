-- Positions: the gap before the first child of a node, or the gap after an element.
--     anchor                        The node n or the element e of the position.
--     first_of, after_of            The node n, if the position is `FirstChild n`; the element e, if it is `After e`.
--     after, before                 The position after an element; the one before it. A root has neither.
--     last_child_of                 `After` the last child of a node; `FirstChild` of a node without children.
--
-- `After e` is gap i + 1 of the parent, where e is child i, so each gap has exactly one form. Before `R/1` is `After
-- R/0`, gap 1 of `R`. Before `R/0` is `FirstChild R`, gap 0.
use Rattle.std.specs.Prelude.{Option, Some, None, option_map}
use Rattle.std.specs.Option.{option_map_or}
use Rattle.cst_core.specs.Path.{last_item}
use Rattle.cst_core.specs.Element.{Element, parent_of}
use Rattle.cst_core.specs.declared.element.SyntaxElement.{SyntaxElement}
use Rattle.cst_core.specs.SyntaxElement.{element_of, child_elements, previous_sibling}
use Rattle.edit_change.specs.declared.position.Position.{Position}
use Rattle.edit_change.specs.PositionForm.{FirstChild, After}

abbrev pub anchor : Position → Element
anchor (FirstChild n) = n
anchor (After e) = element_of e

abbrev pub first_of : Position → Option Element
first_of (FirstChild n) = Some n
first_of (After e) = None

abbrev pub after_of : Position → Option SyntaxElement
after_of (FirstChild n) = None
after_of (After e) = Some e

abbrev pub after : SyntaxElement → Option Position
after e = option_map (λ parent. After e) (parent_of (element_of e))

-- a gap has one form: after the previous sibling where there is one
abbrev pub before : SyntaxElement → Option Position
before e = option_map (λ parent. option_map_or After (previous_sibling (element_of e)) (FirstChild parent)) (parent_of (element_of e))

abbrev pub last_child_of : Element → Position
last_child_of n = option_map_or After (last_item (child_elements n)) (FirstChild n)
