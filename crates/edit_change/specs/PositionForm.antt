-- The two forms of a position, as contracts see them. Each gap has exactly one.
--     PositionForm                  What a contract sees of a `Position`: `FirstChild n`, gap 0 of the node n, or `After e`, the gap after
--                                   the element e.
use Rattle.cst_core.specs.Element.{Element}
use Rattle.cst_core.specs.declared.element.SyntaxElement.{SyntaxElement}

pub data PositionForm : Type 0 where
  FirstChild : (parent : Element) → PositionForm
  After : (element : SyntaxElement) → PositionForm
