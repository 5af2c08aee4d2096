-- The code by which a position is a model's value.
--     position_code                 its code, as a model's value
--     of_sides-sides                a form is told by its sides
use Rattle.std.specs.Prelude.{◌≡◌, ◌⊎◌, refl}
use Rattle.std.specs.Coded.{Coded, code_by, coded⊎}
use mathlib.Core.Logic.{inl, inr}
use Rattle.cst_core.specs.Element.{Element}
use Rattle.cst_core.specs.inner.ElementCode.{element_code}
use Rattle.cst_core.specs.declared.element.SyntaxElement.{SyntaxElement}
use Rattle.edit_change.specs.inner.Codes.{syntax_element_code}
use Rattle.edit_change.specs.PositionForm.{After, FirstChild, PositionForm}

abbrev sides : PositionForm → Element ⊎ SyntaxElement
sides (FirstChild n) = inl n
sides (After e) = inr e

abbrev of_sides : Element ⊎ SyntaxElement → PositionForm
of_sides (inl n) = FirstChild n
of_sides (inr e) = After e

pub of_sides-sides : (p : PositionForm) → of_sides (sides p) ≡ p
of_sides-sides (FirstChild n) = refl
of_sides-sides (After e) = refl

abbrev pub position_code : Coded PositionForm
position_code = code_by (Element ⊎ SyntaxElement) (coded⊎ element_code syntax_element_code) sides of_sides of_sides-sides
