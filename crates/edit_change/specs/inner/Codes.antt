-- The code by which a node or token is a model's value.
--     syntax_element_code         of an element value by its form
--     of_form-form_of             such a value is told by its form
use Rattle.std.specs.Prelude.{◌≡◌, ◌⊎◌, refl}
use Rattle.std.specs.Coded.{Coded, code_by, coded⊎}
use mathlib.Core.Logic.{inl, inr}
use Rattle.cst_core.specs.Element.{Element}
use Rattle.cst_core.specs.inner.ElementCode.{element_code}
use Rattle.cst_core.specs.declared.element.SyntaxElement.{SyntaxElement}
use Rattle.cst_core.specs.declared.element.SyntaxElement.TheVariants.{Node, Token}

abbrev form_of : SyntaxElement → Element ⊎ Element
form_of (Node e) = inl e
form_of (Token e) = inr e

abbrev of_form : Element ⊎ Element → SyntaxElement
of_form (inl e) = Node e
of_form (inr e) = Token e

pub of_form-form_of : (e : SyntaxElement) → of_form (form_of e) ≡ e
of_form-form_of (Node e) = refl
of_form-form_of (Token e) = refl

abbrev pub syntax_element_code : Coded SyntaxElement
syntax_element_code = code_by (Element ⊎ Element) (coded⊎ element_code element_code) form_of of_form of_form-form_of
