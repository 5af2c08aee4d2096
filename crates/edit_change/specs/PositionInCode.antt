-- The form of a position, as code holds it.
--     form_of                             The form of a position in code, as contracts see it.
use Rattle.edit_change.specs.PositionForm.{PositionForm, FirstChild, After}
use Rattle.edit_change.specs.declared.position.Form.{Form}
use Rattle.edit_change.specs.declared.position.Form.TheVariants as code

abbrev pub form_of : Form → PositionForm
form_of (code.FirstChild n) = FirstChild n
form_of (code.After e) = After e
