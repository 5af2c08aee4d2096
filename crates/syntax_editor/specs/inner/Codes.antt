-- The codes by which editors and their factories are models' values.
--     factory_code, editor_code     that of a factory's mappings; that of an editor
use Rattle.std.specs.Prelude.{ℕ, List, Option, refl}
use Rattle.std.specs.Coded.{Coded, code_by, coded_ℕ, coded_list, coded_option, coded×}
use Rattle.cst_core.specs.Element.{Element}
use Rattle.cst_core.specs.inner.ElementCode.{element_code}
use Rattle.edit_map.specs.inner.Codes.{mapping_code}
use Rattle.edit_map.specs.Mapping.{Mapping}
use Rattle.edit_change.specs.declared.change.Change.{Change}
use Rattle.cst_core.specs.declared.element.SyntaxElement.{SyntaxElement}
use Rattle.edit_change.specs.inner.Codes.{syntax_element_code}
use Rattle.edit_change.specs.inner.ChangeCodes.{change_code}
use Rattle.syntax_editor.specs.Editor.{Editor}

-- the mappings of a factory, if it keeps some
abbrev pub factory_code : Coded (Option Mapping)
factory_code = coded_option mapping_code

abbrev pub editor_code : Coded Editor
editor_code = code_by (Element × (List Change × (List (SyntaxElement × ℕ) × Option Mapping))) (coded× element_code (coded× (coded_list change_code) (coded× (coded_list (coded× syntax_element_code coded_ℕ)) factory_code))) (λ e. (e.root, (e.changes, (e.registrations, e.factory)))) (λ q. record { root = q.0; changes = q.1.0; registrations = q.1.1.0; factory = q.1.1.1 }) (λ _. refl)
