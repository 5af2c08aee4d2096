-- The code of a change by its form, by which changes are data that proofs can tell apart.
--     change_code                   that code
--     change_of_form-form_of_change      a change is told by its form
use Rattle.std.specs.Prelude.{◌≡◌, ◌⊎◌, List, Option, refl}
use Rattle.std.specs.Coded.{Coded, code_by, coded⊎, coded×, coded_list, coded_option}
use mathlib.Core.Logic.{inl, inr}
use Rattle.cst_core.specs.declared.element.SyntaxElement.{SyntaxElement}
use Rattle.edit_change.specs.inner.Codes.{syntax_element_code}
use Rattle.edit_change.specs.PositionForm.{PositionForm}
use Rattle.edit_change.specs.inner.PositionCode.{position_code}
use Rattle.edit_change.specs.declared.change.Change.{Change}
use Rattle.edit_change.specs.declared.change.Change.TheVariants.{Insert, InsertAll, Replace, ReplaceWithMany, ReplaceAll}

abbrev Parts : Type 0
Parts = (PositionForm × SyntaxElement) ⊎ ((PositionForm × List SyntaxElement) ⊎ ((SyntaxElement × Option SyntaxElement) ⊎ ((SyntaxElement × List SyntaxElement) ⊎ (SyntaxElement × (SyntaxElement × List SyntaxElement)))))

abbrev form_of_change : Change → Parts
form_of_change (Insert at e) = inl (at, e)
form_of_change (InsertAll at es) = inr (inl (at, es))
form_of_change (Replace t e) = inr (inr (inl (t, e)))
form_of_change (ReplaceWithMany t es) = inr (inr (inr (inl (t, es))))
form_of_change (ReplaceAll first last es) = inr (inr (inr (inr (first, (last, es)))))

abbrev change_of_form : Parts → Change
change_of_form (inl f) = Insert f.0 f.1
change_of_form (inr (inl f)) = InsertAll f.0 f.1
change_of_form (inr (inr (inl f))) = Replace f.0 f.1
change_of_form (inr (inr (inr (inl f)))) = ReplaceWithMany f.0 f.1
change_of_form (inr (inr (inr (inr f)))) = ReplaceAll f.0 f.1.0 f.1.1

pub change_of_form-form_of_change : (c : Change) → change_of_form (form_of_change c) ≡ c
change_of_form-form_of_change (Insert at e) = refl
change_of_form-form_of_change _ = refl

abbrev pub change_code : Coded Change
change_code =
    code_by Parts (coded⊎ (coded× position_code syntax_element_code) (coded⊎ (coded× position_code (coded_list syntax_element_code)) (coded⊎ (coded× syntax_element_code (coded_option syntax_element_code)) (coded⊎ (coded× syntax_element_code (coded_list syntax_element_code)) (coded× syntax_element_code (coded× syntax_element_code (coded_list syntax_element_code))))))) form_of_change change_of_form change_of_form-form_of_change
