-- The code by which an element is a model's value.
--     element_code                  it
use Rattle.std.specs.Prelude.{ℕ, List, refl}
use Rattle.std.specs.Coded.{Coded, code_by, coded_ℕ, coded_list, coded×}
use Rattle.green_tree.specs.Tree.{SyntaxTree}
use Rattle.green_tree.specs.inner.TreeCode.{tree_code}
use Rattle.cst_core.specs.Element.{Element}

abbrev pub element_code : Coded Element
element_code =
    code_by (ℕ × (SyntaxTree × List ℕ)) (coded× coded_ℕ (coded× (tree_code coded_ℕ) (coded_list coded_ℕ))) (λ e. (e.number, (e.root, e.path))) (λ p. record { number = p.0; root = p.1.0; path = p.1.1 }) (λ _. refl)
