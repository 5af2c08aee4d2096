-- The codes by which mappings and their builders are models' values.
--     mapping_code, builder_code     that of a mapping; that of a builder
use Rattle.std.specs.Prelude.{refl}
use Rattle.std.specs.Coded.{Coded, code_by, coded_list, coded×}
use Rattle.cst_core.specs.Element.{Element}
use Rattle.cst_core.specs.inner.ElementCode.{element_code}
use Rattle.edit_map.specs.Mapping.{Mapping}
use Rattle.edit_map.specs.Builder.{Builder}

abbrev pub mapping_code : Coded Mapping
mapping_code = coded_list (coded× element_code element_code)

abbrev pub builder_code : Coded Builder
builder_code = code_by (Element × Mapping) (coded× element_code mapping_code) (λ b. (b.parent, b.pairs)) (λ q. record { parent = q.0; pairs = q.1 }) (λ _. refl)
