-- Kinds without a name among trees side by side.
--     unnamed_among      the first kind of these trees, in document order, that has no name
use Rattle.std.specs.Prelude.{ℕ, List, Option, is_none}
use Rattle.std.specs.List.{find}
use Rattle.cst_core.specs.Tree.{SyntaxTree, forest}
use Rattle.tree_text.specs.KindNames.{KindName, name_in}
use Rattle.tree_text.specs.TreeText.{forest_kinds}

abbrev pub unnamed_among : List KindName → List SyntaxTree → Option ℕ
unnamed_among given ts = find (λ k. is_none (name_in given k)) (forest_kinds (forest ts))
