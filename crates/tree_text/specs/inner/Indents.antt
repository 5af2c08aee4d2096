-- The lines of a dump by levels.
--     indent         the indentation at a level: two spaces for each
--     node_line      a node's own line at a level
use Rattle.std.specs.Prelude.{ℕ, zero, suc, List, [], ◌++◌, length, codes}
use Rattle.cst_core.specs.Green.{Branch, texts}
use Rattle.tree_text.specs.KindNames.{KindName, text_in}
use Rattle.tree_text.specs.Lines.{line}

abbrev pub indent : ℕ → List ℕ
indent zero = []
indent (suc level) = indent level ++ codes "  "

abbrev pub node_line : List KindName → ℕ → ℕ → Branch → List ℕ
node_line given level start b = line (indent level) (text_in given b.kind) start (length (texts b.children)) ++ codes "\n"
