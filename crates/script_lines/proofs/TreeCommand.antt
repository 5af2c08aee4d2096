-- A line that begins with the word for a new tree.
--     spread-fields      its fields are its first word, and then those behind it
--     no-name            no name is behind the word
--     same-tree          its expression is what is left behind the name
use Rattle.std.proofs.Common.{◌≡◌, ℕ, List, ◌∷◌, codes, refl, sym, ◌∙◌}
use Rattle.cst_core.specs.Tree.{SyntaxTree}
use Rattle.script_lines.specs.Dialect.{Language}
use Rattle.script_lines.specs.Line.{IsLine, IsLineTree, fields, line_text, words}
use Rattle.script_lines.specs.ScriptLine.{ScriptLine}
use Rattle.script_lines.specs.inner.Taken.{Begins, IsNamed}
use Rattle.script_lines.specs.inner.Word.{IsFirstWord, IsLeft, IsSpread}
use Rattle.script_lines.proofs.LinesOfTrees.{TreeRead, same-parts, same-rest, tree-parts}
use Rattle.script_lines.proofs.OneCommand.{only-tree}
use Rattle.script_lines.proofs.WordByWord.{words-before, words-first}

pub spread-fields : (line text word left : List ℕ) → IsSpread line text → IsFirstWord text word left → fields line ≡ word ∷ words left
unfolding fields
spread-fields line text word left spread first = words-before (line_text line) text spread.0 ∙ words-first text word left first

module _ (lang : Language) where
  pub no-name : (left : List ℕ) → ((name : List ℕ) → Begins IsNamed (words left) name → ⊥) → (line text : List ℕ) → IsSpread line text → IsFirstWord text (codes "tree") left → (l : ScriptLine) → IsLine lang line l → ⊥
  no-name left none line text spread word l said =
      let only = only-tree lang line (words left) (spread-fields line text (codes "tree") left spread word) l said in
      let parts = tree-parts lang line only.0 only.1 only.2 in
      let before = same-rest lang line text left parts.behind spread word parts.word in
      let first : words left ≡ only.0 ∷ words parts.left = sym (words-before parts.behind left before) ∙ words-first parts.behind only.0 parts.left parts.second in
      none only.0 (words parts.left, record { word = only.0; first = first; says = (refl, parts.named) })

  pub same-tree : (left name last t : List ℕ) → IsFirstWord left name last → IsLeft last t → (line text : List ℕ) → IsSpread line text → IsFirstWord text (codes "tree") left → (l : ScriptLine) → IsLine lang line l → (root : SyntaxTree) × IsLineTree lang t root
  same-tree left name last t second trimmed line text spread word l said =
      let only = only-tree lang line (words left) (spread-fields line text (codes "tree") left spread word) l said in
      let read : TreeRead lang line text left name last t = record { spread = spread; word = word; second = second; trimmed = trimmed } in
      (only.1, same-parts lang line text left name last t only.0 only.1 read (tree-parts lang line only.0 only.1 only.2))
