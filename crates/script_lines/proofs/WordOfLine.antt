-- The word that a line begins with.
--     word-of         the word of what a line says; none, if it says nothing
--     tree-words      a line for a new tree begins with its word
--     begins          a line that says something, and has a word that begins no comment, begins with its own
use Rattle.std.proofs.Common.{◌≡◌, ℕ, Bool, true, false, List, [], ◌∷◌, codes, sym, ◌∙◌, ap}
use Rattle.cst_core.specs.Tree.{SyntaxTree}
use Rattle.script_lines.specs.Dialect.{Language}
use Rattle.script_lines.specs.Line.{IsLine, IsTreeLine, fields, is_comment, line_text, no_command, shift_word, words}
use Rattle.script_lines.specs.ScriptLine.{ScriptLine, Blank, Kinds, Tree, Edit, Map, Insert, Delete, Replace, Range, Note, Remove, Order, Show, Spaced, Wrap, Shifted, Finish}
use Rattle.script_lines.proofs.LinesOfTrees.{tree-parts}
use Rattle.script_lines.proofs.WordByWord.{words-first}

abbrev pub word-of : ScriptLine → List ℕ
word-of Blank = []
word-of (Kinds names) = codes "kinds"
word-of (Tree name root) = codes "tree"
word-of (Edit name node) = codes "edit"
word-of (Map parent input output) = codes "map"
word-of (Insert at payload) = codes "insert"
word-of (Delete target) = codes "delete"
word-of (Replace target payload) = codes "replace"
word-of (Range first last payload) = codes "range"
word-of (Note word element) = codes "note"
word-of (Remove element separator) = codes "remove"
word-of (Order order) = codes "order"
word-of (Show detail) = codes "show"
word-of (Spaced at payload) = codes "spaced"
word-of (Wrap node kind before after) = codes "wrap"
word-of (Shifted shift name node) = shift_word shift
word-of Finish = codes "finish"

same-word : (fs : List (List ℕ)) (word own : List ℕ) (all others : List (List ℕ)) → fs ≡ word ∷ all → fs ≡ own ∷ others → word ≡ own
same-word fs word own all others is says = cc

module _ (lang : Language) where
  pub tree-words : (line name : List ℕ) (root : SyntaxTree) → IsTreeLine lang line name root → (more : List (List ℕ)) × (fields line ≡ codes "tree" ∷ more)
  unfolding fields
  tree-words line name root said =
      let parts = tree-parts lang line name root said in
      (words parts.behind, words-first (line_text line) (codes "tree") parts.behind parts.word)

  both-tests : {A : Type 0} (b : Bool) → b ≡ true → b ≡ false → A
  both-tests b first second = absurd (cc)

  pub begins : (line word : List ℕ) (all : List (List ℕ)) → fields line ≡ word ∷ all → is_comment word ≡ false → (l : ScriptLine) → IsLine lang line l → word ≡ word-of l
  begins line word all is comment Blank said = both-tests (is_comment word) (sym (ap no_command is) ∙ said) comment
  begins line word all is comment (Kinds names) said = same-word (fields line) word (codes "kinds") all names is said.1
  begins line word all is comment (Tree name root) said =
      let own = tree-words line name root said in
      same-word (fields line) word (codes "tree") all own.0 is own.1
  begins line word all is comment (Edit name node) said = same-word (fields line) word (codes "edit") all _ is said.1
  begins line word all is comment (Map parent input output) said = same-word (fields line) word (codes "map") all _ is said.3
  begins line word all is comment (Insert at payload) said = same-word (fields line) word (codes "insert") all _ is said.3
  begins line word all is comment (Delete target) said = same-word (fields line) word (codes "delete") all _ is said.1
  begins line word all is comment (Replace target payload) said = same-word (fields line) word (codes "replace") all _ is said.2
  begins line word all is comment (Range first last payload) said = same-word (fields line) word (codes "range") all _ is said.3
  begins line word all is comment (Note w element) said = same-word (fields line) word (codes "note") all _ is said.1
  begins line word all is comment (Remove element separator) said = same-word (fields line) word (codes "remove") all _ is said.2
  begins line word all is comment (Order order) said = same-word (fields line) word (codes "order") all _ is said.1
  begins line word all is comment (Show detail) said = same-word (fields line) word (codes "show") all _ is said.1
  begins line word all is comment (Spaced at payload) said = same-word (fields line) word (codes "spaced") all _ is said.4
  begins line word all is comment (Wrap node kind before after) said = same-word (fields line) word (codes "wrap") all _ is said.5
  begins line word all is comment (Shifted shift name node) said = same-word (fields line) word (shift_word shift) all _ is said.2
  begins line word all is comment Finish said = same-word (fields line) word (codes "finish") all [] is said
