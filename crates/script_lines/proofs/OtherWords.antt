-- A line whose first word is no command's.
--     IsNoWord     no command has this word
--     no-line      nothing is said by a line that begins with it
use Rattle.std.proofs.Common.{◌≡◌, ◌≢◌, ℕ, true, false, List, ◌∷◌, codes, sym, ◌∙◌, ap}
use Rattle.script_lines.specs.Dialect.{Language}
use Rattle.script_lines.specs.Line.{IsLine, fields, is_comment, no_command}
use Rattle.script_lines.specs.ScriptLine.{ScriptLine, Blank, Kinds, Tree, Edit, Map, Insert, Delete, Replace, Range, Note, Remove, Order, Show, Spaced, Wrap, Shifted, Finish}
use Rattle.script_lines.specs.declared.line.Shift.TheVariants.{Indent, Dedent}
use Rattle.script_lines.proofs.WordOfLine.{begins}

pub record IsNoWord (word : List ℕ) : Type 0 where
  pub not_kinds : word ≢ codes "kinds"
  pub not_tree : word ≢ codes "tree"
  pub not_edit : word ≢ codes "edit"
  pub not_map : word ≢ codes "map"
  pub not_insert : word ≢ codes "insert"
  pub not_delete : word ≢ codes "delete"
  pub not_replace : word ≢ codes "replace"
  pub not_range : word ≢ codes "range"
  pub not_note : word ≢ codes "note"
  pub not_remove : word ≢ codes "remove"
  pub not_order : word ≢ codes "order"
  pub not_show : word ≢ codes "show"
  pub not_spaced : word ≢ codes "spaced"
  pub not_wrap : word ≢ codes "wrap"
  pub not_indent : word ≢ codes "indent"
  pub not_dedent : word ≢ codes "dedent"
  pub not_finish : word ≢ codes "finish"

module _ (lang : Language) where
  pub no-line : (line word : List ℕ) (all : List (List ℕ)) → fields line ≡ word ∷ all → is_comment word ≡ false → IsNoWord word → (l : ScriptLine) → IsLine lang line l → ⊥
  no-line line word all is comment other Blank said =
      let both : true ≡ false = sym said ∙ ap no_command is ∙ comment in
      absurd (cc)
  no-line line word all is comment other (Kinds names) said = other.not_kinds (begins lang line word all is comment (Kinds names) said)
  no-line line word all is comment other (Tree name root) said = other.not_tree (begins lang line word all is comment (Tree name root) said)
  no-line line word all is comment other (Edit name node) said = other.not_edit (begins lang line word all is comment (Edit name node) said)
  no-line line word all is comment other (Map parent input output) said = other.not_map (begins lang line word all is comment (Map parent input output) said)
  no-line line word all is comment other (Insert at payload) said = other.not_insert (begins lang line word all is comment (Insert at payload) said)
  no-line line word all is comment other (Delete target) said = other.not_delete (begins lang line word all is comment (Delete target) said)
  no-line line word all is comment other (Replace target payload) said = other.not_replace (begins lang line word all is comment (Replace target payload) said)
  no-line line word all is comment other (Range first last payload) said = other.not_range (begins lang line word all is comment (Range first last payload) said)
  no-line line word all is comment other (Note w element) said = other.not_note (begins lang line word all is comment (Note w element) said)
  no-line line word all is comment other (Remove element separator) said = other.not_remove (begins lang line word all is comment (Remove element separator) said)
  no-line line word all is comment other (Order order) said = other.not_order (begins lang line word all is comment (Order order) said)
  no-line line word all is comment other (Show detail) said = other.not_show (begins lang line word all is comment (Show detail) said)
  no-line line word all is comment other (Spaced at payload) said = other.not_spaced (begins lang line word all is comment (Spaced at payload) said)
  no-line line word all is comment other (Wrap node kind before after) said = other.not_wrap (begins lang line word all is comment (Wrap node kind before after) said)
  no-line line word all is comment other (Shifted Indent name node) said = other.not_indent (begins lang line word all is comment (Shifted Indent name node) said)
  no-line line word all is comment other (Shifted Dedent name node) said = other.not_dedent (begins lang line word all is comment (Shifted Dedent name node) said)
  no-line line word all is comment other Finish said = other.not_finish (begins lang line word all is comment Finish said)
