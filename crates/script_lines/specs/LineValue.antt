-- Lines in code, as what they say.
--     language_of                   A language in code.
--     ref_of, refs_of, gap_of       What a reference in code says; those of a vector; a position in code.
--     texts_of, line_of             The texts of fields; what a line in code says.
use Rattle.std.specs.Prelude.{ℕ, List, map, Vec}
use Rattle.std.specs.Global.{Global}
use Rattle.cst_core.specs.Green.{branch_tree}
use Rattle.script_lines.specs.Dialect.{Language}
use Rattle.script_lines.specs.ScriptLine as line
use Rattle.script_lines.specs.ScriptLine.{Ref, Gap, ScriptLine}
use Rattle.script_lines.specs.declared.field.Field.{Field}
use Rattle.script_lines.specs.declared.language.Language as code
use Rattle.script_lines.specs.declared.reference.Reference.{Reference}
use Rattle.script_lines.specs.declared.line.WrittenPosition.{WrittenPosition}
use Rattle.script_lines.specs.declared.line.WrittenPosition.TheVariants.{First, Last, Before, After}
use Rattle.script_lines.specs.declared.line.Line.{Line}
use Rattle.script_lines.specs.declared.line.Line.TheVariants.{Blank, Kinds, Tree, Edit, Map, Insert, Delete, Replace, Range, Note, Remove, Order, Show, Spaced, Wrap, Shifted, Finish}

abbrev pub language_of : code.Language → Language
language_of l = record { dialect = l.dialect; kinds = l.names }

abbrev pub ref_of : Reference → Ref
ref_of r = record { name = r.name.text.now; path = r.slots.items }

abbrev pub refs_of : Vec Reference Global → List Ref
refs_of rs = map ref_of rs.items

abbrev pub gap_of : WrittenPosition → Gap
gap_of (First node) = line.First (ref_of node)
gap_of (Last node) = line.Last (ref_of node)
gap_of (Before element) = line.Before (ref_of element)
gap_of (After element) = line.After (ref_of element)

abbrev pub texts_of : List Field → List (List ℕ)
texts_of fields = map (λ f. f.text.now) fields

abbrev pub line_of : Line → ScriptLine
line_of Blank = line.Blank
line_of (Kinds names) = line.Kinds (texts_of names.items)
line_of (Tree name root) = line.Tree name.text.now (branch_tree root)
line_of (Edit name node) = line.Edit name.text.now (ref_of node)
line_of (Map parent input output) = line.Map (ref_of parent) (ref_of input) (ref_of output)
line_of (Insert at payload) = line.Insert (gap_of at) (refs_of payload)
line_of (Delete target) = line.Delete (ref_of target)
line_of (Replace target payload) = line.Replace (ref_of target) (refs_of payload)
line_of (Range first last payload) = line.Range (ref_of first) (ref_of last) (refs_of payload)
line_of (Note word element) = line.Note word.text.now (ref_of element)
line_of (Remove element separator) = line.Remove (ref_of element) separator
line_of (Order order) = line.Order order.items
line_of (Show detail) = line.Show detail
line_of (Spaced at payload) = line.Spaced (gap_of at) (refs_of payload)
line_of (Wrap node kind before after) = line.Wrap (ref_of node) kind (refs_of before) (refs_of after)
line_of (Shifted shift name node) = line.Shifted shift name.text.now (ref_of node)
line_of Finish = line.Finish
