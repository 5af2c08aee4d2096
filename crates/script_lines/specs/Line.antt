-- How a line of a script is written.
--     line_text                     A line without the carriage return at its end, if it has one.
--     between                       The parts of a text that stand between the bytes of one value: one part more than there are such bytes.
--     is_empty, words, fields       A text has no byte; the parts between the spaces of a text that are not empty; the words of a line.
--     is_comment, no_command, is_blank  A field begins with `#`; there are no fields, or the first one is such; a line with such fields,
--                                   which does nothing.
--     Each                          Two lists are equally long, and what stands at one place is related.
--     IsNumber                      Decimal digits, at least one, of a number below 2^64.
--     IsRef                         The parts between the slashes of a field are a name and then the numbers of a path.
--     IsGap                         A word and a field say a position: `first` or `last` and a node, `before` or `after` and an element.
--     detail_name                   The name of what an answer is to show.
--     shift_word                    The word of a line that indents or dedents.
--     IsSpaces                      Nothing but spaces.
--     IsLineTree                    An expression of a tree with only spaces between elements, with the names of kinds that were given, nested
--                                   at most as deep as the dialect allows.
--     IsTreeLine                    A line for a new tree: `tree`, a name and the tree's expression, with spaces between and, if any, at
--                                   both ends. The expression is the rest of the line, so it may have spaces.
--     IsLine                        A line says this, in a language. It has no other form: the fields of a command are its word and exactly
--                                   those that it needs.
--
-- The line `insert before R/4/0 NEW` has the fields `insert`, `before`, `R/4/0` and `NEW`, and says: insert the root of
-- `NEW` before the element at the path 4/0 of `R`. Between the slashes of `R/4/0` are `R`, `4` and `0`; those of `NEW`
-- are one part, so its path is empty. `insert R/4/0 NEW` says nothing, since `R/4/0` is none of the four words, and is
-- bad. ` # delete R/1` is blank, and so is a line of spaces.
use Rattle.std.specs.Prelude.{◌≡◌, ◌≢◌, ℕ, ◌==◌, ◌-◌, ◌<◌, ◌≤◌, ◌^◌, Bool, true, false, not, List, [], ◌∷◌, ◌++◌, length, take, filter, nat_eq, codes, cond, Some}
use Rattle.std.specs.List.{slice_split, ends_with, starts_with, AllByRecursion}
use Rattle.std.specs.Str.Parse.{IsNumeral, digits_value}
use Rattle.cst_core.specs.Tree.{SyntaxTree}
use Rattle.tree_text.specs.Depth.{depth}
use Rattle.tree_text.specs.Grammar.{IsExpression, is_gap_space}
use Rattle.tree_text.specs.KindNames.{name_in}
use Rattle.script_lines.specs.Dialect.{Language, depth_in, is_wide}
use Rattle.script_lines.specs.Name.{IsName}
use Rattle.script_lines.specs.declared.line.Shift.{Shift}
use Rattle.script_lines.specs.declared.line.Shift.TheVariants.{Indent, Dedent}
use Rattle.script_lines.specs.declared.detail.Detail.{Detail}
use Rattle.script_lines.specs.declared.detail.Detail.TheVariants as detail
use Rattle.script_lines.specs.ScriptLine.{Ref, Gap, First, Last, Before, After, ScriptLine, Blank, Kinds, Tree, Edit, Map, Insert, Delete, Replace, Range, Note, Remove, Order, Show, Spaced, Wrap, Shifted, Finish}

abbrev pub line_text : List ℕ → List ℕ
line_text line = cond (ends_with nat_eq line (13 ∷ [])) (take (length line - 1) line) line

abbrev pub is_empty : List ℕ → Bool
is_empty [] = true
is_empty (b ∷ bs) = false

abbrev pub between : ℕ → List ℕ → List (List ℕ)
between byte text = slice_split (λ b. b == byte) text

unfoldable pub words : List ℕ → List (List ℕ)
words text = filter (λ f. not (is_empty f)) (between 32 text)

unfoldable pub fields : List ℕ → List (List ℕ)
fields line = words (line_text line)

abbrev pub is_comment : List ℕ → Bool
is_comment field = starts_with nat_eq field (codes "#")

abbrev pub no_command : List (List ℕ) → Bool
no_command [] = true
no_command (f ∷ fs) = is_comment f

abbrev pub is_blank : List ℕ → Bool
is_blank line = no_command (fields line)

-- ---- fields
abbrev pub Each : {A B : Type 0} → (A → B → Type 0) → List A → List B → Type 0
Each R [] [] = Unit {0}
Each R (x ∷ xs) (y ∷ ys) = R x y × Each R xs ys
Each R _ _ = ⊥

abbrev pub IsNumber : List ℕ → ℕ → Type 0
IsNumber field n = IsNumeral 10 field × (digits_value 10 field ≡ n) × (n < 2 ^ 64)

pub record IsRef (field : List ℕ) (r : Ref) : Type 0 where
  pub slots : List (List ℕ)
  pub parts : between 47 field ≡ r.name ∷ slots
  pub named : IsName r.name
  pub numbered : Each IsNumber slots r.path

abbrev pub IsGap : List ℕ → List ℕ → Gap → Type 0
IsGap word beside (First node) = (word ≡ codes "first") × IsRef beside node
IsGap word beside (Last node) = (word ≡ codes "last") × IsRef beside node
IsGap word beside (Before element) = (word ≡ codes "before") × IsRef beside element
IsGap word beside (After element) = (word ≡ codes "after") × IsRef beside element

abbrev pub detail_name : Detail → List ℕ
detail_name detail.Edits = codes "edits"
detail_name detail.Tree = codes "tree"
detail_name detail.Ranges = codes "ranges"

abbrev pub shift_word : Shift → List ℕ
shift_word Indent = codes "indent"
shift_word Dedent = codes "dedent"

-- ---- lines
abbrev pub IsSpaces : List ℕ → Type 0
IsSpaces text = AllByRecursion (λ b. b ≡ 32) text

abbrev pub IsLineTree : Language → List ℕ → SyntaxTree → Type 0
IsLineTree l text root = IsExpression (name_in l.kinds) is_gap_space root text × (depth root ≤ depth_in l.dialect)

pub record IsTreeLine (l : Language) (line name : List ℕ) (root : SyntaxTree) : Type 0 where
  pub before : List ℕ
  pub between : List ℕ
  pub after : List ℕ
  pub expression : List ℕ
  pub rest : List ℕ
  pub is : line_text line ≡ before ++ codes "tree" ++ between ++ name ++ after ++ expression ++ rest
  pub spaces : IsSpaces before × IsSpaces between × IsSpaces after × IsSpaces rest
  pub apart : (between ≢ []) × (after ≢ [])
  pub named : IsName name
  pub drawn : IsLineTree l expression root

abbrev pub IsLine : Language → List ℕ → ScriptLine → Type 0
IsLine l line Blank = is_blank line ≡ true
IsLine l line (Kinds names) = (is_wide l.dialect ≡ true) × (fields line ≡ codes "kinds" ∷ names)
IsLine l line (Tree name root) = IsTreeLine l line name root
IsLine l line (Edit name node) =
    (f : List ℕ) × (fields line ≡ codes "edit" ∷ name ∷ f ∷ []) × IsName name × IsRef f node
IsLine l line (Map parent input output) =
    (f g h : List ℕ) × (fields line ≡ codes "map" ∷ f ∷ g ∷ h ∷ []) × IsRef f parent × IsRef g input × IsRef h output
IsLine l line (Insert at payload) =
    (w f : List ℕ) × (fs : List (List ℕ)) ×
    (fields line ≡ codes "insert" ∷ w ∷ f ∷ fs) × IsGap w f at × Each IsRef fs payload
IsLine l line (Delete target) = (f : List ℕ) × (fields line ≡ codes "delete" ∷ f ∷ []) × IsRef f target
IsLine l line (Replace target payload) =
    (f : List ℕ) × (fs : List (List ℕ)) ×
    (fields line ≡ codes "replace" ∷ f ∷ fs) × IsRef f target × Each IsRef fs payload
IsLine l line (Range first last payload) =
    (f g : List ℕ) × (fs : List (List ℕ)) ×
    (fields line ≡ codes "range" ∷ f ∷ g ∷ fs) × IsRef f first × IsRef g last × Each IsRef fs payload
IsLine l line (Note word element) =
    (f : List ℕ) × (fields line ≡ codes "note" ∷ word ∷ f ∷ []) × IsName word × IsRef f element
IsLine l line (Remove element separator) =
    (f k : List ℕ) × (fields line ≡ codes "remove" ∷ f ∷ k ∷ []) × IsRef f element × (name_in l.kinds separator.0 ≡ Some k)
IsLine l line (Order order) = (fs : List (List ℕ)) × (fields line ≡ codes "order" ∷ fs) × Each IsNumber fs order
IsLine l line (Show detail) = (is_wide l.dialect ≡ true) × (fields line ≡ codes "show" ∷ detail_name detail ∷ [])
IsLine l line (Spaced at payload) =
    (w f : List ℕ) × (fs : List (List ℕ)) ×
    (is_wide l.dialect ≡ true) × (fields line ≡ codes "spaced" ∷ w ∷ f ∷ fs) × IsGap w f at × Each IsRef fs payload
IsLine l line (Wrap node kind before after) =
    (f k : List ℕ) × (fs gs : List (List ℕ)) × (is_wide l.dialect ≡ true)
    × (fields line ≡ codes "wrap" ∷ f ∷ k ∷ fs ++ codes "|" ∷ gs) × IsRef f node × (name_in l.kinds kind.0 ≡ Some k)
    × Each IsRef fs before × Each IsRef gs after
IsLine l line (Shifted shift name node) =
    (f : List ℕ) ×
    (is_wide l.dialect ≡ true) × (fields line ≡ shift_word shift ∷ name ∷ f ∷ []) × IsName name × IsRef f node
IsLine l line Finish = fields line ≡ codes "finish" ∷ []
