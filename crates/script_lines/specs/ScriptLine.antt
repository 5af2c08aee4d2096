-- What a line of a script says.
-- Each line of a script is read by itself, without its newline.
--
--     Ref, Gap                      The way to an element: the name of a tree, and a path in it. A position: the first or the last gap of a
--                                   node, the gap before or after an element.
--     ScriptLine                    What a line says: nothing (`Blank`), or one of the commands with what it names. A tree stands for
--                                   itself, names and annotation words are bytes.
use Rattle.std.specs.Prelude.{ℕ, List}
use Rattle.cst_core.specs.Path.{Path}
use Rattle.cst_core.specs.Tree.{SyntaxTree}
use Rattle.cst_core.specs.SyntaxKind.{SyntaxKind}
use Rattle.script_lines.specs.declared.detail.Detail.{Detail}
use Rattle.script_lines.specs.declared.line.Shift.{Shift}

pub record Ref : Type 0 where
  pub name : List ℕ
  pub path : Path

pub data Gap : Type 0 where
  First : (node : Ref) → Gap
  Last : (node : Ref) → Gap
  Before : (element : Ref) → Gap
  After : (element : Ref) → Gap

pub data ScriptLine : Type 0 where
  Blank : ScriptLine
  Kinds : (names : List (List ℕ)) → ScriptLine
  Tree : (name : List ℕ) (root : SyntaxTree) → ScriptLine
  Edit : (name : List ℕ) (node : Ref) → ScriptLine
  Map : (parent input output : Ref) → ScriptLine
  Insert : (at : Gap) (payload : List Ref) → ScriptLine
  Delete : (target : Ref) → ScriptLine
  Replace : (target : Ref) (payload : List Ref) → ScriptLine
  Range : (first last : Ref) (payload : List Ref) → ScriptLine
  Note : (word : List ℕ) (element : Ref) → ScriptLine
  Remove : (element : Ref) (separator : SyntaxKind) → ScriptLine
  Order : (order : List ℕ) → ScriptLine
  Show : (detail : Detail) → ScriptLine
  Spaced : (at : Gap) (payload : List Ref) → ScriptLine
  Wrap : (node : Ref) (kind : SyntaxKind) (before after : List Ref) → ScriptLine
  Shifted : (shift : Shift) (name : List ℕ) (node : Ref) → ScriptLine
  Finish : ScriptLine
