-- What search and replacement record of the nodes of a file.
--     is_match, is_block            A node has the kind and the text of a pattern; it is a BLOCK_EXPR.
--     with_match, with_matches      The changes after a node was replaced if it matches; after each of some nodes was.
--     in_parentheses                The root of a tree of its own: a copy of a node between parentheses, where this is the next tree number.
--     with_block, with_blocks       The next tree number and the changes after a node was replaced by its wrapper if it is a block; after
--                                   each of some nodes was.
--     ReplacesMatches, WrapsBlocks  One editor is another after the matches among some nodes were replaced; after the blocks among them
--                                   were wrapped.
--     rewriting, Rewrites           The next tree number and the changes for all nodes of a root, matches first; one editor is another
--                                   after these.
--     IsRewritten                   An edit is what these changes make of a file, by some mapping.
use Rattle.std.specs.Prelude.{◌≡◌, ℕ, ◌+◌, Bool, ◌&&◌, ◌==◌, cond, List, [], ◌∷◌, codes}
use Rattle.std.specs.List.{fold}
use Rattle.std.specs.Cmp.Lexicographic.{pointwise}
use Rattle.syntax_editor.specs.Kinds.{BLOCK_EXPR, TUPLE_EXPR, L_PAREN, R_PAREN}
use Rattle.syntax_editor.specs.Tree.{label, text}
use Rattle.syntax_editor.specs.Element.{Element, subtree}
use Rattle.syntax_editor.specs.SyntaxElement.{descendants_of}
use Rattle.syntax_editor.specs.ElementForms.TheVariants.{Node}
use Rattle.syntax_editor.specs.ChangeForms.{Change}
use Rattle.syntax_editor.specs.Plan.{Plan, Edit, Makes}
use Rattle.syntax_editor.specs.Editor.{Editor, has_parent, edited_root}
use Rattle.syntax_editor.specs.RecordCall.{Replacing, recorded}
use Rattle.syntax_editor.specs.Spacing.{lone_token}
use Rattle.syntax_editor.specs.Wrapping.{wrapper}

-- ---- matches
abbrev pub is_match : Element → Element → Bool
is_match pattern n = (label (subtree n) == label (subtree pattern)) && pointwise ◌==◌ (text (subtree n)) (text (subtree pattern))

abbrev pub with_match : Element → Element → List Change → Element → List Change
with_match pattern new cs n = cond (is_match pattern n) (recorded (Replacing (Node n) (Node new)) cs) cs

abbrev pub with_matches : Element → Element → List Element → List Change → List Change
with_matches pattern new ns cs = fold (with_match pattern new) cs ns

-- ---- blocks
abbrev pub is_block : Element → Bool
is_block n = label (subtree n) == BLOCK_EXPR.0

abbrev pub in_parentheses : ℕ → Element → Element
in_parentheses next n = wrapper (next + 2) TUPLE_EXPR (lone_token next L_PAREN (codes "(") ∷ []) n (lone_token (next + 1) R_PAREN (codes ")") ∷ [])

abbrev pub with_block : ℕ × List Change → Element → ℕ × List Change
with_block s n = cond (is_block n) (s.0 + 3, recorded (Replacing (Node n) (Node (in_parentheses s.0 n))) s.1) s

abbrev pub with_blocks : List Element → ℕ × List Change → ℕ × List Change
with_blocks ns s = fold with_block s ns

-- ---- editors
abbrev pub ReplacesMatches : Element → Element → List Element → Editor → Editor → Type 0
ReplacesMatches pattern new ns before after = after ≡ record before { changes = with_matches pattern new ns before.changes }

pub record WrapsBlocks (ns : List Element) (next next_after : ℕ) (before after : Editor) : Type 0 where
  pub list : (next_after, after.changes) ≡ with_blocks ns (next, before.changes)
  pub kept : after ≡ record before { changes = after.changes; factory = after.factory }

-- ---- both
abbrev pub rewriting : Element → Element → Element → ℕ × List Change → ℕ × List Change
rewriting pattern new root s = with_blocks (descendants_of root) (s.0, with_matches pattern new (descendants_of root) s.1)

pub record Rewrites (pattern new root : Element) (next next_after : ℕ) (before after : Editor) : Type 0 where
  pub list : (next_after, after.changes) ≡ rewriting pattern new root (next, before.changes)
  pub kept : after ≡ record before { changes = after.changes; factory = after.factory }

pub record IsRewritten (pattern new : Element) (next : ℕ) (file : Element) (edit : Edit) : Type 0 where
  pub plan : Plan
  pub root_is : plan.root ≡ edited_root next file
  pub unregistered : plan.registrations ≡ []
  pub number : ℕ
  pub recorded : (number, plan.changes) ≡ rewriting pattern new (edited_root next file) (cond (has_parent file) (next + 1) next, [])
  pub makes : Makes plan number edit
