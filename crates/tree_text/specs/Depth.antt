-- How deep trees are.
--     depth, forest_depth           How many nodes are inside one another at most, 0 for a token; the same of trees side by side.
--     depth_limit                   How many may be, where a tree expression is read: 200.
--
-- The depth of `(LITERAL (NAME IDENT"a"))` is 2.
use Rattle.std.specs.Prelude.{ℕ, suc, max}
use Rattle.cst_core.specs.Tree.{Tree, Token, Node, Forest, end, more}

abbrev mutual
  pub depth : {L : Type 0} → Tree L → ℕ
  depth (Token l s) = 0
  depth (Node l f) = suc (forest_depth f)

  pub forest_depth : {L : Type 0} → Forest L → ℕ
  forest_depth end = 0
  forest_depth (more t f) = max (depth t) (forest_depth f)

abbrev pub depth_limit : ℕ
depth_limit = 200
