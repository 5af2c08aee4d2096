use Rattle.std.proofs.Common.{◌∙◌, sym, ap}
use Rattle.std.specs.Prelude.{◌==◌, slice_get, option_map}
use Rattle.cst_core.specs.Tree.{children}
use Rattle.cst_core.specs.Green.{branch_tree}
use Rattle.cst_core.specs.Kinds.{WHITESPACE}
use Rattle.syntax_editor.proofs.Removed.{tested, untested}
use Rattle.syntax_editor.proofs.attrs_owner_edit.is_whitespace.Goals as goal

pub returns-in-Some : goal.returns-in-Some
returns-in-Some c = c.eq.ensures ∙ tested (λ k. k == WHITESPACE.0) (slice_get (children (branch_tree c.args.node.now)) c.args.slot) c.in-Some.kind.0 (sym (ap (option_map (λ k. k.0)) c.in-Some.is) ∙ c.kind_at.ensures)

pub returns-in-None : goal.returns-in-None
returns-in-None c = untested (λ k. k == WHITESPACE.0) (slice_get (children (branch_tree c.args.node.now)) c.args.slot) (sym (ap (option_map (λ k. k.0)) c.in-None.is) ∙ c.kind_at.ensures)
