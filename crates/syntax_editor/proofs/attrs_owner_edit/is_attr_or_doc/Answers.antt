use Rattle.std.proofs.Common.{◌∙◌, ◌∷◌, [], ℕ, sym, ap}
use Rattle.std.specs.Prelude.{◌==◌, Bool, slice_get, option_map}
use Rattle.std.specs.List.{list_any}
use Rattle.cst_core.specs.Tree.{children}
use Rattle.cst_core.specs.Green.{branch_tree}
use Rattle.cst_core.specs.Kinds.{ATTR, COMMENT, DOC_COMMENT}
use Rattle.syntax_editor.proofs.Removed.{tested, untested}
use Rattle.syntax_editor.proofs.attrs_owner_edit.is_attr_or_doc.Goals as goal

abbrev test : ℕ → Bool
test n = list_any (λ k. n == k.0) (ATTR ∷ COMMENT ∷ DOC_COMMENT ∷ [])

pub returns-in-Some : goal.returns-in-Some
returns-in-Some c = c.is_attr_or_doc_kind.ensures ∙ tested test (slice_get (children (branch_tree c.args.node.now)) c.args.slot) c.in-Some.kind.0 (sym (ap (option_map (λ k. k.0)) c.in-Some.is) ∙ c.kind_at.ensures)

pub returns-in-None : goal.returns-in-None
returns-in-None c = untested test (slice_get (children (branch_tree c.args.node.now)) c.args.slot) (sym (ap (option_map (λ k. k.0)) c.in-None.is) ∙ c.kind_at.ensures)
