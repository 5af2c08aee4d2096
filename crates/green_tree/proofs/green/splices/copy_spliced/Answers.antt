use Rattle.std.proofs.Common.{[], sym, subst}
use Rattle.green_tree.specs.Green.{branch_tree}
use Rattle.green_tree.specs.inner.Splices.{CanSplice, IsSplicedAt}
use Rattle.green_tree.proofs.Refused.{no-ok, no-value}
use Rattle.green_tree.proofs.green.splices.copy_spliced.Goals as goal

pub returns-in_err-copy-clause-ok : goal.returns-in_err-copy-clause-ok
returns-in_err-copy-clause-ok c = no-value _ c.from_residual.result c.from_residual.ensures.0

pub returns-in_err-copy-clause-count : goal.returns-in_err-copy-clause-count
returns-in_err-copy-clause-count c = no-ok _ c.from_residual.result c.from_residual.ensures.0

pub splice_nested-requires-clause-can : goal.splice_nested-requires-clause-can
splice_nested-requires-clause-can c = subst (λ n. CanSplice (branch_tree n) [] c.args.first c.args.count) (sym c.in_ok-copy.ensures) c.requires

pub returns-in_err-splice_nested-clause-ok : goal.returns-in_err-splice_nested-clause-ok
returns-in_err-splice_nested-clause-ok c = no-value _ c.from_residual-in_err-splice_nested.result c.from_residual-in_err-splice_nested.ensures.0

pub returns-in_err-splice_nested-clause-count : goal.returns-in_err-splice_nested-clause-count
returns-in_err-splice_nested-clause-count c = no-ok _ c.from_residual-in_err-splice_nested.result c.from_residual-in_err-splice_nested.ensures.0

pub returns-clause-ok : goal.returns-clause-ok
returns-clause-ok c = subst (λ n. IsSplicedAt n [] c.args.first c.args.count c.args.new.items c.splice_nested.new.self) c.in_ok-copy.ensures c.in_ok-splice_nested.ensures.ok

pub returns-clause-count : goal.returns-clause-count
returns-clause-count c = c.in_ok-splice_nested.ensures.count
