use Rattle.std.proofs.Common.{◌+◌, ◌<◌, ap, ap₂, ◌∙◌, arith}
use Rattle.green_tree.specs.Green.{branch_tree, length_limit}
use Rattle.green_tree.specs.Order.{start}
use Rattle.cst_core.specs.Element.{Element}
use Rattle.cst_core.proofs.Lengths.{end-fits}
use Rattle.cst_core.proofs.node.SyntaxNode.text_end.Goals as goal

pub overflow_add-result : goal.overflow_add-result
overflow_add-result c =
    let fits : c.text_start-start.result + c.text_len.result < length_limit =
    end-fits c.args.self.now (branch_tree c.self.inside.green) c.text_start-start.result c.text_len.result (rw (← c.self.view_is) c.self.invariant.there) (rw (← c.self.view_is) c.self.invariant.fits) (c.text_start-start.ensures ∙ ap (λ (e : Element). start e.root e.path) c.self.view_is) c.text_len.ensures.length in
    omega arith

pub returns-clause-end : goal.returns-clause-end
returns-clause-end c =
    let starts = c.text_start-start.ensures ∙ ap (λ (e : Element). start e.root e.path) c.self.view_is in
    ap₂ (λ n m. n + m) starts c.text_len.ensures.length

pub returns-clause-fits : goal.returns-clause-fits
returns-clause-fits c =
    end-fits c.args.self.now (branch_tree c.self.inside.green) c.text_start-start.result c.text_len.result (rw (← c.self.view_is) c.self.invariant.there) (rw (← c.self.view_is) c.self.invariant.fits) (c.text_start-start.ensures ∙ ap (λ (e : Element). start e.root e.path) c.self.view_is) c.text_len.ensures.length
