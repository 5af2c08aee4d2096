use Rattle.std.proofs.Common.{◌≡◌, ◌≤◌, [], Some, ap, refl, sym, ◌∙◌, subst, arith}
use Rattle.std.specs.Prelude.{encode_utf8}
use Rattle.std.proofs.lemmas.Result.{on_ok_weaker}
use Rattle.cst_core.specs.Green.{branch_tree}
use Rattle.tree_text.specs.Depth.{depth}
use Rattle.tree_text.specs.inner.OpenTrees.{open_trees, IsInnermostLong}
use Rattle.tree_text.specs.inner.Reading.{IsMisplaced, Reads, reading}
use Rattle.tree_text.proofs.Refusing.{passed-on, misplaced-by}
use Rattle.tree_text.proofs.TextSteps.{ends-node, ends-tree, node-long, node-there}
use Rattle.tree_text.proofs.reader.Reader.close.Goals as goal

pub returns-in_err-node-clause-err : goal.returns-in_err-node-clause-err
returns-in_err-node-clause-err c =
    let r = reading c.args.self.now in
    let at = c.args.self.now.at in
    passed-on c.from_residual.result c.in_err-node.field-0.0 (IsMisplaced r at (encode_utf8 41)) c.from_residual.ensures.1 (misplaced-by r at (encode_utf8 41) c.in_err-node.field-0.0 (r.nodes ≡ []) (IsInnermostLong r.nodes) c.in_err-node.ensures.err (λ none. absurd (node-there r c.requires.reading c.requires.state c.requires.inside none)) (node-long r c.requires.reading c.requires.state c.requires.inside))

pub returns-then-is_empty-clause-ok : goal.returns-then-is_empty-clause-ok
returns-then-is_empty-clause-ok c =
    let r = reading c.args.self.now in
    let nodes = open_trees c.end.new.self.nodes.items in
    let limited : depth (branch_tree c.in_ok-node.node) ≤ r.limit = omega (arith, c.in_ok-node.ensures.limited) in
    subst (λ l. Reads r (encode_utf8 41) (record r { limit = l; nodes = nodes; root = Some c.in_ok-node.node })) (sym c.end.ensures.limit) (ends-tree r c.requires.reading c.requires.state c.requires.inside c.in_ok-node.node (open_trees c.end.new.self.nodes.items) c.in_ok-node.ensures.ok (ap open_trees (c.if-is_empty.ensures.0 refl)) limited)

pub returns-clause-ok : goal.returns-clause-ok
returns-clause-ok c =
    let r = reading c.args.self.now in
    let nodes = open_trees c.put.new.self.nodes.items in
    on_ok_weaker c.put.result (λ put. subst (λ l. Reads r (encode_utf8 41) (record r { limit = l; nodes = nodes })) (sym (c.put.ensures.limit ∙ c.end.ensures.limit)) (ends-node r c.requires.reading c.requires.state c.requires.inside c.in_ok-node.node (open_trees c.end.new.self.nodes.items) nodes c.in_ok-node.ensures.ok put)) c.put.ensures.ok
