use Rattle.std.proofs.Common.{arith}
use Rattle.green_tree.proofs.Summaries.{part-le, exchanged-length}
use Rattle.green_tree.proofs.green.summary.Summary.after_exchange.Goals as goal

pub overflow_sub-rest : goal.overflow_sub-rest
overflow_sub-rest c = part-le c.args.children.now c.args.self c.args.removed c.args.added c.requires

pub returns : goal.returns
returns c = record {
  length = exchanged-length c.args.children.now c.args.self c.args.removed c.args.added c.requires c.min.result c.if-self-ge-LENGTH_LIMIT.false (omega (arith, c.min.ensures));
  token = c.token_after.ensures;
}
