use Rattle.std.proofs.Common.{◌≡◌, ap, sym, ◌∙◌, nat_eq, true}
use Rattle.std.specs.Prelude.{◌&&◌}
use Rattle.green_tree.specs.Tree.{forest}
use Rattle.green_tree.proofs.FirstNode.{top-starts}
use Rattle.green_tree.proofs.first_node.starts_as.Goals as goal

pub returns-then-eq : goal.returns-then-eq
returns-then-eq c =
    let kind = c.args.kind.0 in
    let begin = c.args.begin in
    let offset = c.args.offset in
    let node = c.args.node.now in
    let same : nat_eq node.kind kind ≡ true = ap (λ k. nat_eq k kind) (sym c.kind.ensures) ∙ sym c.eq.ensures ∙ c.if-eq.true in
    sym (top-starts kind begin offset node.kind (forest node.children) ∙ ap (λ b. b && nat_eq begin offset) same)
