use Rattle.std.proofs.Common.{◌≡◌, ◌+◌, map, take, Some, refl, ap, ◌∙◌}
use Rattle.std.specs.Prelude.{IsSome}
use Rattle.green_tree.specs.Path.{above}
use Rattle.green_tree.specs.Tree.{at}
use Rattle.green_tree.specs.Green.{leaf_tree}
use Rattle.cst_core.specs.Element.{element_at}
use Rattle.cst_core.proofs.Ancestors.{listed_more, listed_all, child_on_way, token_ends_way, way_goes_on}
use Rattle.cst_core.proofs.location.Location.nodes_from_root.Goals as goal

pub loop-depth-init : goal.loop-depth-init
loop-depth-init c = record {
  there = rw (← c.self.view_is) refl;
  listed = c.in_ok-all.ensures.items;
}

pub invariant_of-node : goal.invariant_of-node
invariant_of-node c = record {
  there = c.loop-depth.invariant.there;
  top = rw (← c.self.view_is) c.self.invariant.top;
  fits = rw (← c.self.view_is) c.self.invariant.fits;
}

pub loop-depth-preserved : goal.loop-depth-preserved
loop-depth-preserved c =
    let path = c.as_slice-path.result.now in
    let found = child_on_way c.args.self.now.root c.loop-depth.green.now c.children.result.now path c.loop-depth.depth c.in-Some-Node.field-0.now c.loop-depth.invariant.there c.loop-depth-test.true c.children.ensures c.in-Some-Node.ensures.lookup.3.0 c.in-Some-Node.ensures.lookup.1 in
    record {
      there = rw c.in-Some-Node.field-0-is at found;
      listed = rw c.in_ok-push.ensures.items (listed_more c.args.self.now path c.loop-depth.depth c.loop-depth.all.items c.in_ok-to_node.field-0 c.loop-depth-test.true c.loop-depth.invariant.listed c.in_ok-to_node.ensures);
    }

pub returns-in-Some-Token : goal.returns-in-Some-Token
returns-in-Some-Token c =
    let path = c.as_slice-path.result.now in
    let some : IsSome (at c.args.self.now.root path) = rw (c.as_slice-path.ensures, ← c.self.view_is) c.self.invariant.there in
    let own : path ≡ c.args.self.now.path = c.as_slice-path.ensures ∙ ap (λ e. e.path) c.self.view_is in
    let found = child_on_way c.args.self.now.root c.loop-depth.green.now c.children.result.now path c.loop-depth.depth c.in-Some-Token.field-0.now c.loop-depth.invariant.there c.loop-depth-test.true c.children.ensures c.in-Some-Token.ensures.lookup.3.0 c.in-Some-Token.ensures.lookup.1 in
    let token : at c.args.self.now.root (take (c.loop-depth.depth + 1) path) ≡ Some (leaf_tree c.in-Some-Token.field-0-0) = rw c.in-Some-Token.field-0-is at found in
    let last = token_ends_way c.args.self.now.root c.in-Some-Token.field-0-0 path (c.loop-depth.depth + 1) token some in
    let more = listed_more c.args.self.now path c.loop-depth.depth c.loop-depth.all.items c.in_ok-to_node.field-0 c.loop-depth-test.true c.loop-depth.invariant.listed c.in_ok-to_node.ensures in
    rw c.in_ok-push.ensures.items (more ∙ listed_all c.args.self.now path (c.loop-depth.depth + 1) last ∙ ap (λ p. map (element_at c.args.self.now) (above p)) own)

pub unreachable-requires : goal.unreachable-requires
unreachable-requires c =
    let path = c.as_slice-path.result.now in
    let some : IsSome (at c.args.self.now.root path) = rw (c.as_slice-path.ensures, ← c.self.view_is) c.self.invariant.there in
    way_goes_on c.args.self.now.root c.loop-depth.green.now c.children.result.now path c.loop-depth.depth c.loop-depth.invariant.there some c.loop-depth-test.true c.children.ensures c.in-None.ensures.lookup.3

pub returns : goal.returns
returns c =
    let path = c.as_slice-path.result.now in
    let own : path ≡ c.args.self.now.path = c.as_slice-path.ensures ∙ ap (λ e. e.path) c.self.view_is in
    c.loop-depth.invariant.listed ∙ listed_all c.args.self.now path c.loop-depth.depth c.loop-depth-test.false ∙ ap (λ p. map (element_at c.args.self.now) (above p)) own
