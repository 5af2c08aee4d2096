use Rattle.std.proofs.Common.{◌+◌, sym, ap, ◌∙◌}
use Rattle.cst_core.specs.GreenElement.{element_trees}
use Rattle.whitespace.specs.inner.OpenNodes.{begun}
use Rattle.whitespace.proofs.OpenNodes.{begun_changed}
use Rattle.whitespace.proofs.shift.OpenNode.advance.Goals as goal
use Rattle.whitespace.proofs.shift.OpenNode.advance.Goals.{in-Some+in_ok-push_changed, in_default}

pub returns : goal.returns
returns c =
    let o = c.args.self.now in
    elim c.match-new.branch [
      | in-Some+in_ok-push_changed w ↦ record {
        node = ap (λ a. a.node.now) w.self-is;
        next = ap (λ a. a.slot + 1) w.self-is;
        built =
            ap (λ a. element_trees a.built.items) w.self-is
            ∙ begun_changed o c.children-children.result.now w.in-Some.new _ c.children-children.ensures w.in_ok-push_changed.ensures
            ∙ sym (ap (begun o) w.in-Some.is);
      }
      | in_default w ↦ record {
        node = ap (λ a. a.node.now) w.self-is;
        next = ap (λ a. a.slot + 1) w.self-is;
        built = ap (λ a. element_trees a.built.items) w.self-is ∙ sym (ap (begun o) w.in_default.is);
      }
    ]
