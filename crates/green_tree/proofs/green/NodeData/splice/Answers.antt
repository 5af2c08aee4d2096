use Rattle.std.proofs.Common.{◌≡◌, ◌+◌, ◌-◌, ◌++◌, take, drop, ap, sym, subst, ◌∙◌, arith, append_assoc, List}
use Rattle.green_tree.specs.declared.green.GreenElement.{GreenElement}
use Rattle.green_tree.specs.inner.Summaries.{Summarizes}
use Rattle.green_tree.proofs.Splices.{three-parts, spliced-items}
use Rattle.green_tree.proofs.green.NodeData.splice.Goals as goal

pub end_change-requires : goal.end_change-requires
end_change-requires c =
    let es : List GreenElement = c.args.self.now.children.items in
    let ran = c.in_ok-splice.ensures.items in
    let all : ran.1 ≡ c.args.new.items = spliced-items ran.0 ran.1 c.args.new.items ran.2.0 (ran.2.1 ∙ c.args.new.ok.0) ran.3 in
    let so_many : c.args.first + c.args.count - c.args.first ≡ c.args.count = omega arith in
    let parts = three-parts c.args.first c.args.count es in
    record {
      left = take c.args.first es;
      gone = take c.args.count (drop c.args.first es);
      come = c.args.new.items;
      right = drop (c.args.first + c.args.count) es;
      now = ran.4 ∙ ap (λ xs. take c.args.first es ++ (xs ++ drop (c.args.first + c.args.count) es)) all ∙ sym (append_assoc (take c.args.first es) c.args.new.items (drop (c.args.first + c.args.count) es));
      knew = subst (λ xs. Summarizes xs c.args.self.now.summary) (sym parts) c.requires.knows;
      knew_gone = subst (λ n. Summarizes (take n (drop c.args.first es)) c.of-removed.result) so_many (subst (λ xs. Summarizes (take (c.args.first + c.args.count - c.args.first) (drop c.args.first xs)) c.of-removed.result) c.deref.ensures.value c.of-removed.ensures);
      knew_come = subst (λ xs. Summarizes xs c.of-added.result) c.deref-2.ensures.value c.of-added.ensures;
    }

pub returns-clause-ok : goal.returns-clause-ok
returns-clause-ok c =
    let es : List GreenElement = c.args.self.now.children.items in
    let ran = c.in_ok-splice.ensures.items in
    let all : ran.1 ≡ c.args.new.items = spliced-items ran.0 ran.1 c.args.new.items ran.2.0 (ran.2.1 ∙ c.args.new.ok.0) ran.3 in
    let kept = c.end_change.ensures.kept in
    (kept.0, kept.1 ∙ ran.4 ∙ ap (λ xs. take c.args.first es ++ (xs ++ drop (c.args.first + c.args.count) es)) all ∙ sym (append_assoc (take c.args.first es) c.args.new.items (drop (c.args.first + c.args.count) es)))
