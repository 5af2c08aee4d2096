use Rattle.std.proofs.Common.{rules, sym, ◌∙◌, ap}
use Rattle.change_list.specs.inner.Indexing.{replaced_at}
use Rattle.change_list.proofs.Indexed.{said-pushed}
use Rattle.change_list.proofs.change_list.ChangeList.push.Goals as goal

pub invariant_of-self-2 : goal.invariant_of-self-2
invariant_of-self-2 c =
    record {
      says = λ p. c.self.invariant.says p ∙ sym (said-pushed c.self.inside.changes.items c.args.change c.requires p) ∙ ap (replaced_at p) (sym c.in_ok-push.ensures.items);
      tree = c.self.invariant.tree;
    }

pub returns-clause-ok : goal.returns-clause-ok
returns-clause-ok c = search rules

pub returns-clause-err : goal.returns-clause-err
returns-clause-err c = search rules
