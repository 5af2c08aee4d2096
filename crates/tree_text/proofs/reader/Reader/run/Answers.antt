use Rattle.std.proofs.Common.{sym, subst}
use Rattle.tree_text.specs.inner.Reading.{ReadsUpTo, reading}
use Rattle.tree_text.proofs.RunSteps.{read-nothing, read-run}
use Rattle.tree_text.proofs.reader.Reader.run.Goals as goal

pub returns-then-count-eq0-clause-ok : goal.returns-then-count-eq0-clause-ok
returns-then-count-eq0-clause-ok c = read-nothing (reading c.args.self.now) c.requires c.args.text.now

pub returns-in_default-clause-ok : goal.returns-in_default-clause-ok
returns-in_default-clause-ok c = read-nothing (reading c.args.self.now) c.requires c.args.text.now

pub returns-clause-ok : goal.returns-clause-ok
returns-clause-ok c =
    let r = reading c.args.self.now in
    subst (λ w. ReadsUpTo r c.args.text.now c.in-Some.left.now (record r { word = w })) (sym c.in_ok-push_str.ensures.bytes) (read-run r c.requires c.args.text.now c.in-Some.taken.now c.in-Some.left.now c.run_length-count.result c.run_length-count.ensures c.in-Some.ensures.front c.in-Some.ensures.back)
