use Rattle.tree_text.specs.inner.Reading.{reading}
use Rattle.tree_text.proofs.Finishing.{ended, unfinished}
use Rattle.tree_text.proofs.reader.Reader.finish.Goals as goal

pub returns-clause-err : goal.returns-clause-err
returns-clause-err c =
    ended c.args.self.root c.misses-missing.result c.args.self.at c.expected_at_end.result c.ok_or.result _ c.ok_or.ensures.value c.misses-missing.ensures (unfinished (reading c.args.self) c.requires)
