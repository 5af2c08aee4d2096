use Rattle.tree_text.proofs.Excluding.{malformed-knows, malformed-once, malformed-never}
use Rattle.tree_text.proofs.laws.malformed_lacks_no_name.Goals as goal

pub returns-clause-excludes : goal.returns-clause-excludes
returns-clause-excludes c = λ gaps w i j malformed lacks. malformed-knows c.args.names.now gaps w i j malformed lacks c.are_names.ensures

pub returns-clause-once : goal.returns-clause-once
returns-clause-once c = λ gaps w i j one other. malformed-once c.args.names.now gaps w i j one other

pub returns-clause-never : goal.returns-clause-never
returns-clause-never c = λ gaps w i malformed more keeps t whole. malformed-never c.args.names.now gaps w i malformed more keeps t whole
