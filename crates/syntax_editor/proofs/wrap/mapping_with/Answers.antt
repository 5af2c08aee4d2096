use Rattle.std.specs.Prelude.{[], unwrap_or}
use Rattle.edit_map.proofs.Tables.{made-again}
use Rattle.syntax_editor.proofs.wrap.mapping_with.Goals as goal

pub returns : goal.returns
returns c = made-again c.args.pairs.pairs (unwrap_or c.args.factory.now []) c.in_ok-mapping.mapping c.add_mapping.new.self c.in_ok-mapping.ensures c.in_ok-add_mapping.ensures.ok
