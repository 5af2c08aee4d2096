use Rattle.std.proofs.Common.{[], unwrap_or}
use Rattle.edit_map.proofs.Tables.{made-again}
use Rattle.edit_map.proofs.Making.{made-ahead}
use Rattle.syntax_editor.proofs.merge.merged_mapping.Goals as goal

pub returns : goal.returns
returns c =
    let own = unwrap_or c.args.own.now [] in
    let other = unwrap_or c.args.other.now [] in
    made-again other own c.in_ok-mapping.mapping c.merge.new.self c.in_ok-mapping.ensures (made-ahead other c.in_ok-cloned_mapping.field-0 c.in_ok-mapping.mapping c.merge.new.self c.in_ok-cloned_mapping.ensures c.in_ok-merge.ensures.ok)
