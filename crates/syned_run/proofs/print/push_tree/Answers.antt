use Rattle.std.proofs.Common.{◌≡◌, ◌++◌, Err, OnOk, codes, string_bytes, ap, subst, ◌∙◌}
use Rattle.cst_core.specs.Green.{branch_tree}
use Rattle.syned_run.proofs.Printed.{no_tree_line, tree_line_is}
use Rattle.syned_run.proofs.print.push_tree.Goals as goal

pub returns-in-Err-NoName : goal.returns-in-Err-NoName
returns-in-Err-NoName c = no_tree_line c.args.names.now (branch_tree c.args.new.now) _ c.in-Err-NoName.field-0-0.0 (string_bytes c.args.out.now) (c.write_tree_with.ensures.no_name c.in-Err-NoName.field-0-0.0) (c.in-Err-NoName.is ∙ ap Err c.in-Err-NoName.field-0-is)

pub returns : goal.returns
returns c =
    let names = c.args.names.now in
    let tree = branch_tree c.args.new.now in
    let line = ap (λ e. codes "tree " ++ e ++ codes "\n") c.in-Ok.ensures.ok ∙ tree_line_is names tree c.write_tree_with.result _ c.write_tree_with.ensures.no_name c.in-Ok.is in
    subst (λ l. OnOk c.write.result (string_bytes c.write.new.self ≡ string_bytes c.args.out.now ++ l)) line c.write.ensures.bytes
