use Rattle.std.proofs.Common.{◌≡◌, ◌++◌, length, string_bytes, codes, ap, ◌∙◌, append_assoc, rules}
use Rattle.cst_core.specs.Green.{texts}
use Rattle.tree_text.specs.KindNames.{text_in}
use Rattle.tree_text.specs.Lines.{line}
use Rattle.tree_text.specs.inner.Indents.{indent}
use Rattle.tree_text.proofs.OpenLines.{ended}
use Rattle.tree_text.proofs.lines.push_node_line.Goals as goal

pub returns : goal.returns
returns c =
    let own = line (indent c.args.level) (text_in c.args.names.now c.args.node.now.kind) c.args.start (length (texts c.args.node.now.children)) in
    let begun : string_bytes c.push_line.new.out ≡ string_bytes c.args.out.now ++ own = search rules in
    ended c.push_str.result (string_bytes c.push_str.new.self) (string_bytes c.push_line.new.out) (codes "\n") _ c.push_str.ensures.bytes (ap (λ l. l ++ codes "\n") begun ∙ append_assoc (string_bytes c.args.out.now) own (codes "\n"))
