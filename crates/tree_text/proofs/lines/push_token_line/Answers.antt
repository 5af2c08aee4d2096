use Rattle.std.proofs.Common.{◌≡◌, ◌++◌, length, string_bytes, codes, rules}
use Rattle.tree_text.specs.Escape.{escaped}
use Rattle.tree_text.specs.KindNames.{text_in}
use Rattle.tree_text.specs.Lines.{line}
use Rattle.tree_text.specs.inner.Indents.{indent}
use Rattle.tree_text.proofs.OpenLines.{ended, four_pieces}
use Rattle.tree_text.proofs.lines.push_token_line.Goals as goal

pub returns : goal.returns
returns c =
    let begun : string_bytes c.push_line.new.out ≡ string_bytes c.args.out.now ++ line (indent c.args.level) (text_in c.args.names.now c.args.token.now.kind) c.args.start (length c.args.token.now.text) = search rules in
    let quoted : string_bytes c.push_escaped.new.out ≡ string_bytes c.push_str.new.self ++ escaped c.args.token.now.text = search rules in
    ended c.push_str-2.result (string_bytes c.push_str-2.new.self) (string_bytes c.push_escaped.new.out) (codes "\"\n") _ c.push_str-2.ensures.bytes (four_pieces _ _ _ _ _ _ _ _ begun c.in_ok-push_str.ensures.bytes quoted)
