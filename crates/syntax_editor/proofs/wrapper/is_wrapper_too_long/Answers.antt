use Rattle.std.specs.Prelude.{◌+◌}
use Rattle.std.proofs.Common.{arith}
use Rattle.std.proofs.lemmas.Bool.{leb-true, le-leb}
use Rattle.cst_core.specs.Green.{length_limit}
use Rattle.cst_core.specs.Element.{subtree}
use Rattle.syntax_editor.specs.Making.{trees_of}
use Rattle.syntax_editor.proofs.FreshNodes.{wrapper-length}
use Rattle.syntax_editor.proofs.wrapper.is_wrapper_too_long.Goals as goal

pub returns : goal.returns
returns c kind =
    let sum = wrapper-length (trees_of c.args.before.now) (trees_of c.args.after.now) (subtree c.args.node.now) in
    let capped = c.length_of.result + c.text_len.result + c.length_of-2.result in
    (λ yes. omega (arith, sum, leb-true length_limit capped yes, c.length_of.ensures, c.length_of-2.ensures, c.text_len.ensures.length), λ long. le-leb length_limit capped (omega (arith, sum, long, c.length_of.ensures, c.length_of-2.ensures, c.text_len.ensures.length)))
