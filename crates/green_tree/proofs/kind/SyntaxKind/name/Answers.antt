use Rattle.std.proofs.Common.{ap, option_map, ◌∙◌}
use Rattle.green_tree.specs.Kind.{name_of}
use Rattle.green_tree.proofs.KindNames.{name_of-get}
use Rattle.green_tree.proofs.kind.SyntaxKind.name.Goals as goal

pub returns : goal.returns
returns c =
    ap (option_map (λ s. s.now)) c.copied.ensures
    ∙ name_of-get _ c.kind_names.ensures _ _ c.get.ensures.lookup
    ∙ ap name_of c.from.ensures
