use Rattle.std.proofs.Common.{◌≡◌, ◌++◌, reverse, append-nil, ap, ◌∙◌}
use Rattle.edit_map.specs.Builder.{IsMadeOf}
use Rattle.edit_map.proofs.Making.{made-through}
use Rattle.edit_map.proofs.mapping.SyntaxMapping.try_clone.Goals as goal

pub returns-clause-ok : goal.returns-clause-ok
returns-clause-ok c =
    let pairs = reverse c.in_ok-cloned_pairs.field-0.items in
    let all : pairs ++ c.new-clone.result ≡ pairs = ap (λ m. pairs ++ m) c.new-clone.ensures.empty ∙ append-nil pairs in
    let made : IsMadeOf pairs c.take_in.new.self = rw all at c.in_ok-take_in.ensures.ok in
    made-through c.args.self.now pairs c.take_in.new.self c.in_ok-cloned_pairs.ensures.0 made
