use Rattle.std.proofs.lemmas.List.Elements.{All-nil}
use Rattle.cst_core.specs.inner.InTree.{address_path}
use Rattle.edit_map.specs.Builder.{IsPair}
use Rattle.edit_map.proofs.Distinct.{distinct-nothing}
use Rattle.edit_map.proofs.Numbered.{numbered-nothing}
use Rattle.edit_map.proofs.mapping.SyntaxMapping.new.Goals as goal

pub invariant_of-result : goal.invariant_of-result
invariant_of-result c =
    rw c.new.ensures.items (record {
      mapping = record { pairs = All-nil IsPair; distinct = distinct-nothing };
      numbered = numbered-nothing c.new-2.result c.new-2.ensures.tree (λ x. c.new-2.ensures.empty (address_path x));
    })
