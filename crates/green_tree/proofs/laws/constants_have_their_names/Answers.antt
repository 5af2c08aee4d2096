use Rattle.std.proofs.Common.{Some, refl}
use Rattle.green_tree.specs.Kind.{name_of, named_kinds}
use Rattle.green_tree.proofs.KindNames.{All-equal}
use Rattle.green_tree.proofs.laws.constants_have_their_names.Goals as goal

pub returns : goal.returns
returns c = All-equal (λ r. name_of r.0.0) (λ r. Some r.1) named_kinds refl
