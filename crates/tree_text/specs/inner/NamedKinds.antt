-- What holds of the names of kinds that are given names.
--     AreNamed    kinds are given these names: each kind in the list has the name that stands beside it, and all are names
--     AreKept     a table has the kind of each of these names, and no others
use Rattle.std.specs.Prelude.{◌≡◌, ℕ, List, None, Some, nat_eq, String}
use Rattle.std.specs.List.{All}
use Rattle.std.specs.Map.{lookup}
use Rattle.std.specs.HashMap.{HashMap, get_by_text}
use Rattle.std.specs.Global.{Global}
use Rattle.cst_core.specs.SyntaxKind.{SyntaxKind}
use Rattle.tree_text.specs.KindNames.{KindName, AreNames, name_in}

pub record AreNamed (given : List KindName) : Type 0 where
  pub beside : All (λ e. name_in given e.0 ≡ Some e.1) given
  pub names : AreNames (name_in given)

pub record AreKept {S : Type 0} (table : HashMap (String Global) SyntaxKind S) (given : List KindName) : Type 0 where
  pub named : AreNamed given
  pub sound : (name : List ℕ) (kind : SyntaxKind) → get_by_text table name ≡ Some kind → name_in given kind.0 ≡ Some name
  pub full : (name : List ℕ) → get_by_text table name ≡ None → (k : ℕ) → lookup (nat_eq k) given ≡ Some name → ⊥
