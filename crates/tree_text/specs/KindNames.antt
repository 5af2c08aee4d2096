-- Names of kinds, of one's own beside the 65.
--     KindName                      The number of a kind, and the name that it is given.
--     name_in                       The name of a kind: one of the 65, or else the one that it is given; `None` if it has none.
--     text_in                       The name of a kind, or `SyntaxKind(66)` if it has none.
--     next_kind                     The number after the 65 and after as many more as there are given names.
--     IsTaken                       A kind has this name.
--     is_name_byte, is_name         An ASCII letter, a digit or an underscore; a text of these alone, and not empty.
--     AreNames                      Names of kinds are spelled so, and no two kinds have the same.
use Rattle.std.specs.Prelude.{◌≡◌, ℕ, ◌+◌, Bool, true, not, ◌&&◌, ◌||◌, ◌==◌, List, Option, Some, unwrap_or, nat_eq, length}
use Rattle.std.specs.List.{list_all}
use Rattle.std.specs.Char.{is_ascii_alphanumeric}
use Rattle.std.specs.Map.{lookup}
use Rattle.std.specs.Option.{option_or}
use Rattle.cst_core.specs.Kind.{name_of, kind_text}

abbrev pub KindName : Type 0
KindName = ℕ × List ℕ

abbrev pub name_in : List KindName → ℕ → Option (List ℕ)
name_in given k = option_or (name_of k) (lookup (nat_eq k) given)

abbrev pub text_in : List KindName → ℕ → List ℕ
text_in given k = unwrap_or (name_in given k) (kind_text k)

abbrev pub next_kind : List KindName → ℕ
next_kind given = 65 + length given

abbrev pub IsTaken : List KindName → List ℕ → Type 0
IsTaken given name = (k : ℕ) × (name_in given k ≡ Some name)

abbrev pub is_name_byte : ℕ → Bool
is_name_byte b = is_ascii_alphanumeric b || b == 95

abbrev pub is_name : List ℕ → Bool
is_name s = not (length s == 0) && list_all is_name_byte s

pub record AreNames (names : ℕ → Option (List ℕ)) : Type 0 where
  pub spelled : (k : ℕ) (n : List ℕ) → names k ≡ Some n → is_name n ≡ true
  pub unique : (j k : ℕ) (n : List ℕ) → names j ≡ Some n → names k ≡ Some n → j ≡ k
