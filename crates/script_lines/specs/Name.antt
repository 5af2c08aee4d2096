-- Names of a script.
--     is_name_byte, starts_with_letter, IsName  An ASCII letter, a digit or an underscore; a text begins with a letter; it does, has only
--                                   such bytes, and at most 32 of them.
use Rattle.std.specs.Prelude.{ℕ, ◌≤◌, ◌==◌, Bool, false, ◌||◌, List, [], ◌∷◌, length, IsTrue}
use Rattle.std.specs.List.{AllPass}
use Rattle.std.specs.Char.{is_ascii_digit, is_ascii_alphabetic}

abbrev pub is_name_byte : ℕ → Bool
is_name_byte b = is_ascii_alphabetic b || is_ascii_digit b || b == 95

abbrev pub starts_with_letter : List ℕ → Bool
starts_with_letter [] = false
starts_with_letter (b ∷ bs) = is_ascii_alphabetic b

abbrev pub IsName : List ℕ → Type 0
IsName text = IsTrue (starts_with_letter text) × AllPass is_name_byte text × (length text ≤ 32)
