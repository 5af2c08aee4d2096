-- Texts as they stand between two quotes of a tree expression. Their bytes are escaped one by one: what has an escape is ASCII.
--     escape, escaped               What is written for a byte: its escape if it has one, else the byte alone; a text with every byte so
--                                   written.
--
-- The text of `(LITERAL IDENT"a\"b")` is `a"b`, and its `escaped` form is `a\"b`.
use Rattle.std.specs.Prelude.{ℕ, List, [], ◌∷◌, ◌==◌, if◌then◌else◌, codes}
use Rattle.std.specs.List.{flat_map}

abbrev pub escape : ℕ → List ℕ
escape b =
    if b == 10 then codes "\\n" else
    if b == 13 then codes "\\r" else
    if b == 9 then codes "\\t" else
    if b == 34 then codes "\\\"" else
    if b == 92 then codes "\\\\" else
    b ∷ []

abbrev pub escaped : List ℕ → List ℕ
escaped bytes = flat_map escape bytes
