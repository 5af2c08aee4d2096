-- The first word of a text.
--     IsBehindSpaces      a text is this behind spaces, if there are any
--     IsBeforeSpaces      a text is this before spaces, if there are any
--     HasNoSpace          no byte is a space
--     IsCutAtSpace        a text is cut at its first space; there is nothing behind, if it has none
--     IsFirstWord         the first word of a text, and what is behind it
--     IsLeft              a text without the spaces that it begins with
--     IsSpread            a line's text without the spaces at its end
use Rattle.std.specs.Prelude.{◌≡◌, ◌≢◌, ℕ, List, [], ◌∷◌, ◌++◌, ◌⊎◌}
use Rattle.std.specs.List.{AllByRecursion}
use Rattle.script_lines.specs.Line.{IsSpaces, line_text}

pub record IsBehindSpaces (text left : List ℕ) : Type 0 where
  pub spaces : List ℕ
  pub is : text ≡ spaces ++ left
  pub all_spaces : IsSpaces spaces

pub record IsBeforeSpaces (text left : List ℕ) : Type 0 where
  pub spaces : List ℕ
  pub is : text ≡ left ++ spaces
  pub all_spaces : IsSpaces spaces

abbrev pub HasNoSpace : List ℕ → Type 0
HasNoSpace text = AllByRecursion (λ b. b ≢ 32) text

pub record IsCutAtSpace (text word behind : List ℕ) : Type 0 where
  pub is : (text ≡ word ++ 32 ∷ behind) ⊎ ((text ≡ word) × (behind ≡ []))
  pub no_space : HasNoSpace word

pub record IsFirstWord (text word behind : List ℕ) : Type 0 where
  pub left : List ℕ
  pub trimmed : IsBehindSpaces text left
  pub cut : IsCutAtSpace left word behind
  pub not_empty : word ≢ []

abbrev pub IsLeft : List ℕ → List ℕ → Type 0
IsLeft text left = IsBehindSpaces text left × ((t : List ℕ) → left ≢ 32 ∷ t)

abbrev pub IsSpread : List ℕ → List ℕ → Type 0
IsSpread line text = IsBeforeSpaces (line_text line) text × ((t : List ℕ) → text ≢ t ++ 32 ∷ [])
