-- What is taken from the words that are left of a line.
--     IsNamed         a word is a name
--     IsKindName      a word is a kind's name, where kinds are given names
--     IsDetail        a word is the name of what an answer shows
--     IsTaken         the first word says this, and these are left
--     Begins          the first word says this, whatever is left
--     IsLast          the one word says this
--     IsFirstBar      the first `|` of some fields is at an index
--     AreRoundBar     words are those of references, a `|`, and those of references
use Rattle.std.specs.Prelude.{◌≡◌, ◌≢◌, ℕ, ◌<◌, ◌+◌, List, [], ◌∷◌, ◌++◌, length, take, drop, codes, Some}
use Rattle.std.specs.List.{AllByRecursion}
use Rattle.cst_core.specs.SyntaxKind.{SyntaxKind}
use Rattle.tree_text.specs.KindNames.{KindName, name_in}
use Rattle.script_lines.specs.Name.{IsName}
use Rattle.script_lines.specs.Line.{Each, IsRef, detail_name}
use Rattle.script_lines.specs.LineValue.{texts_of}
use Rattle.script_lines.specs.ScriptLine.{Ref}
use Rattle.script_lines.specs.declared.field.Field.{Field}
use Rattle.script_lines.specs.declared.detail.Detail.{Detail}

abbrev pub IsNamed : List ℕ → List ℕ → Type 0
IsNamed word name = (word ≡ name) × IsName name

abbrev pub IsKindName : List KindName → List ℕ → SyntaxKind → Type 0
IsKindName given word kind = name_in given kind.0 ≡ Some word

abbrev pub IsDetail : List ℕ → Detail → Type 0
IsDetail word detail = detail_name detail ≡ word

pub record IsTaken {A : Type 0} (Says : List ℕ → A → Type 0) (all left : List (List ℕ)) (a : A) : Type 0 where
  pub word : List ℕ
  pub first : all ≡ word ∷ left
  pub says : Says word a

abbrev pub Begins : {A : Type 0} → (List ℕ → A → Type 0) → List (List ℕ) → A → Type 0
Begins Says all a = (left : List (List ℕ)) × IsTaken Says all left a

abbrev pub IsLast : {A : Type 0} → (List ℕ → A → Type 0) → List (List ℕ) → A → Type 0
IsLast Says all a = IsTaken Says all [] a

pub record IsFirstBar (fields : List Field) (i : ℕ) : Type 0 where
  pub within : i < length fields
  pub is : texts_of fields ≡ texts_of (take i fields) ++ codes "|" ∷ texts_of (drop (i + 1) fields)
  pub none_before : AllByRecursion (λ f. f ≢ codes "|") (texts_of (take i fields))

pub record AreRoundBar (all : List (List ℕ)) (refs : List Ref × List Ref) : Type 0 where
  pub before : List (List ℕ)
  pub after : List (List ℕ)
  pub is : all ≡ before ++ codes "|" ∷ after
  pub are_before : Each IsRef before refs.0
  pub are_after : Each IsRef after refs.1
