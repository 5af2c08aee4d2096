-- How words are kept in code: in the order of their first use, and with their annotations in a table.
--     number_from         the number of a word among words that are numbered from a first one, if it is there
--     IsNumbered          a word has its number, which is one of as many as there are words
--     AreNumbered         each word does, and the table has these numbers
use Rattle.std.specs.Prelude.{◌≡◌, ℕ, suc, ◌≤◌, cond, String, List, [], ◌∷◌, length, Option, Some, None}
use Rattle.std.specs.List.{AllByRecursion}
use Rattle.std.specs.Str.{bytes_eq}
use Rattle.std.specs.String.{string_bytes}
use Rattle.std.specs.HashMap.{HashMap, get_by_text}
use Rattle.std.specs.Global.{Global}
use Rattle.syned_script.specs.State.{annotation_of}
use Rattle.syned_script.specs.WordValue.{texts_of}
use Rattle.syned_script.specs.declared.words.Word.{Word}

abbrev pub number_from : ℕ → List (List ℕ) → List ℕ → Option ℕ
number_from n [] word = None
number_from n (w ∷ ws) word = cond (bytes_eq word w) (Some n) (number_from (suc n) ws word)

abbrev pub IsNumbered : List (List ℕ) → Word → Type 0
IsNumbered words w = (w.annotation ≡ annotation_of words (string_bytes w.text)) × (w.annotation ≤ length words)

pub record AreNumbered {S : Type 0} (table : HashMap (String Global) ℕ S) (words : List Word) : Type 0 where
  pub numbers : AllByRecursion (IsNumbered (texts_of words)) words
  pub kept : (word : List ℕ) → get_by_text table word ≡ number_from 1 (texts_of words) word
