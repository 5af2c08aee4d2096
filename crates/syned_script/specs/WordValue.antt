-- Annotation words in code, as contracts see them.
--     texts_of                      The texts of words.
--     word_of, with_number          A word in code, with the number of its annotation; a word with its annotation among others.
use Rattle.std.specs.Prelude.{ℕ, List, map}
use Rattle.std.specs.String.{string_bytes}
use Rattle.syned_script.specs.State.{annotation_of}
use Rattle.syned_script.specs.declared.words.Word.{Word}

abbrev pub texts_of : List Word → List (List ℕ)
texts_of ws = map (λ w. string_bytes w.text) ws

abbrev pub word_of : Word → List ℕ × ℕ
word_of w = (string_bytes w.text, w.annotation)

abbrev pub with_number : List (List ℕ) → List ℕ → List ℕ × ℕ
with_number words word = (word, annotation_of words word)
