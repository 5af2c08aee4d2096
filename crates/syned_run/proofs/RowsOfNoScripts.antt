-- Bytes that are no script: no text, or too many.
use Rattle.std.specs.Prelude.{◌≡◌, ℕ, ◌<◌, false, List, [], ◌∷◌, ◌++◌, length, codes, refl}
use Rattle.std.specs.Fmt.{digits}
use Rattle.std.specs.Char.{encode_utf8}
use Rattle.std.specs.Str.{is_utf8, chars}
use Rattle.std.proofs.Common.{sym, ◌∙◌, inl, inr}
use Rattle.std.proofs.lemmas.Bool.{false≢true}
use Rattle.std.proofs.lemmas.Str.{is_utf8-from_IsUtf8}
use Rattle.syned_run.specs.Answer.{bad_text}
use Rattle.syned_run.specs.inner.SynedAnswer.{IsAnswer}
use Rattle.syned_run.proofs.ScriptTrees.{text_U, on_arguments}

no_text : (bytes : List ℕ) → is_utf8 bytes ≡ false → IsAnswer bytes 2 (bad_text 0)
no_text bytes other = inl (inr (λ text. false≢true (sym other ∙ is_utf8-from_IsUtf8 bytes text)), refl, refl)

no_text_in_the_first_line : IsAnswer (255 ∷ 10 ∷ []) 2 (codes "bad script line 0\n")
unfolding digits is_utf8 chars encode_utf8
no_text_in_the_first_line = no_text _ refl

no_text_after_a_bad_line : IsAnswer (codes "no\n" ++ 192 ∷ 128 ∷ 10 ∷ []) 2 (codes "bad script line 0\n")
unfolding digits is_utf8 chars encode_utf8
no_text_after_a_bad_line = no_text _ refl

half_a_pair_in_a_comment : IsAnswer (codes "# " ++ 237 ∷ 160 ∷ 128 ∷ 10 ∷ []) 2 (codes "bad script line 0\n")
unfolding digits is_utf8 chars encode_utf8
half_a_pair_in_a_comment = no_text _ refl

half_a_character : IsAnswer (codes "# " ++ 195 ∷ []) 2 (codes "bad script line 0\n")
unfolding digits is_utf8 chars encode_utf8
half_a_character = no_text _ refl

no_text_after_the_end : IsAnswer (on_arguments (text_U ++ codes "finish\n" ++ 255 ∷ [])) 2 (codes "bad script line 0\n")
unfolding digits is_utf8 chars encode_utf8
no_text_after_the_end = no_text _ refl

no_text_after_a_refused_call : IsAnswer (on_arguments (text_U ++ codes "delete R\n# " ++ 255 ∷ 10 ∷ [])) 2 (codes "bad script line 0\n")
unfolding digits is_utf8 chars encode_utf8
no_text_after_a_refused_call = no_text _ refl

-- more bytes than the longest script has, whatever they are
too_many_bytes : (bytes : List ℕ) → 1048576 < length bytes → IsAnswer bytes 2 (codes "bad script line 0\n")
unfolding digits
too_many_bytes bytes many = inl (inl many, refl, refl)
