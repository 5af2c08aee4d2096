-- Spaces around words.
--     behind-more                  one more space before a text
--     before-none, before-more     no space yet after a text, one more
use Rattle.std.proofs.Common.{◌≡◌, ◌≢◌, ℕ, suc, ◌<◌, List, [], ◌∷◌, ◌++◌, length, get_or, Option, Some, None, unwrap_or, Bor, inl, inr, refl, sym, ◌∙◌, ap, subst, append_assoc, append-nil, lit<, arith}
use Rattle.std.proofs.lemmas.Str.Pattern.{IsSplitOnceResult, split_parts}
use Rattle.script_lines.specs.Line.{IsSpaces}
use Rattle.script_lines.specs.inner.Word.{IsBehindSpaces, IsBeforeSpaces, HasNoSpace, IsCutAtSpace}

pub spaces-append : (s t : List ℕ) → IsSpaces s → IsSpaces t → IsSpaces (s ++ t)
spaces-append [] t first second = second
spaces-append (b ∷ s) t first second = (first.0, spaces-append s t first.1 second)

pub behind-more : (text left rest : List ℕ) → IsBehindSpaces text left → left ≡ 32 ∷ rest → IsBehindSpaces text rest
behind-more text left rest so_far is = record {
  spaces = so_far.spaces ++ 32 ∷ [];
  is = so_far.is ∙ ap (λ l. so_far.spaces ++ l) is ∙ sym (append_assoc so_far.spaces (32 ∷ []) rest);
  all_spaces = spaces-append so_far.spaces (32 ∷ []) so_far.all_spaces (refl, tt);
}

pub before-none : (text : List ℕ) → IsBeforeSpaces text text
before-none text = record { spaces = []; is = sym (append-nil text); all_spaces = tt }

pub before-more : (text left rest : List ℕ) → IsBeforeSpaces text left → left ≡ rest ++ 32 ∷ [] → IsBeforeSpaces text rest
before-more text left rest so_far is = record {
  spaces = 32 ∷ so_far.spaces;
  is = so_far.is ∙ ap (λ l. l ++ so_far.spaces) is ∙ append_assoc rest (32 ∷ []) so_far.spaces;
  all_spaces = (refl, so_far.all_spaces);
}

-- ---- words
pub no-space : (s : List ℕ) → ((i : ℕ) → i < length s → get_or s i 0 ≢ 32) → HasNoSpace s
no-space [] none = tt
no-space (b ∷ s) none = (none 0 (omega arith), no-space s (λ i within. none (suc i) (omega arith)))

abbrev Cut : List ℕ → Bor (List ℕ) × Bor (List ℕ) → Type 0
Cut text parts = IsCutAtSpace text parts.0.now parts.1.now

pub cut-parts : (text : List ℕ) (split : Option (Bor (List ℕ) × Bor (List ℕ))) (whole result : Bor (List ℕ) × Bor (List ℕ)) → IsSplitOnceResult 32 text split → whole.0.now ≡ text → whole.1.now ≡ [] → result ≡ unwrap_or split whole → Cut text result
cut-parts text None whole result cut is empty given =
    let none = split_parts 32 text None cut (lit< tt) in
    let here : Cut text whole = record { is = inr (sym is, empty); no_space = subst HasNoSpace (sym is) (no-space text none) } in
    subst (Cut text) (sym given) here
cut-parts text (Some x) whole result cut is empty given =
    let parts = split_parts 32 text (Some x) cut (lit< tt) in
    let here : Cut text x = record { is = inl parts.0; no_space = no-space x.0.now parts.1 } in
    subst (Cut text) (sym given) here
