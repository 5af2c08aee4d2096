-- How many units a text has, character by character; and where lines start.
use Rattle.std.proofs.Common.{◌≡◌, ◌∙◌, ◌+◌, ◌-◌, ◌<◌, ◌≤◌, ℕ, Bool, true, false, cond, zero, suc, List, [], ◌∷◌, ◌++◌, length, get_or, drop, ap, sym, refl, arith, add-one, IsCharBoundary}
use Rattle.std.specs.Prelude.{nat_lt, encode_utf8, ◌==◌}
use Rattle.std.specs.List.{sum_by}
use Rattle.std.specs.Char.{len_utf8}
use Rattle.std.specs.Str.{chars, IsUtf8}
use Rattle.std.proofs.lemmas.List.{length-append, length-drop, drop-drop, get_or-drop}
use Rattle.std.proofs.lemmas.List.Sums.{sum_by-cons}
use Rattle.std.proofs.lemmas.Bool.{eqb-true}
use Rattle.std.proofs.lemmas.Bool.Decides.{nat_tests}
use Rattle.std.proofs.lemmas.Str.{chars-nil, IsCharBoundary-start, IsCharBoundary-after_ascii, chars_past_char, length-encode, len_utf8_bounds}
use Rattle.text_edit.specs.Lines.{newline, starts_from, line_starts}
use Rattle.text_edit.specs.Wide.{units, wide_len}
use Rattle.text_edit.specs.declared.wide.WideEncoding.{WideEncoding}
use Rattle.text_edit.specs.declared.wide.WideEncoding.TheVariants.{Utf16, Utf32}

units-le-len : (c : ℕ) → cond (nat_lt c 0x10000) 1 2 ≤ len_utf8 c
units-le-len c = grind (arith, nat_tests)

pub wide_len-first : (encoding : WideEncoding) (s rest : List ℕ) (c : ℕ) → IsUtf8 s → s ≡ encode_utf8 c ++ rest → wide_len encoding s ≡ units encoding c + wide_len encoding rest
wide_len-first encoding s rest c utf8 is = ap (sum_by (units encoding)) (chars_past_char s rest c utf8 is) ∙ sum_by-cons (units encoding) c (chars rest)

-- no character has more units than bytes
pub units-le : (encoding : WideEncoding) (c : ℕ) → units encoding c ≤ length (encode_utf8 c)
units-le Utf16 c = rw (length-encode c) (units-le-len c)
units-le Utf32 c = rw (length-encode c) (len_utf8_bounds c).0

pub wide_len-nil : (encoding : WideEncoding) → wide_len encoding [] ≡ 0
wide_len-nil encoding = ap (sum_by (units encoding)) chars-nil

pub length-first : (s rest : List ℕ) (c : ℕ) → s ≡ encode_utf8 c ++ rest → length rest < length s
length-first s rest c is = omega (arith, ap length is ∙ length-append (encode_utf8 c) rest, length-encode c, (len_utf8_bounds c).0)

-- a line starts where a character does
boundary-step : (s : List ℕ) (at : ℕ) (xs : List ℕ) (c : Bool) → (c ≡ true → IsCharBoundary s (at + 1)) → ((k : ℕ) → k < length xs → IsCharBoundary s (get_or xs k 0)) → (k : ℕ) → k < length (cond c ((at + 1) ∷ xs) xs) → IsCharBoundary s (get_or (cond c ((at + 1) ∷ xs) xs) k 0)
boundary-step s at xs true first others zero inside = first refl
boundary-step s at xs true first others (suc k) inside = others k (omega arith)
boundary-step s at xs false first others k inside = others k inside

boundary-starts : (s : List ℕ) → IsUtf8 s → (at : ℕ) (bs : List ℕ) → drop at s ≡ bs → (k : ℕ) → k < length (starts_from at bs) → IsCharBoundary s (get_or (starts_from at bs) k 0)
boundary-starts s utf8 at [] is k inside = absurd (omega arith)
boundary-starts s utf8 at (b ∷ bs) is k inside =
    let len : length s - at ≡ length bs + 1 = sym (length-drop at s) ∙ ap length is ∙ sym (add-one (length bs)) in
    let within : at < length s = omega arith in
    let whole : at + 0 ≡ at = omega arith in
    let byte : get_or s at 0 ≡ b = ap (λ n. get_or s n 0) (sym whole) ∙ sym (get_or-drop at s 0 0) ∙ ap (λ t. get_or t 0 0) is in
    let rest : drop (at + 1) s ≡ bs = sym (drop-drop 1 at s) ∙ ap (drop 1) is in
    boundary-step s at (starts_from (at + 1) bs) (b == newline)
    (λ h. let ends : b ≡ 10 = eqb-true b 10 h in IsCharBoundary-after_ascii s at utf8 within (omega arith))
    (boundary-starts s utf8 (at + 1) bs rest) k inside

pub boundary-start : (s : List ℕ) → IsUtf8 s → (k : ℕ) → k < length (line_starts s) → IsCharBoundary s (get_or (line_starts s) k 0)
boundary-start s utf8 zero inside = IsCharBoundary-start s utf8
boundary-start s utf8 (suc k) inside = boundary-starts s utf8 0 s refl k (omega arith)
