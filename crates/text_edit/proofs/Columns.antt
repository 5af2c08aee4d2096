-- Beginnings of a text, and how many units they have: the longer one has more, and none ends within a character.
use Rattle.std.proofs.Common.{◌≡◌, ◌∙◌, ◌+◌, ◌-◌, ◌<◌, ◌≤◌, ℕ, cond, List, [], ◌∷◌, ◌++◌, length, take, drop, ap, sym, arith, inl, inr, IsCharBoundary}
use Rattle.std.specs.Prelude.{nat_lt, encode_utf8}
use Rattle.std.specs.List.{sum_by}
use Rattle.std.specs.Char.{len_utf8}
use Rattle.std.specs.Str.{chars, IsUtf8}
use Rattle.std.proofs.Math.Seq.{take-add}
use Rattle.std.proofs.lemmas.Bool.{cases_order, cases_lt}
use Rattle.std.proofs.lemmas.Bool.Decides.{nat_tests}
use Rattle.std.proofs.lemmas.List.{take-append-drop, length-drop, length-take-le}
use Rattle.std.proofs.lemmas.List.Sums.{sum_by-cons, sum_by-append}
use Rattle.std.proofs.lemmas.Str.{chars-append, encodes-chars, drop_past_char, IsUtf8-take, IsUtf8-drop, IsUtf8-between, IsCharBoundary-past_char}
use lib.Utf8.{encodes}
use Rattle.text_edit.specs.Wide.{units, wide_len}
use Rattle.text_edit.specs.declared.wide.WideEncoding.{WideEncoding}
use Rattle.text_edit.specs.declared.wide.WideEncoding.TheVariants.{Utf16, Utf32}
use Rattle.text_edit.proofs.Measuring.{wide_len-first}

one-or-two : (c : ℕ) → 1 ≤ cond (nat_lt c 0x10000) 1 2
one-or-two c = grind (arith, nat_tests)

units-some : (encoding : WideEncoding) (c : ℕ) → 1 ≤ units encoding c
units-some Utf16 c = one-or-two c
units-some Utf32 c = omega arith

some-of : (encoding : WideEncoding) (xs cs : List ℕ) → encodes cs ≡ xs → 0 < length xs → 0 < sum_by (units encoding) cs
some-of encoding xs [] same some = absurd (omega (arith, ap length same))
some-of encoding xs (c ∷ cs) same some = omega (arith, sum_by-cons (units encoding) c cs, units-some encoding c)

wide-some : (encoding : WideEncoding) (xs : List ℕ) → IsUtf8 xs → 0 < length xs → 0 < wide_len encoding xs
wide-some encoding xs utf8 some = some-of encoding xs (chars xs) (encodes-chars xs utf8) some

wide-append : (encoding : WideEncoding) (xs ys : List ℕ) → IsUtf8 xs → wide_len encoding (xs ++ ys) ≡ wide_len encoding xs + wide_len encoding ys
wide-append encoding xs ys utf8 = ap (sum_by (units encoding)) (chars-append xs ys utf8) ∙ sum_by-append (units encoding) (chars xs) (chars ys)

-- a text that is cut
pub wide-cut : (encoding : WideEncoding) (s : List ℕ) (n : ℕ) → IsUtf8 s → IsCharBoundary s n → wide_len encoding (take n s) + wide_len encoding (drop n s) ≡ wide_len encoding s
wide-cut encoding s n utf8 here = sym (wide-append encoding (take n s) (drop n s) (IsUtf8-take s n utf8 here)) ∙ ap (wide_len encoding) (take-append-drop n s)

pub wide-between : (encoding : WideEncoding) (s : List ℕ) (m n : ℕ) → IsUtf8 s → m ≤ n → IsCharBoundary s m → wide_len encoding (take n s) ≡ wide_len encoding (take m s) + wide_len encoding (take (n - m) (drop m s))
wide-between encoding s m n utf8 le here =
    let parts : n ≡ m + (n - m) = omega arith in
    ap (λ k. wide_len encoding (take k s)) parts ∙ ap (wide_len encoding) (take-add m (n - m) s) ∙ wide-append encoding (take m s) (take (n - m) (drop m s)) (IsUtf8-take s m utf8 here)

-- the longer beginning has more units
pub wide-more : (encoding : WideEncoding) (s : List ℕ) (m n : ℕ) → IsUtf8 s → m < n → IsCharBoundary s m → IsCharBoundary s n → wide_len encoding (take m s) < wide_len encoding (take n s)
wide-more encoding s m n utf8 less here there =
    let within : n ≤ length s = there.0 in
    let le : m ≤ n = omega arith in
    let middle : length (take (n - m) (drop m s)) ≡ n - m = length-take-le (n - m) (drop m s) (omega (arith, length-drop m s)) in
    let some : 0 < wide_len encoding (take (n - m) (drop m s)) = wide-some encoding (take (n - m) (drop m s)) (IsUtf8-between s m n utf8 le here there) (omega arith) in
    omega (arith, wide-between encoding s m n utf8 le here)

-- so one beginning has so many units
pub wide-only : (encoding : WideEncoding) (s : List ℕ) (m n : ℕ) → IsUtf8 s → IsCharBoundary s m → IsCharBoundary s n → wide_len encoding (take m s) ≡ wide_len encoding (take n s) → m ≡ n
wide-only encoding s m n utf8 here there same =
    elim (cases_order m n) [
      | inl equal ↦ equal
      | inr other ↦ elim other [ inl less ↦ absurd (omega (arith, wide-more encoding s m n utf8 less here there)) | inr less ↦ absurd (omega (arith, wide-more encoding s n m utf8 less there here)) ]
    ]

past-first : (s rest : List ℕ) (k c : ℕ) → IsUtf8 s → IsCharBoundary s k → drop k s ≡ encode_utf8 c ++ rest → wide_len Utf32 (take (k + len_utf8 c) s) ≡ wide_len Utf32 (take k s) + 1
past-first s rest k c utf8 here is =
    let left : IsUtf8 (drop k s) = IsUtf8-drop s k utf8 here in
    let there : IsCharBoundary s (k + len_utf8 c) = IsCharBoundary-past_char s rest k c here.0 left is in
    let first : wide_len Utf32 (drop k s) ≡ 1 + wide_len Utf32 rest = wide_len-first Utf32 (drop k s) rest c left is in
    let behind : wide_len Utf32 (drop (k + len_utf8 c) s) ≡ wide_len Utf32 rest = ap (wide_len Utf32) (drop_past_char s rest k c is) in
    omega (arith, wide-cut Utf32 s k utf8 here, wide-cut Utf32 s (k + len_utf8 c) utf8 there)

-- no beginning ends within a character
pub none-inside : (s rest : List ℕ) (k m c : ℕ) → IsUtf8 s → IsCharBoundary s k → IsCharBoundary s m → k < m → drop k s ≡ encode_utf8 c ++ rest → m < k + len_utf8 c → ⊥
none-inside s rest k m c utf8 here there less is inside =
    let end : IsCharBoundary s (k + len_utf8 c) = IsCharBoundary-past_char s rest k c here.0 (IsUtf8-drop s k utf8 here) is in
    omega (arith, past-first s rest k c utf8 here is, wide-more Utf32 s k m utf8 less here there, wide-more Utf32 s m (k + len_utf8 c) utf8 inside there end)

-- what has more units than the beginning before a character has ends behind the character
pub none-sooner : (encoding : WideEncoding) (s rest : List ℕ) (k m c : ℕ) → IsUtf8 s → IsCharBoundary s k → IsCharBoundary s m → drop k s ≡ encode_utf8 c ++ rest → wide_len encoding (take k s) < wide_len encoding (take m s) → k ≤ m → k + len_utf8 c ≤ m
none-sooner encoding s rest k m c utf8 here there is more from =
    elim (cases_lt m (k + len_utf8 c)) [
      | inl inside ↦ elim (cases_lt k m) [
        | inl less ↦ absurd (none-inside s rest k m c utf8 here there less is inside)
        | inr back ↦ (let same : k ≡ m = omega arith in absurd (omega (arith, ap (λ n. wide_len encoding (take n s)) same)))
      ]
      | inr past ↦ past
    ]
