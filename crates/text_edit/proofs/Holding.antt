-- Which text of an edit holds a range of the new text.
use Rattle.std.proofs.Common.{◌≡◌, ◌∙◌, ◌+◌, ◌-◌, ◌<◌, ◌≤◌, ℕ, Bool, true, false, zero, suc, List, [], ◌∷◌, ◌++◌, Some, None, length, take, drop, ap, sym, refl, subst, arith, inl, inr, slice_range}
use Rattle.std.specs.Prelude.{find, Option, option_map, IfSome, nat_le, ◌&&◌}
use Rattle.std.specs.List.{range_with_len, sum_by}
use Rattle.std.proofs.Math.Seq.{drop-append-add}
use Rattle.std.proofs.lemmas.Bool.{cases_lt, cases_order, cases_Bool, cond-true, cond-false, and_parts, leb-true}
use Rattle.std.proofs.lemmas.Bool.Decides.{nat_tests}
use Rattle.std.proofs.lemmas.List.{append_assoc, take_more, length-append, length-drop, take-append-le, drop-append-le}
use Rattle.std.proofs.lemmas.List.Sums.{sum_by-cons, sum_by_push}
use Rattle.text_edit.specs.TextPiece.{TextPiece, AreApart, applied_from, applied}
use Rattle.text_edit.specs.OrderRefusal.{nothing, piece_at, piece_before}
use Rattle.text_edit.specs.declared.cursor.Cursor.{Cursor}
use Rattle.text_edit.specs.Cursor.{new_start, holds, cursor_in, cursor}
use Rattle.text_edit.proofs.Ordered.{is-after, piece_before-next, AreApart-le}
use Rattle.text_edit.proofs.Inverting.{kept, behind, length-kept, applied-parts}

-- ---- the first number that passes
pub find-first : (p : ℕ → Bool) (a n i : ℕ) → a ≤ i → i < a + n → p i ≡ true → ((k : ℕ) → a ≤ k → k < i → p k ≡ false) → find p (range_with_len a n) ≡ Some i
find-first p a zero i from inside here before = absurd (omega arith)
find-first p a (suc n) i from inside here before =
    elim (cases_order a i) [
      | inl same ↦ (let P : ℕ → Type 0 = λ k. p k ≡ true in cond-true (p a) (Some a) (find p (range_with_len (a + 1) n)) (subst P (sym same) here) ∙ ap (λ k. Some k) same)
      | inr other ↦ elim other [
        | inl less ↦ cond-false (p a) (Some a) (find p (range_with_len (a + 1) n)) (before a (omega arith) less) ∙ find-first p (a + 1) n i (omega arith) (omega arith) here (λ k from' before'. before k (omega arith) before')
        | inr more ↦ absurd (omega arith)
      ]
    ]

pub find-none : (p : ℕ → Bool) (a n : ℕ) → ((k : ℕ) → a ≤ k → k < a + n → p k ≡ false) → find p (range_with_len a n) ≡ None
find-none p a zero none = refl
find-none p a (suc n) none =
    cond-false (p a) (Some a) (find p (range_with_len (a + 1) n)) (none a (omega arith) (omega arith)) ∙ find-none p (a + 1) n (λ k from inside. none k (omega arith) (omega arith))

-- ---- where a piece's text starts
-- the bytes that pieces take away, and those that they put in
abbrev pub taken : List TextPiece → ℕ
taken es = sum_by (λ e. e.stop - e.first) es

abbrev pub put_in : List TextPiece → ℕ
put_in es = sum_by (λ e. length e.text) es

pub taken_push : (es : List TextPiece) (e : TextPiece) → taken (es ++ e ∷ []) ≡ taken es + (e.stop - e.first)
taken_push es e = sum_by_push (λ d. d.stop - d.first) es e

pub put_in_push : (es : List TextPiece) (e : TextPiece) → put_in (es ++ e ∷ []) ≡ put_in es + length e.text
put_in_push es e = sum_by_push (λ d. length d.text) es e

new_start-next : (es : List TextPiece) (to i : ℕ) → AreApart 0 es to → i + 1 < length es → new_start es i ≤ new_start es (i + 1)
new_start-next es to i apart inside =
    let d = piece_at es i in
    let e = piece_at es (i + 1) in
    let after = is-after nothing es to (i + 1) (omega arith) apart inside in
    let before : piece_before es (i + 1) ≡ d = piece_before-next es i in
    let order : d.stop ≤ e.first = rw (sym before) after.1 in
    let wide : d.first ≤ d.stop = (is-after nothing es to i (omega arith) apart (omega arith)).2 in
    let more : take (i + 1) es ≡ take i es ++ d ∷ [] = take_more es i nothing (omega arith) in
    let gone : taken (take (i + 1) es) ≡ taken (take i es) + (d.stop - d.first) = ap taken more ∙ taken_push (take i es) d in
    let put : put_in (take (i + 1) es) ≡ put_in (take i es) + length d.text = ap put_in more ∙ put_in_push (take i es) d in
    omega arith

pub new_start-later : (es : List TextPiece) (to i n : ℕ) → AreApart 0 es to → i + n < length es → new_start es i ≤ new_start es (i + n)
new_start-later es to i zero apart inside = let P : ℕ → Type 0 = λ k. new_start es i ≤ new_start es k in let same : i ≡ i + 0 = omega arith in subst P same (omega arith)
new_start-later es to i (suc n) apart inside =
    let P : ℕ → Type 0 = λ k. new_start es i ≤ new_start es k in
    let same : (i + n) + 1 ≡ i + suc n = omega arith in
    let first : new_start es i ≤ new_start es (i + n) = new_start-later es to i n apart (omega arith) in
    let next : new_start es (i + n) ≤ new_start es ((i + n) + 1) = new_start-next es to (i + n) apart (omega arith) in
    subst P same (omega arith)

-- told from what is counted so far
pub new_start-is : (es : List TextPiece) (i gone made : ℕ) (e : TextPiece) → piece_at es i ≡ e → taken (take i es) ≤ gone → made + taken (take i es) ≡ gone + put_in (take i es) → gone ≤ e.first → new_start es i ≡ made + (e.first - gone)
new_start-is es i gone made e is small count behind =
    let first : (piece_at es i).first ≡ e.first = ap (λ d. d.first) is in
    omega arith

-- ---- which range is held
pub held : (es : List TextPiece) (start end i : ℕ) → start ≤ end → new_start es i ≤ start → end ≤ new_start es i + length (piece_at es i).text → holds es start end i ≡ true
held es start end i ordered from to = grind (arith, nat_tests)

pub not-held-turned : (es : List TextPiece) (start end i : ℕ) → end < start → holds es start end i ≡ false
not-held-turned es start end i turned = grind (arith, nat_tests)

pub not-held-before : (es : List TextPiece) (start end i : ℕ) → start < new_start es i → holds es start end i ≡ false
not-held-before es start end i before = grind (arith, nat_tests)

pub not-held-behind : (es : List TextPiece) (start end i : ℕ) → new_start es i + length (piece_at es i).text < end → holds es start end i ≡ false
not-held-behind es start end i past = grind (arith, nat_tests)

pub cursor-none : (es : List TextPiece) (start end : ℕ) → ((k : ℕ) → k < length es → holds es start end k ≡ false) → None ≡ cursor es start end
cursor-none es start end none =
    ap (option_map (cursor_in es start end)) (sym (find-none (holds es start end) 0 (length es) (λ k _ inside. none k (omega arith))))

-- what comes later starts later
pub cursor-passed : (es : List TextPiece) (to start end i : ℕ) → AreApart 0 es to → i < length es → ((k : ℕ) → k < i → holds es start end k ≡ false) → start < new_start es i → None ≡ cursor es start end
cursor-passed es to start end i apart inside before passed =
    cursor-none es start end (λ k within.
    elim (cases_lt k i) [
      | inl less ↦ before k less
      | inr more ↦ (let P : ℕ → Type 0 = λ j. new_start es i ≤ new_start es j in
          let same : i + (k - i) ≡ k = omega arith in
          let later : new_start es i ≤ new_start es k = subst P same (new_start-later es to i (k - i) apart (omega arith)) in
          not-held-before es start end k (omega arith))
    ])

pub cursor-here : (es : List TextPiece) (start end i : ℕ) → i < length es → holds es start end i ≡ true → ((k : ℕ) → k < i → holds es start end k ≡ false) → Some (cursor_in es start end i) ≡ cursor es start end
cursor-here es start end i inside here before =
    ap (option_map (cursor_in es start end)) (sym (find-first (holds es start end) 0 (length es) i (omega arith) (omega arith) here (λ k _ less. before k less)))

-- ---- what stands there
pub text-stands : (gone : ℕ) (es : List TextPiece) (i : ℕ) (s : List ℕ) → AreApart gone es (length s) → i < length es → (front : List ℕ) × (rest : List ℕ) × (applied_from gone es (drop gone s) ≡ front ++ (piece_at es i).text ++ rest) × (length front + gone + taken (take i es) ≡ (piece_at es i).first + put_in (take i es)) × (gone + taken (take i es) ≤ (piece_at es i).first)
text-stands gone [] i s apart inside = absurd (omega arith)
text-stands gone (e ∷ es) zero s apart inside =
    let rest_within : e.stop ≤ length s = AreApart-le e.stop es (length s) apart.2 in
    let own : e.first ≤ length s = omega (arith, apart.1) in
    let k = kept s gone (length s) e es apart own in
    let len = length-kept s gone (length s) e es apart own in
    let order : gone ≤ e.first = apart.0 in
    (k, behind s gone (length s) e es apart own, applied-parts s gone (length s) e es apart own, omega arith, omega arith)
text-stands gone (e ∷ es) (suc i) s apart inside =
    let rest_within : e.stop ≤ length s = AreApart-le e.stop es (length s) apart.2 in
    let own : e.first ≤ length s = omega (arith, apart.1) in
    let k = kept s gone (length s) e es apart own in
    let len = length-kept s gone (length s) e es apart own in
    let order : gone ≤ e.first = apart.0 in
    let wide : e.first ≤ e.stop = apart.1 in
    let next = text-stands e.stop es i s apart.2 (omega arith) in
    let t = (piece_at es i).text in
    let front = next.0 in
    let rest = next.1 in
    let gone_is : taken (e ∷ take i es) ≡ (e.stop - e.first) + taken (take i es) = sum_by-cons (λ d. d.stop - d.first) e (take i es) in
    let put_is : put_in (e ∷ take i es) ≡ length e.text + put_in (take i es) = sum_by-cons (λ d. length d.text) e (take i es) in
    let len_is : length (k ++ e.text ++ front) ≡ length k + length e.text + length front = length-append (k ++ e.text) front ∙ ap (λ n. n + length front) (length-append k e.text) in
    let count : length front + e.stop + taken (take i es) ≡ (piece_at es i).first + put_in (take i es) = next.3 in
    let small : e.stop + taken (take i es) ≤ (piece_at es i).first = next.4 in (
      k ++ e.text ++ front,
      rest,
      applied-parts s gone (length s) e es apart own ∙ ap (λ x. k ++ e.text ++ x) next.2 ∙ sym (append_assoc (k ++ e.text) (front ++ t) rest) ∙ ap (λ x. x ++ rest) (sym (append_assoc (k ++ e.text) front t)),
      omega arith,
      omega arith,
    )

pub range-between : (front t rest : List ℕ) (n start end : ℕ) → length front ≡ n → n ≤ start → start ≤ end → end ≤ n + length t → slice_range t (start - n) (end - n) ≡ slice_range (front ++ t ++ rest) start end
range-between front t rest n start end len from ordered to =
    let a = start - n in
    let at : start ≡ length front + a = omega arith in
    let within : a ≤ length t = omega arith in
    let wide : (end - n) - a ≡ end - start = omega arith in
    let short : end - start ≤ length (drop a t) = omega (arith, length-drop a t) in
    let there : drop start (front ++ t ++ rest) ≡ drop a t ++ rest = ap (drop start) (append_assoc front t rest) ∙ ap (λ m. drop m (front ++ (t ++ rest))) at ∙ drop-append-add front (t ++ rest) a ∙ drop-append-le a t rest within in
    ap (λ m. take m (drop a t)) wide ∙ sym (ap (take (end - start)) there ∙ take-append-le (end - start) (drop a t) rest short)

cursor-text : (es : List TextPiece) (start end i : ℕ) → i < length es → new_start es i ≤ start → start ≤ end → end ≤ new_start es i + length (piece_at es i).text → (s : List ℕ) → AreApart 0 es (length s) → slice_range (piece_at es i).text (start - new_start es i) (end - new_start es i) ≡ slice_range (applied es s) start end
cursor-text es start end i inside from ordered upto s apart =
    let stands = text-stands 0 es i s apart inside in
    let count : length stands.0 + 0 + taken (take i es) ≡ (piece_at es i).first + put_in (take i es) = stands.3 in
    let small : 0 + taken (take i es) ≤ (piece_at es i).first = stands.4 in
    let len : length stands.0 ≡ new_start es i = omega arith in
    range-between stands.0 (piece_at es i).text stands.1 (new_start es i) start end len from ordered upto ∙ ap (λ x. slice_range x start end) (sym stands.2)

-- ---- what a cursor says
find-passes : (p : ℕ → Bool) (a n i : ℕ) → find p (range_with_len a n) ≡ Some i → (i < a + n) × (p i ≡ true)
find-passes p a zero i found = absurd (cc)
find-passes p a (suc n) i found =
    elim (cases_Bool (p a)) [
      | inl passing ↦ (let here : Some a ≡ Some i = sym (cond-true (p a) (Some a) (find p (range_with_len (a + 1) n)) passing) ∙ found in
          let same : a ≡ i = cc in
          let P : ℕ → Type 0 = λ k. p k ≡ true in
          (omega arith, subst P same passing))
      | inr failing ↦ (let later = find-passes p (a + 1) n i (sym (cond-false (p a) (Some a) (find p (range_with_len (a + 1) n)) failing) ∙ found) in (omega (arith, later.0), later.1))
    ]

held-facts : (es : List TextPiece) (start end i : ℕ) → holds es start end i ≡ true → (start ≤ end) × (new_start es i ≤ start) × (end ≤ new_start es i + length (piece_at es i).text)
held-facts es start end i passing =
    let parts = and_parts (nat_le start end && nat_le (new_start es i) start) (nat_le end (new_start es i + length (piece_at es i).text)) passing in
    let first = and_parts (nat_le start end) (nat_le (new_start es i) start) parts.0 in
    (leb-true start end first.0, leb-true (new_start es i) start first.1, leb-true end (new_start es i + length (piece_at es i).text) parts.1)

pub cursor-shows : (es : List TextPiece) (start end : ℕ) (c : Cursor) (s : List ℕ) → AreApart 0 es (length s) → cursor es start end ≡ Some c → slice_range (piece_at es c.edit).text c.start c.end ≡ slice_range (applied es s) start end
cursor-shows es start end c s apart found =
    elim (find (holds es start end) (range_with_len 0 (length es))) as (λ o. find (holds es start end) (range_with_len 0 (length es)) ≡ o → option_map (cursor_in es start end) o ≡ Some c → slice_range (piece_at es c.edit).text c.start c.end ≡ slice_range (applied es s) start end) [
      | None ↦ λ at made. absurd (cc)
      | Some i ↦ λ at made.
          let passes = find-passes (holds es start end) 0 (length es) i at in
          let facts = held-facts es start end i passes.1 in
          let is : cursor_in es start end i ≡ c = cc in
          let P : Cursor → Type 0 = λ d. slice_range (piece_at es d.edit).text d.start d.end ≡ slice_range (applied es s) start end in
          subst P is (cursor-text es start end i (omega (arith, passes.0)) facts.1 facts.0 facts.2 s apart)
    ] refl found

pub cursor-shown : (es : List TextPiece) (start end : ℕ) (r : Option Cursor) → r ≡ cursor es start end → IfSome r (λ c. (s : List ℕ) → AreApart 0 es (length s) → slice_range (piece_at es c.edit).text c.start c.end ≡ slice_range (applied es s) start end)
cursor-shown es start end None is = tt
cursor-shown es start end (Some c) is = λ s apart. cursor-shows es start end c s apart (sym is)
