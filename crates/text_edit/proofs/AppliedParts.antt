-- The text that pieces make, of a text in two parts.
use Rattle.std.proofs.Common.{◌≡◌, ◌∙◌, ◌+◌, ◌-◌, ◌≤◌, ℕ, List, [], ◌∷◌, ◌++◌, length, take, drop, ap, sym, refl, arith}
use Rattle.std.proofs.Math.Seq.{take-append-add, drop-append-add, take-add}
use Rattle.std.proofs.lemmas.List.{append_assoc, append-nil, take-append-le, drop-append-le, take-append-drop, length-drop, length-take-le}
use Rattle.text_edit.specs.TextPiece.{TextPiece, AreApart, applied_from, applied}
use Rattle.text_edit.proofs.Ordered.{AreApart-le}

-- what is kept before the first piece
pub applied_from-kept : (gone at to : ℕ) (fs : List TextPiece) (xs ys : List ℕ) → gone + length xs ≡ at → AreApart at fs to → applied_from gone fs (xs ++ ys) ≡ xs ++ applied_from at fs ys
applied_from-kept gone at to [] xs ys len apart = refl
applied_from-kept gone at to (f ∷ fs) xs ys len apart =
    let first : f.first - gone ≡ length xs + (f.first - at) = omega arith in
    let stop : f.stop - gone ≡ length xs + (f.stop - at) = omega arith in
    let kept = take (f.first - at) ys in
    let rest = applied_from f.stop fs (drop (f.stop - at) ys) in
    let kept_is : take (f.first - gone) (xs ++ ys) ≡ xs ++ kept = ap (λ n. take n (xs ++ ys)) first ∙ take-append-add xs ys (f.first - at) in
    let rest_is : drop (f.stop - gone) (xs ++ ys) ≡ drop (f.stop - at) ys = ap (λ n. drop n (xs ++ ys)) stop ∙ drop-append-add xs ys (f.stop - at) in
    ap (λ t. t ++ f.text ++ applied_from f.stop fs (drop (f.stop - gone) (xs ++ ys))) kept_is ∙ ap (λ t. xs ++ kept ++ f.text ++ applied_from f.stop fs t) rest_is ∙ ap (λ t. t ++ rest) (append_assoc xs kept f.text) ∙ append_assoc xs (kept ++ f.text) rest

-- pieces up to an offset, and those from there on
pub applied_from-append : (gone at to : ℕ) (es fs : List TextPiece) (xs ys : List ℕ) → gone + length xs ≡ at → AreApart gone es at → AreApart at fs to → applied_from gone (es ++ fs) (xs ++ ys) ≡ applied_from gone es xs ++ applied_from at fs ys
applied_from-append gone at to [] fs xs ys len apart behind = applied_from-kept gone at to fs xs ys len behind
applied_from-append gone at to (e ∷ es) fs xs ys len apart behind =
    let within : e.stop ≤ at = AreApart-le e.stop es at apart.2 in
    let first : e.first - gone ≤ length xs = omega arith in
    let stop : e.stop - gone ≤ length xs = omega arith in
    let rest = drop (e.stop - gone) xs in
    let len' : e.stop + length rest ≡ at = omega (arith, length-drop (e.stop - gone) xs) in
    let kept = take (e.first - gone) xs in
    let own = applied_from e.stop es rest in
    let others = applied_from at fs ys in
    ap (λ t. t ++ e.text ++ applied_from e.stop (es ++ fs) (drop (e.stop - gone) (xs ++ ys))) (take-append-le (e.first - gone) xs ys first) ∙ ap (λ t. kept ++ e.text ++ applied_from e.stop (es ++ fs) t) (drop-append-le (e.stop - gone) xs ys stop) ∙ ap (λ t. kept ++ e.text ++ t) (applied_from-append e.stop at to es fs rest ys len' apart.2 behind) ∙ sym (append_assoc (kept ++ e.text) own others)

-- up to an offset further on, behind all pieces
pub applied-further : (es : List TextPiece) (at k : ℕ) (s : List ℕ) → AreApart 0 es at → at + k ≤ length s → applied es (take (at + k) s) ≡ applied es (take at s) ++ take k (drop at s)
applied-further es at k s apart inside =
    let short : at ≤ length s = omega arith in
    let len : 0 + length (take at s) ≡ at = omega (arith, length-take-le at s short) in
    let behind : AreApart at [] at = omega arith in
    ap (applied es) (take-add at k s) ∙ ap (λ t. applied t (take at s ++ take k (drop at s))) (sym (append-nil es)) ∙ applied_from-append 0 at at es [] (take at s) (take k (drop at s)) len apart behind

-- of a whole text
pub applied-whole : (es : List TextPiece) (at : ℕ) (s : List ℕ) → AreApart 0 es at → at ≤ length s → applied es s ≡ applied es (take at s) ++ drop at s
applied-whole es at s apart inside =
    let len : 0 + length (take at s) ≡ at = omega (arith, length-take-le at s inside) in
    let behind : AreApart at [] at = omega arith in
    ap (applied es) (sym (take-append-drop at s)) ∙ ap (λ t. applied t (take at s ++ drop at s)) (sym (append-nil es)) ∙ applied_from-append 0 at at es [] (take at s) (drop at s) len apart behind
