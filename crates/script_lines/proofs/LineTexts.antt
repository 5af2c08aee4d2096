-- The text of a line, whose carriage return is dropped.
--     line-text-is      what is left once it is dropped, if there is one
use Rattle.std.proofs.Common.{◌≡◌, ◌≢◌, ℕ, ◌-◌, ◌+◌, Bool, true, false, nat_eq, List, [], ◌∷◌, ◌++◌, length, take, cond, Option, Some, None, MatchOption, unwrap_or, Bor, refl, sym, ◌∙◌, ap, arith, length-append}
use Rattle.std.proofs.Math.Seq.{take-append_seam}
use Rattle.std.proofs.lemmas.Bool.Decides.{Decides-eqb}
use Rattle.std.proofs.lemmas.Slice.Eq.{ends_is}
use Rattle.std.specs.List.{ends_with}
use Rattle.script_lines.specs.Line.{line_text}

abbrev is_ended : List ℕ → Bool
is_ended text = ends_with nat_eq text (13 ∷ [])

when-false : (b : Bool) (x y : List ℕ) → b ≢ true → cond b x y ≡ y
when-false true x y never = absurd (never refl)
when-false false x y never = refl

not-ended : (text : List ℕ) → ((front : List ℕ) → text ≢ front ++ 13 ∷ []) → line_text text ≡ text
not-ended text never =
    let ends = ends_is Decides-eqb text (13 ∷ []) (is_ended text) refl in
    when-false (is_ended text) (take (length text - 1) text) text (λ ended. never (take (length text - 1) text) (ends.0 ended))

but-last : (front : List ℕ) (n : ℕ) → take (length (front ++ n ∷ []) - 1) (front ++ n ∷ []) ≡ front
but-last front n =
    let long : length (front ++ n ∷ []) ≡ length front + 1 = length-append front (n ∷ []) in
    let short : length (front ++ n ∷ []) - 1 ≡ length front = omega arith in
    ap (λ k. take k (front ++ n ∷ [])) short ∙ take-append_seam front (n ∷ [])

ended : (text front : List ℕ) → text ≡ front ++ 13 ∷ [] → line_text text ≡ front
ended text front is =
    let ends = ends_is Decides-eqb text (13 ∷ []) (is_ended text) refl in
    ap (λ b. cond b (take (length text - 1) text) text) (ends.1 front is) ∙ ap (λ l. take (length l - 1) l) is ∙ but-last front 13

pub line-text-is : (text : List ℕ) (strip : Option (Bor (List ℕ))) (whole result : Bor (List ℕ)) → MatchOption strip ((front : List ℕ) → text ≢ front ++ 13 ∷ []) (λ x. text ≡ x.now ++ 13 ∷ []) → whole.now ≡ text → result ≡ unwrap_or strip whole → line_text text ≡ result.now
line-text-is text None whole result stripped is given = not-ended text stripped ∙ sym is ∙ ap (λ r. r.now) (sym given)
line-text-is text (Some x) whole result stripped is given = ended text x.now stripped ∙ ap (λ r. r.now) (sym given)
