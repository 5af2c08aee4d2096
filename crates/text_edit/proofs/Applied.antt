-- The text that pieces make, piece by piece.
use Rattle.std.proofs.Common.{◌≡◌, ◌∙◌, ◌+◌, ◌-◌, ◌≤◌, ℕ, List, ◌∷◌, ◌++◌, take, drop, ap, sym, arith, slice_range}
use Rattle.std.proofs.lemmas.List.{append_assoc, drop-drop}
use Rattle.text_edit.specs.TextPiece.{TextPiece, applied_from}

-- what is kept before the first piece, and its text
pub applied_from-next : (s : List ℕ) (gone : ℕ) (e : TextPiece) (es : List TextPiece) (out : List ℕ) → gone ≤ e.first → e.first ≤ e.stop → (out ++ slice_range s gone e.first ++ e.text) ++ applied_from e.stop es (drop e.stop s) ≡ out ++ applied_from gone (e ∷ es) (drop gone s)
applied_from-next s gone e es out after own =
    let at : gone + (e.stop - gone) ≡ e.stop = omega arith in
    let rest : drop (e.stop - gone) (drop gone s) ≡ drop e.stop s = drop-drop (e.stop - gone) gone s ∙ ap (λ n. drop n s) at in
    let kept = take (e.first - gone) (drop gone s) in
    let behind = applied_from e.stop es (drop e.stop s) in
    append_assoc (out ++ kept) e.text behind ∙ append_assoc out kept (e.text ++ behind) ∙ ap (λ t. out ++ t) (sym (append_assoc kept e.text behind)) ∙ ap (λ t. out ++ (kept ++ e.text ++ applied_from e.stop es t)) (sym rest)
