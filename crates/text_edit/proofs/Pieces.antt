-- One edit of a list, as a piece.
use Rattle.std.proofs.Common.{◌≡◌, ◌∙◌, ◌+◌, ◌<◌, ℕ, List, [], ◌∷◌, ◌++◌, length, take, drop, get_or, ap, sym, subst}
use Rattle.std.proofs.lemmas.List.{drop_more, take_more, get_or-map, length-map}
use Rattle.text_edit.specs.declared.text_edit.TextEdit.{TextEdit}
use Rattle.text_edit.specs.TextPiece.{TextPiece, as_piece, pieces}

module _ (es : List TextEdit) (i : ℕ) (x : TextEdit) (inside : i < length es) (is : x ≡ get_or es i x) where
  pub piece-is : (d : TextPiece) → get_or (pieces es) i d ≡ as_piece x
  piece-is d = get_or-map as_piece es i x d inside ∙ ap as_piece (sym is)

  pub pieces-inside : i < length (pieces es)
  pieces-inside = let e : length (pieces es) ≡ length es = length-map es as_piece in (let P : ℕ → Type 0 = λ n. i < n in subst P (sym e) inside)

  pub drop-piece : drop i (pieces es) ≡ as_piece x ∷ drop (i + 1) (pieces es)
  drop-piece = drop_more (pieces es) i (as_piece x) pieces-inside ∙ ap (λ e. e ∷ drop (i + 1) (pieces es)) (piece-is (as_piece x))

  pub take-piece : take (i + 1) (pieces es) ≡ take i (pieces es) ++ as_piece x ∷ []
  take-piece = take_more (pieces es) i (as_piece x) pieces-inside ∙ ap (λ e. take i (pieces es) ++ e ∷ []) (piece-is (as_piece x))
