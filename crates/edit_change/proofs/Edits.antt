-- Rewriting by what stands in each gap and slot, with paths counted from the element that is rewritten.
--     Edits                         what each gap and slot of each node holds, and the labels of what is kept
--     below, below_path             the same, as it is seen from a child, or from the element at a path
--     rewritten_by                        a tree rewritten by them
--     edits_of                      what a list of aims says
--     rewritten_is                  the rewriting of the definitions is this one
use Rattle.std.specs.Prelude.{◌≡◌, ℕ, suc, true, false, cond, List, [], ◌∷◌, ◌++◌, flat_map, Option, Some, None, refl}
use Rattle.std.proofs.Common.{ap, ap₂, sym, ◌∙◌}
use Rattle.std.proofs.lemmas.List.{append-nil, append_assoc}
use Rattle.green_tree.specs.Path.{Path}
use Rattle.green_tree.specs.Tree.{Tree, Forest, Token, Node, end, more, SyntaxTree, forest}
use Rattle.edit_change.specs.Rewriting.{NumberedAim, replacements_at, is_replaced, gap, slot, rewritten, rewritten_from}

pub record Edits (L : Type 0) : Type 0 where
  pub label_at : Path → ℕ → L
  pub gap : Path → ℕ → List (Tree L)
  pub slot : Path → ℕ → Option (List (Tree L))

abbrev pub below : {L : Type 0} → ℕ → Edits L → Edits L
below i e = record { label_at = λ p. e.label_at (i ∷ p); gap = λ p. e.gap (i ∷ p); slot = λ p. e.slot (i ∷ p) }

abbrev pub below_path : {L : Type 0} → Path → Edits L → Edits L
below_path p e = record { label_at = λ q. e.label_at (p ++ q); gap = λ q. e.gap (p ++ q); slot = λ q. e.slot (p ++ q) }

abbrev pub filled : {L : Type 0} → Option (List (Tree L)) → Tree L → List (Tree L)
filled (Some ts) t = ts
filled None t = t ∷ []

abbrev mutual
  pub rewritten_by : {L : Type 0} → Edits L → SyntaxTree → Tree L
  rewritten_by e (Token k s) = Token (e.label_at [] k) s
  rewritten_by e (Node k f) = Node (e.label_at [] k) (forest (rewritten_by_from e 0 f))

  pub rewritten_by_from : {L : Type 0} → Edits L → ℕ → Forest ℕ → List (Tree L)
  rewritten_by_from e i end = e.gap [] i
  rewritten_by_from e i (more t f) = e.gap [] i ++ filled (e.slot [] i) (rewritten_by (below i e) t) ++ rewritten_by_from e (suc i) f

-- ---- the edits of a list of aims
abbrev pub taken : {L : Type 0} → (ℕ → List (Tree L)) → List NumberedAim → Path → Option (List (Tree L))
taken given cs p = cond (is_replaced cs p) (Some (flat_map given (replacements_at cs p))) None

abbrev pub edits_of : {L : Type 0} → (Path → ℕ → L) → (ℕ → List (Tree L)) → List NumberedAim → Edits L
edits_of label_at given cs = record { label_at = label_at; gap = gap label_at given cs; slot = λ p i. taken given cs (p ++ i ∷ []) }

below-step : {L : Type 0} (p : Path) (i : ℕ) (e : Edits L) → below_path (p ++ i ∷ []) e ≡ below i (below_path p e)
below-step p i e = λ j. record {
  label_at = λ q. e.label_at (append_assoc p (i ∷ []) q j);
  gap = λ q. e.gap (append_assoc p (i ∷ []) q j);
  slot = λ q. e.slot (append_assoc p (i ∷ []) q j);
}

module _ {L : Type 0} (label_at : Path → ℕ → L) (given : ℕ → List (Tree L)) (cs : List NumberedAim) where
  pub slot-filled : (p : Path) (t : Tree L) → slot label_at given cs p t ≡ filled (taken given cs p) t
  slot-filled p t =
      elim (is_replaced cs p) as (λ b. cond b (flat_map given (replacements_at cs p)) (t ∷ []) ≡ filled (cond b (Some (flat_map given (replacements_at cs p))) None) t) [
        | true ↦ refl
        | false ↦ refl
      ]

  gap-nil : (p : Path) (i : ℕ) → gap label_at given cs p i ≡ gap label_at given cs (p ++ []) i
  gap-nil p i = ap (λ q. gap label_at given cs q i) (sym (append-nil p))

  mutual
    pub rewritten_is : (p : Path) (t : SyntaxTree) → rewritten label_at given cs p t ≡ rewritten_by (below_path p (edits_of label_at given cs)) t
    rewritten_is p (Token k s) = ap (λ q. Token (label_at q k) s) (sym (append-nil p))
    rewritten_is p (Node k f) =
        ap₂ (λ q xs. Node (label_at q k) (forest xs)) (sym (append-nil p)) (rewritten_from_is p 0 f)

    pub rewritten_from_is : (p : Path) (i : ℕ) (f : Forest ℕ) → rewritten_from label_at given cs p i f ≡ rewritten_by_from (below_path p (edits_of label_at given cs)) i f
    rewritten_from_is p i end = gap-nil p i
    rewritten_from_is p i (more t f) =
        ap₂ (λ x y. x ++ y) (ap₂ (λ x y. x ++ y) (gap-nil p i) (slot-filled (p ++ i ∷ []) (rewritten label_at given cs (p ++ i ∷ []) t) ∙ ap₂ (λ q u. filled (taken given cs (q ++ i ∷ [])) u) (sym (append-nil p)) (rewritten_is (p ++ i ∷ []) t ∙ ap (λ e. rewritten_by e t) (below-step p i (edits_of label_at given cs))))) (rewritten_from_is p (suc i) f)
