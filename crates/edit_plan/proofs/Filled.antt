-- The text of a rewritten tree: each gap and each replaced slot gives the texts of what stands there.
--     flat_map-text                 the texts of a forest
--     text-relabelled               labels are no text
--     text-rewritten                the text of a tree that is rewritten
use Rattle.std.specs.Prelude.{◌≡◌, ℕ, suc, true, false, cond, List, [], ◌∷◌, ◌++◌, flat_map, refl}
use Rattle.std.proofs.Common.{ap, ap₂, sym, ◌∙◌}
use Rattle.std.proofs.lemmas.List.{append-nil}
use Rattle.std.proofs.lemmas.Grind.{flat_map-append}
use Rattle.cst_core.specs.Path.{Path}
use Rattle.cst_core.specs.Tree.{Tree, Forest, Token, Node, end, more, SyntaxTree, forest, text, forest_text, relabelled, forest_relabelled}
use Rattle.edit_change.specs.Rewriting.{NumberedAim, inserts_at, replacements_at, is_replaced, gap_order, gap, slot, rewritten, rewritten_from, rewritten_whole}
use Rattle.edit_change.specs.RewritingLaws.{filled_text, filled_text_from, text_filled}

pub flat_map-text : {L : Type 0} (ts : List (Tree L)) → flat_map text ts ≡ forest_text (forest ts)
flat_map-text [] = refl
flat_map-text (t ∷ ts) = ap (λ s. text t ++ s) (flat_map-text ts)

module _ {L M : Type 0} (h : L → M) where
  mutual
    pub text-relabelled : (t : Tree L) → text (relabelled h t) ≡ text t
    text-relabelled (Token l s) = refl
    text-relabelled (Node l f) = forest_text-relabelled f

    forest_text-relabelled : (f : Forest L) → forest_text (forest_relabelled h f) ≡ forest_text f
    forest_text-relabelled end = refl
    forest_text-relabelled (more t f) = ap₂ (λ x y. x ++ y) (text-relabelled t) (forest_text-relabelled f)

module _ {L : Type 0} (label_at : Path → ℕ → L) (given : ℕ → List (Tree L)) (brought : ℕ → List ℕ) (same : (c : ℕ) → flat_map text (given c) ≡ brought c) (cs : List NumberedAim) where
  text-given : (ns : List ℕ) → flat_map text (flat_map given ns) ≡ flat_map brought ns
  text-given [] = refl
  text-given (n ∷ ns) = flat_map-append text (given n) (flat_map given ns) ∙ ap₂ (λ x y. x ++ y) (same n) (text-given ns)

  text-slot : (p : Path) (t : Tree L) (s : List ℕ) → text t ≡ s → flat_map text (slot label_at given cs p t) ≡ cond (is_replaced cs p) (flat_map brought (replacements_at cs p)) s
  text-slot p t s e =
      elim (is_replaced cs p) as (λ b. flat_map text (cond b (flat_map given (replacements_at cs p)) (t ∷ [])) ≡ cond b (flat_map brought (replacements_at cs p)) s) [
        | true ↦ text-given (replacements_at cs p)
        | false ↦ append-nil (text t) ∙ e
      ]

  mutual
    text-rewritten : (p : Path) (t : SyntaxTree) → text (rewritten label_at given cs p t) ≡ filled_text brought cs p t
    text-rewritten p (Token k s) = refl
    text-rewritten p (Node k f) = sym (flat_map-text (rewritten_from label_at given cs p 0 f)) ∙ text-rewritten_from p 0 f

    text-rewritten_from : (p : Path) (i : ℕ) (f : Forest ℕ) → flat_map text (rewritten_from label_at given cs p i f) ≡ filled_text_from brought cs p i f
    text-rewritten_from p i end = text-given (gap_order (inserts_at cs p i))
    text-rewritten_from p i (more t f) =
        let before : List (Tree L) = gap label_at given cs p i in
        let here : List (Tree L) = slot label_at given cs (p ++ i ∷ []) (rewritten label_at given cs (p ++ i ∷ []) t) in
        flat_map-append text (before ++ here) (rewritten_from label_at given cs p (suc i) f) ∙ ap₂ (λ x y. x ++ y) (flat_map-append text before here ∙ ap₂ (λ x y. x ++ y) (text-given (gap_order (inserts_at cs p i))) (text-slot (p ++ i ∷ []) _ _ (text-rewritten (p ++ i ∷ []) t))) (text-rewritten_from p (suc i) f)

  pub text-rewritten_whole : (t : SyntaxTree) → flat_map text (rewritten_whole label_at given cs t) ≡ text_filled brought cs t
  text-rewritten_whole t = text-slot [] (rewritten label_at given cs [] t) (filled_text brought cs [] t) (text-rewritten [] t)
