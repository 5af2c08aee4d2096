-- What rewrites alike: two lists of aims with the same edits, and none at or below a path.
--     rewritten-same                two lists of aims with the same edits at and below a path rewrite the subtree there alike
--     no_edits                      nothing in any gap or slot
--     untouched_is                  where no aim is at or below a path, the subtree is rewritten by nothing
--     plain-untouched               it stays as it was
--     untouched_by_none             no aims aim nowhere
use Rattle.std.specs.Prelude.{◌≡◌, ℕ, suc, cond, List, [], ◌∷◌, ◌++◌, flat_map, Option, Some, None, refl}
use Rattle.std.proofs.Common.{ap, ap₂, sym, ◌∙◌}
use Rattle.cst_core.specs.Path.{Path}
use Rattle.cst_core.specs.Tree.{Tree, Forest, Token, Node, end, more, SyntaxTree, forest, forest_relabelled}
use Rattle.cst_core.specs.Element.{Address}
use Rattle.edit_change.specs.Rewriting.{NumberedAim, replacements_at, gap_order, gap, rewritten}
use Rattle.edit_change.specs.NewTree.{Origin, OriginTree, plain, origin}
use Rattle.edit_change.proofs.Edits.{Edits, below_path, taken, edits_of, rewritten_by, rewritten_by_from, rewritten_is}
use Rattle.edit_change.specs.RewritingLaws.{IsUntouched}

pub rewritten-same : {L : Type 0} (l m : Path → ℕ → L) (g h : ℕ → List (Tree L)) (cs ds : List NumberedAim) (p : Path) → below_path p (edits_of l g cs) ≡ below_path p (edits_of m h ds) → (t : SyntaxTree) → rewritten l g cs p t ≡ rewritten m h ds p t
rewritten-same l m g h cs ds p same t = rewritten_is l g cs p t ∙ ap (λ e. rewritten_by e t) same ∙ sym (rewritten_is m h ds p t)

-- ---- no aim at or below a path
abbrev pub no_edits : {L : Type 0} → (Path → ℕ → L) → Edits L
no_edits l = record { label_at = l; gap = λ _ _. []; slot = λ _ _. None }

mutual
  plain-no_edits : (o : Path → ℕ → Origin) → ((p : Path) (k : ℕ) → (o p k).kind ≡ k) → (t : SyntaxTree) → plain (rewritten_by (no_edits o) t) ≡ t
  plain-no_edits o kinds (Token k s) = ap (λ l. Token l s) (kinds [] k)
  plain-no_edits o kinds (Node k f) = ap₂ Node (kinds [] k) (plain-no_edits_from o kinds 0 f)

  plain-no_edits_from : (o : Path → ℕ → Origin) → ((p : Path) (k : ℕ) → (o p k).kind ≡ k) → (i : ℕ) (f : Forest ℕ) → forest_relabelled (λ l. l.kind) (forest (rewritten_by_from (no_edits o) i f)) ≡ f
  plain-no_edits_from o kinds i end = refl
  plain-no_edits_from o kinds i (more t f) =
      ap₂ more (plain-no_edits (λ p. o (i ∷ p)) (λ p. kinds (i ∷ p)) t) (plain-no_edits_from o kinds (suc i) f)

pub untouched_is : {L : Type 0} (l : Path → ℕ → L) (given : ℕ → List (Tree L)) (cs : List NumberedAim) (p : Path) → IsUntouched cs p → (t : SyntaxTree) → rewritten l given cs p t ≡ rewritten_by (no_edits (λ q. l (p ++ q))) t
untouched_is l given cs p none t =
    let gaps : (q : Path) (i : ℕ) → gap l given cs (p ++ q) i ≡ [] = λ q i. ap (λ ns. flat_map given (gap_order ns)) (none.no_inserts q i) in
    let slots : (q : Path) (i : ℕ) → taken given cs (p ++ q ++ i ∷ []) ≡ None = λ q i. ap (λ b. cond b (Some (flat_map given (replacements_at cs (p ++ q ++ i ∷ [])))) None) (none.not_replaced q i) in
    let edits : below_path p (edits_of l given cs) ≡ no_edits (λ q. l (p ++ q)) = λ j. record { label_at = λ q. l (p ++ q); gap = λ q i. gaps q i j; slot = λ q i. slots q i j } in
    rewritten_is l given cs p t ∙ ap (λ e. rewritten_by e t) edits

pub plain-untouched : (a : Address) (change : Option ℕ) (given : ℕ → List OriginTree) (cs : List NumberedAim) (p : Path) → IsUntouched cs p → (t : SyntaxTree) → plain (rewritten (origin a change) given cs p t) ≡ t
plain-untouched a change given cs p none t =
    ap plain (untouched_is (origin a change) given cs p none t) ∙ plain-no_edits (λ q. origin a change (p ++ q)) (λ _ _. refl) t

pub untouched_by_none : (p : Path) → IsUntouched [] p
untouched_by_none p = record { no_inserts = λ _ _. refl; not_replaced = λ _ _. refl }
