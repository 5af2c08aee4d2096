-- What the steps of a chain do to a text, as one list of edits.
--     ArePieces                     Pieces are the text edits of a plan (`text_pieces`).
--     Compose                       Pieces are those of one step's plan, or the text edits of the first plan and what composes the other
--                                   ones, composed (`AreComposed`); without steps there are none.
--     DoAll                         Pieces compose the steps from a root; they fit the text of that, and make of it that of the root after
--                                   the steps.
--     FollowsOn                     The root of a step's plan has this text, and the text edits of the plan fit it.
--     TextRefuses                   Why a chain gives no text edits: `Unfit` names a step that does not follow on the text of the root
--                                   before it.
--
-- Of the chain in 'edit_chain: Chain' they are 1 to 1 `x` and 3 to 4 with nothing: offset 4 of the second text, which is
-- `(x1, 2)`, is 3 in the first one.
use Rattle.std.specs.Prelude.{◌≡◌, ℕ, List, [], ◌∷◌, slice_get, Some, take}
use Rattle.cst_core.specs.Path.{Path}
use Rattle.cst_core.specs.Tree.{text}
use Rattle.cst_core.specs.Element.{Element, subtree}
use Rattle.text_edit.specs.TextPiece.{TextPiece, FitText, applied}
use Rattle.text_edit.specs.Composition.{AreComposed}
use Rattle.one_pass.specs.TextEdits.{text_pieces}
use Rattle.edit_change.specs.Places.{ArePlaces}
use Rattle.edit_plan.specs.Plan.{Plan}
use Rattle.edit_chain.specs.Chain.{Chain, root_after}
use Rattle.edit_chain.specs.declared.step.Step.{Step}
use Rattle.edit_chain.specs.declared.chain_error.ChainError.{ChainError}
use Rattle.edit_chain.specs.declared.chain_error.ChainError.TheVariants.{Unfit, Memory}

abbrev pub ArePieces : Plan → List TextPiece → Type 0
ArePieces p es = (places : ℕ → Path) → ArePlaces p.mapping p.changes places → es ≡ text_pieces p.root p.changes places

abbrev pub Compose : List Step → List TextPiece → Type 0
Compose [] es = es ≡ []
Compose (s ∷ []) es = ArePieces s.plan es
Compose (s ∷ t ∷ ss) es =
    (own : List TextPiece) × (others : List TextPiece) × ArePieces s.plan own × Compose (t ∷ ss) others × AreComposed own others es

pub record DoAll (root : Element) (steps : List Step) (es : List TextPiece) : Type 0 where
  pub composed : Compose steps es
  pub fit : FitText (text (subtree root)) es
  pub makes : applied es (text (subtree root)) ≡ text (subtree (root_after root steps))

pub record FollowsOn (old : List ℕ) (s : Step) : Type 0 where
  pub text_is : text (subtree s.plan.root) ≡ old
  pub fit : (es : List TextPiece) → ArePieces s.plan es → FitText old es

abbrev pub TextRefuses : Chain → ChainError → Type 0
TextRefuses c (Unfit step) = (s : Step) → slice_get c.steps step ≡ Some s → ¬ (FollowsOn (text (subtree (root_after c.first (take step c.steps)))) s)
TextRefuses c Memory = Unit {0}
TextRefuses c _ = ⊥
