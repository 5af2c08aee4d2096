-- What a step does to the text of the root before it.
--     IsFitting                     pieces are those of its plan, fit that text, and make that of its new root
--     Precedes                      pieces compose such pieces with later ones
--     FitRefuses                    a step does not follow on, if the error names it
use Rattle.std.specs.Prelude.{◌≡◌, ℕ, List}
use Rattle.cst_core.specs.Tree.{text}
use Rattle.cst_core.specs.Element.{subtree}
use Rattle.text_edit.specs.TextPiece.{TextPiece, FitText, applied}
use Rattle.text_edit.specs.Composition.{AreComposed}
use Rattle.edit_chain.specs.ChainText.{ArePieces, FollowsOn}
use Rattle.edit_chain.specs.declared.step.Step.{Step}
use Rattle.edit_chain.specs.declared.chain_error.ChainError.{ChainError}
use Rattle.edit_chain.specs.declared.chain_error.ChainError.TheVariants.{Unfit, Memory}

pub record IsFitting (old : List ℕ) (s : Step) (es : List TextPiece) : Type 0 where
  pub pieces : ArePieces s.plan es
  pub fit : FitText old es
  pub makes : applied es old ≡ text (subtree s.edit.new_root)

pub record Precedes (old : List ℕ) (s : Step) (later es : List TextPiece) : Type 0 where
  pub own : List TextPiece
  pub is : IsFitting old s own
  pub composed : AreComposed own later es
  pub fit : FitText old es
  pub makes : applied es old ≡ applied later (applied own old)

abbrev pub FitRefuses : List ℕ → Step → ℕ → ChainError → Type 0
FitRefuses old s index (Unfit step) = (step ≡ index) × ¬ (FollowsOn old s)
FitRefuses old s index Memory = Unit {0}
FitRefuses old s index _ = ⊥
