-- One list of edits for some steps.
--     one-list                      a plan has one list of text edits
--     all-none, all-first, all-before  for no step; for one; for one more before others
--     whole, fits-told              what the text edits of a step's plan do, as code has them
--     err-gives, refused-at         a refusal of one step is one of the chain
--     last-at, all-last, later-at, all-from  the same lists, from the last step of a chain on
use Rattle.std.specs.Prelude.{◌≡◌, ◌<◌, ℕ, suc, List, [], ◌∷◌, ◌++◌, take, drop, length, slice_get, unwrap_or, Some, Result, Ok, Err, IfErr, IsErrAnd, refl}
use Rattle.std.proofs.Common.{ap, sym, subst, ◌∙◌, arith, length-drop}
use Rattle.std.proofs.lemmas.Option.{same_Some}
use Rattle.std.proofs.lemmas.List.Elements.{All-nil}
use Rattle.cst_core.specs.Tree.{Token, text, at}
use Rattle.cst_core.specs.Element.{Element, subtree}
use Rattle.text_edit.specs.TextPiece.{TextPiece, FitsText, FitText, applied, pieces}
use Rattle.text_edit.specs.declared.text_edit.TextEdit.{TextEdit}
use Rattle.edit_plan.specs.Plan.{Plan, IsPlan}
use Rattle.edit_chain.specs.Chain.{Chain, root_after}
use Rattle.edit_chain.specs.ChainText.{ArePieces, DoAll, FollowsOn, TextRefuses}
use Rattle.edit_chain.specs.inner.StepText.{IsFitting, Precedes, FitRefuses}
use Rattle.edit_chain.specs.declared.step.Step.{Step}
use Rattle.edit_chain.proofs.Steps.{before-at, drop-at, at-end, drop-end}
use Rattle.edit_chain.specs.declared.chain_error.ChainError.{ChainError}
use Rattle.edit_chain.specs.declared.chain_error.ChainError.TheVariants.{OtherRoot, TooLong, NoTreeNumber, Unfit, Memory}

pub one-list : (p : Plan) (es fs : List TextPiece) → IsPlan p → ArePieces p es → ArePieces p fs → es ≡ fs
one-list p es fs is own other = own is.places is.placed ∙ sym (other is.places is.placed)

pub all-none : (root : Element) → DoAll root [] []
all-none root = record { composed = refl; fit = All-nil (FitsText (text (subtree root))); makes = refl }

pub all-first : (root : Element) (s : Step) (es : List TextPiece) → IsFitting (text (subtree root)) s es → DoAll root (s ∷ []) es
all-first root s es is = record { composed = is.pieces; fit = is.fit; makes = is.makes }

pub all-before : (root : Element) (s t : Step) (ss : List Step) (later es : List TextPiece) → Precedes (text (subtree root)) s later es → DoAll s.edit.new_root (t ∷ ss) later → DoAll root (s ∷ t ∷ ss) es
all-before root s t ss later es is does = record {
  composed = (is.own, later, is.is.pieces, does.composed, is.composed);
  fit = is.fit;
  makes = is.makes ∙ ap (applied later) is.is.makes ∙ does.makes;
}

-- ---- of a step in code
pub whole : (e : Element) → e.path ≡ [] → text (subtree e) ≡ text e.root
whole e is = ap (λ p. text (unwrap_or (at e.root p) (Token 0 []))) is

pub fits-told : (old : List ℕ) (s : Step) (es : List TextPiece) (slice : List TextEdit) → pieces slice ≡ es → ArePieces s.plan es → s.edit.new_root.path ≡ [] → applied (pieces slice) (text (subtree s.plan.root)) ≡ text s.edit.new_root.root → text (subtree s.plan.root) ≡ old → FitText old es → IsFitting old s es
fits-told old s es slice is own is_root makes same fit = record {
  pieces = own;
  fit = fit;
  makes = ap (applied es) (sym same) ∙ ap (λ xs. applied xs (text (subtree s.plan.root))) (sym is) ∙ makes ∙ sym (whole s.edit.new_root is_root);
}

-- ---- why there is no list
pub err-gives : {T : Type 0} (P : ChainError → Type 0) (r : Result T ChainError) (x : ChainError) → IsErrAnd r (λ e. e ≡ x) → P x → IfErr r P
err-gives P (Ok t) x is holds = tt
err-gives P (Err e) x is holds = subst P (sym is) holds

pub refused-at : (c : Chain) (i : ℕ) (s : Step) (old : List ℕ) (e : ChainError) → slice_get c.steps i ≡ Some s → old ≡ text (subtree (root_after c.first (take i c.steps))) → FitRefuses old s i e → TextRefuses c e
refused-at c i s old (Unfit step) at_i is refused = λ t at_step follows.
    let here : slice_get c.steps i ≡ Some t = subst (λ n. slice_get c.steps n ≡ Some t) refused.0 at_step in
    let same : t ≡ s = same_Some t s (sym here ∙ at_i) in
    let first : FollowsOn (text (subtree (root_after c.first (take i c.steps)))) t = subst (λ n. FollowsOn (text (subtree (root_after c.first (take n c.steps)))) t) refused.0 follows in
    refused.1 (subst (λ o. FollowsOn o s) (sym is) (subst (FollowsOn (text (subtree (root_after c.first (take i c.steps))))) same first))
refused-at c i s old Memory at_i is refused = tt
refused-at c i s old OtherRoot at_i is refused = absurd refused
refused-at c i s old TooLong at_i is refused = absurd refused
refused-at c i s old NoTreeNumber at_i is refused = absurd refused

-- ---- from the last step on
module _ (root : Element) (steps before : List Step) (last : Step) (is : steps ≡ before ++ last ∷ []) where
  pub last-at : slice_get steps (length before) ≡ Some last
  last-at = ap (λ ss. slice_get ss (length before)) is ∙ at-end before last

  pub all-last : (es : List TextPiece) → IsFitting (text (subtree (root_after root (take (length before) steps)))) last es → DoAll (root_after root (take (length before) steps)) (drop (length before) steps) es
  all-last es fits = subst (λ ss. DoAll (root_after root (take (length before) steps)) ss es) (sym (ap (drop (length before)) is ∙ drop-end before last)) (all-first (root_after root (take (length before) steps)) last es fits)

-- what is done from the step after one on is done from the root that it made on
pub later-at : (root : Element) (steps : List Step) (i : ℕ) (s : Step) (es : List TextPiece) → slice_get steps i ≡ Some s → DoAll (root_after root (take (suc i) steps)) (drop (suc i) steps) es → DoAll s.edit.new_root (drop (suc i) steps) es
later-at root steps i s es is does = subst (λ r. DoAll r (drop (suc i) steps) es) (before-at root steps i s is) does

pub all-from : (root : Element) (steps : List Step) (i : ℕ) (s : Step) (later es : List TextPiece) → slice_get steps i ≡ Some s → suc i < length steps → Precedes (text (subtree (root_after root (take i steps)))) s later es → DoAll (root_after root (take (suc i) steps)) (drop (suc i) steps) later → DoAll (root_after root (take i steps)) (drop i steps) es
all-from root steps i s later es is within precedes does =
    subst (λ ss. DoAll (root_after root (take i steps)) ss es) (sym (drop-at steps i s is)) (put (root_after root (take i steps)) (drop (suc i) steps) (some-left steps (suc i) within) precedes (later-at root steps i s later is does))
  where
    some-left : (xs : List Step) (n : ℕ) → n < length xs → 0 < length (drop n xs)
    some-left xs n less = omega (arith, less, length-drop n xs)

    put : (own : Element) (rest : List Step) → 0 < length rest → Precedes (text (subtree own)) s later es → DoAll s.edit.new_root rest later → DoAll own (s ∷ rest) es
    put own [] none p from = absurd (omega (arith, none))
    put own (t ∷ ss) some p from = all-before own s t ss later es p from
