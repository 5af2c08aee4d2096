-- What it means that the text is at its end.
--     finished, finished-tree      the whole tree is there, and it is that one
--     ended                        the error that says so
--     unfinished                   the whole tree isn't there
use Rattle.std.proofs.Common.{◌≡◌, ℕ, [], ◌∷◌, ◌++◌, append-nil, Option, Some, None, refl, sym, ap, ◌∙◌, subst}
use Rattle.cst_core.specs.Green.{Branch, branch_tree}
use Rattle.cst_core.specs.Tree.{SyntaxTree}
use Rattle.tree_text.specs.KindNames.{name_in}
use Rattle.tree_text.specs.inner.Completing.{IsAfter, IsFrom}
use Rattle.tree_text.specs.inner.Gap.{is_gap}
use Rattle.tree_text.specs.inner.Nowhere.{Nowhere}
use Rattle.tree_text.specs.inner.Reading.{Reading, IsReading, IsLeft, IsLeftIn, IsLeftOutside, IsPartOfName, CannotEnd, name_part, unread, with_names}
use Rattle.tree_text.proofs.AnyNames.{more-reading}
use Rattle.std.specs.Option.{ok_or}
use Rattle.std.proofs.Common.{Result, Err, IfErr}
use Rattle.tree_text.specs.Refusals.{IsRefused}
use Rattle.tree_text.specs.declared.error.ExpressionError.{ExpressionError}
use Rattle.tree_text.specs.declared.error.ExpressionError.TheVariants.{Malformed}
use Rattle.tree_text.specs.declared.expected.Expected.{Expected}
use Rattle.tree_text.specs.declared.reader.State.{State}
use Rattle.tree_text.specs.declared.reader.State.TheVariants.{Between, NodeKind, TokenKind, Text, Escape}
use Rattle.tree_text.proofs.QuotedTexts.{token-ends, escape-ends}
use Rattle.tree_text.proofs.WholeTrees.{opened, named, unended}
use Rattle.tree_text.proofs.EncodedBytes.{are-gaps}
use Rattle.tree_text.proofs.Leaving.{in-state, back-in-state, unread-in}

module _ (r : Reading) (h : IsReading r) where
  pub finished-tree : (n : Branch) (t : SyntaxTree) → r.root ≡ Some n → IsLeft r t (unread r) → branch_tree n ≡ t
  finished-tree n t some left =
      let w = h.whole n some in
      let left' : IsLeft r t [] = subst (IsLeft r t) (unread-in r Between w.between) left in
      (subst (λ o. IsLeftOutside r.given r.gaps r.nodes o t []) some (in-state r Between t [] w.between left')).0

  pub finished : (n : Branch) → r.root ≡ Some n → IsLeft r (branch_tree n) (unread r)
  finished n some =
      let w = h.whole n some in
      let left = back-in-state r Between (branch_tree n) [] w.between (subst (λ o. IsLeftOutside r.given r.gaps r.nodes o (branch_tree n) []) (sym some) (refl, refl)) in
      subst (IsLeft r (branch_tree n)) (sym (unread-in r Between w.between)) left

  none-left : (s : State) (t : SyntaxTree) → r.root ≡ None → IsPartOfName s r.word → IsLeftIn s r t (name_part s r.word) → ⊥
  none-left Between t none word left = unended (name_in r.given) (is_gap r.gaps) h.names (are-gaps r.gaps) r.nodes t (subst (λ o. IsLeftOutside r.given r.gaps r.nodes o t []) none left)
  none-left NodeKind t none word left =
      let left' = subst (λ x. IsFrom (name_in r.given) (is_gap r.gaps) r.nodes t (40 ∷ x)) (sym (append-nil r.word)) left in
      let known = opened (name_in r.given) (is_gap r.gaps) h.names (are-gaps r.gaps) r.nodes t r.word [] word refl left' in
      unended (name_in r.given) (is_gap r.gaps) h.names (are-gaps r.gaps) ((known.0, []) ∷ r.nodes) t known.2
  none-left TokenKind t none word left =
      let left' = subst (IsFrom (name_in r.given) (is_gap r.gaps) r.nodes t) (sym (append-nil r.word)) left in
      let known = named (name_in r.given) (is_gap r.gaps) h.names (are-gaps r.gaps) r.nodes t r.word [] word refl left' in
      let is : [] ≡ 34 ∷ known.2.second = known.2.joined ∙ ap (λ x. x ++ known.2.second) known.2.is_first in
      absurd (cc)
  none-left (Text k) t none word left = token-ends (IsAfter (name_in r.given) (is_gap r.gaps) r.nodes t) k.0 r.word left
  none-left (Escape k) t none word left = escape-ends (IsAfter (name_in r.given) (is_gap r.gaps) r.nodes t) k.0 r.word left

  plain-unfinished : r.root ≡ None → (t : SyntaxTree) → IsLeft r t (unread r) → ⊥
  plain-unfinished none t left = none-left r.state t none h.word left

pub unfinished : (r : Reading) (h : IsReading r) → r.root ≡ None → CannotEnd r
unfinished r h none more m = plain-unfinished (with_names more r) (more-reading r h more m) none

-- the error where there is no tree
pub ended : (o : Option Branch) (e : ExpressionError) (at : ℕ) (x : Expected) (r : Result Branch ExpressionError) (A : Type 0)
    → r ≡ ok_or o e → e ≡ Malformed at x → (o ≡ None → A) → IfErr r (IsRefused (λ y. (y ≡ at) × A) Nowhere Nowhere ⊥)
ended (Some n) e at x r A is misses none = subst (λ y. IfErr y (IsRefused (λ y. (y ≡ at) × A) Nowhere Nowhere ⊥)) (sym is) tt
ended None e at x r A is misses none = subst (λ y. IfErr y (IsRefused (λ y. (y ≡ at) × A) Nowhere Nowhere ⊥)) (sym (is ∙ ap Err misses)) (refl, none refl)
