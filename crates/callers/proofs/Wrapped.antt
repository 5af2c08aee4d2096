-- A block that is put between parentheses, where these are made first.
--     wraps_one          an editor that records this has wrapped the blocks of a list of this one
use Rattle.std.specs.Prelude.{◌≡◌, ℕ, ◌+◌, true, cond, List, [], ◌∷◌, codes}
use Rattle.std.proofs.Common.{ap, sym, subst, ◌∙◌}
use Rattle.syntax_editor.specs.Kinds.{TUPLE_EXPR, L_PAREN, R_PAREN}
use Rattle.syntax_editor.specs.Element.{Element}
use Rattle.syntax_editor.specs.ElementForms.{SyntaxElement}
use Rattle.syntax_editor.specs.ElementForms.TheVariants.{Node}
use Rattle.syntax_editor.specs.ChangeForms.{Change}
use Rattle.syntax_editor.specs.Mapping.{Mapping}
use Rattle.syntax_editor.specs.Editor.{Editor}
use Rattle.syntax_editor.specs.RecordCall.{Replacing, recorded}
use Rattle.syntax_editor.specs.Spacing.{lone_token}
use Rattle.syntax_editor.specs.Wrapping.{wrapper, Wraps}
use Rattle.callers.specs.Rewritten.{is_block, in_parentheses, WrapsBlocks}

abbrev Same : ℕ × List Change → ℕ × List Change → Type 0
Same a b = a ≡ b

pub wraps_one : (n : Element) (next next1 next2 next3 : ℕ) (left right : SyntaxElement) (before after : Editor) (pairs : Mapping) → is_block n ≡ true → next1 ≡ next + 1 → next2 ≡ next + 2 → next3 ≡ next + 3 → left ≡ lone_token next L_PAREN (codes "(") → right ≡ lone_token next1 R_PAREN (codes ")") → Wraps n (wrapper next2 TUPLE_EXPR (left ∷ []) n (right ∷ [])) pairs before after → WrapsBlocks (n ∷ []) next next3 before after
wraps_one n next next1 next2 next3 left right before after pairs block e1 e2 e3 l r wraps =
    let made : wrapper next2 TUPLE_EXPR (left ∷ []) n (right ∷ []) ≡ in_parentheses next n =
    ap (λ k. wrapper k TUPLE_EXPR (left ∷ []) n (right ∷ [])) e2
    ∙ ap (λ t. wrapper (next + 2) TUPLE_EXPR (t ∷ []) n (right ∷ [])) l
    ∙ ap (λ t. wrapper (next + 2) TUPLE_EXPR (lone_token next L_PAREN (codes "(") ∷ []) n (t ∷ [])) (r ∙ ap (λ k. lone_token k R_PAREN (codes ")")) e1) in
    let changes : after.changes ≡ recorded (Replacing (Node n) (Node (in_parentheses next n))) before.changes =
    wraps.changes ∙ ap (λ (x : Element). recorded (Replacing (Node n) (Node x)) before.changes) made in
    let both : Same (next3, after.changes) (next + 3, recorded (Replacing (Node n) (Node (in_parentheses next n))) before.changes) =
    ap {B = ℕ × List Change} (λ k. (k, after.changes)) e3 ∙ ap {B = ℕ × List Change} (λ cs. (next + 3, cs)) changes in
    record {
      list = subst (λ b. Same (next3, after.changes) (cond b (next + 3, recorded (Replacing (Node n) (Node (in_parentheses next n))) before.changes) (next, before.changes))) (sym block) both;
      kept = wraps.others;
    }
