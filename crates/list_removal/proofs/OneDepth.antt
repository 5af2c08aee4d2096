-- The first of the siblings that go is at the depth of the element that is removed.
use Rattle.std.specs.Prelude.{◌≡◌, ℕ, suc, false, [], ◌∷◌, length, Option, Some, None, refl}
use Rattle.std.proofs.Common.{ap, sym, ◌∙◌}
use Rattle.cst_core.specs.Path.{Path, same_path, parent_path}
use Rattle.cst_core.specs.Element.{Element}
use Rattle.cst_core.specs.SyntaxElement.{element_of, previous_sibling}
use Rattle.cst_core.specs.SyntaxKind.{SyntaxKind}
use Rattle.cst_core.specs.declared.element.SyntaxElement.{SyntaxElement}
use Rattle.list_removal.specs.Removal.{past_whitespace, next_separator, previous_separator, removed_run}
use Rattle.list_removal.proofs.Siblings.{IsBefore, before-further, previous-before, past, token_kept}

parent_length : (p : Path) → same_path p [] ≡ false → length p ≡ suc (length (parent_path p))
parent_length [] below = cc
parent_length (i ∷ p) below = longer i p
  where
    longer : (i : ℕ) (p : Path) → length (i ∷ p) ≡ suc (length (parent_path (i ∷ p)))
    longer i [] = refl
    longer i (j ∷ p) = ap suc (longer j p)

before_length : (a b : Element) → IsBefore a b → length a.path ≡ length b.path
before_length a b h =
    parent_length a.path h.first_below ∙ ap (λ p. suc (length p)) h.parent ∙ sym (parent_length b.path h.last_below)

module _ (separator : SyntaxKind) (e : SyntaxElement) where
  before_it : (s : SyntaxElement) → previous_separator separator e ≡ Some s → length (element_of s).path ≡ length (element_of e).path
  before_it s is =
      before_length (element_of s) (element_of e) (past (λ a b. IsBefore b a) (λ a b c h k. before-further c b a k h) previous_sibling previous-before e s (token_kept separator (past_whitespace previous_sibling e) s is)).0

  abbrev IsLevel : SyntaxElement × SyntaxElement → Type 0
  IsLevel run = length (element_of run.0).path ≡ length (element_of e).path

  pub run_depth : IsLevel (removed_run separator e)
  run_depth = by_after (next_separator separator e) refl
    where
      by_before : (o : Option SyntaxElement) → next_separator separator e ≡ None → previous_separator separator e ≡ o → IsLevel (removed_run separator e)
      by_before None none is = rw (none, is) refl
      by_before (Some s) none is = rw (none, is) (before_it s is)

      by_after : (o : Option SyntaxElement) → next_separator separator e ≡ o → IsLevel (removed_run separator e)
      by_after (Some s) is = rw is refl
      by_after None is = by_before (previous_separator separator e) is refl
