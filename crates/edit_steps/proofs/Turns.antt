-- The turns of changes, one after another.
--     front-parent                  all of a path but its last slot
--     gap-first, gap-after         the index of a gap, by its form
--     kept_of, kept-more            the changes before a number that are not dropped; one change more
--     turns-kept, turns-passed      the turns of one change more
use Rattle.std.specs.Prelude.{◌≡◌, ◌<◌, ◌+◌, ◌-◌, ℕ, suc, true, false, not, cond, List, [], ◌∷◌, ◌++◌, map, filter, length, take, Some, None, refl}
use Rattle.std.specs.List.{enumerate_from}
use Rattle.std.proofs.Common.{ap, ap₂, sym, ◌∙◌, arith, get_or}
use Rattle.std.proofs.lemmas.List.{map-append, append-nil, length-take-le}
use Rattle.std.proofs.lemmas.List.Elements.{filter-append}
use Rattle.std.proofs.lemmas.Option.{none-some, same_Some}
use Rattle.cst_core.specs.Path.{Path, parent_path, last_slot}
use Rattle.cst_core.specs.SyntaxElement.{element_of}
use Rattle.cst_core.specs.declared.element.SyntaxElement.{SyntaxElement}
use Rattle.edit_change.specs.Nesting.{is_dropped, Numbered}
use Rattle.edit_change.specs.Position.{anchor, after_of}
use Rattle.edit_change.specs.PositionForm.{FirstChild, After}
use Rattle.edit_change.specs.declared.position.Position.{Position}
use Rattle.edit_change.specs.declared.change.Change.{Change}
use Rattle.edit_change.proofs.Positions.{push-of-take}
use Rattle.edit_steps.specs.DefaultOrder.{gap_path}
use Rattle.edit_steps.specs.inner.Turns.{turn_in, turn_of}
use Rattle.edit_steps.specs.declared.order.document_order.Turn.{Turn}
use Rattle.edit_steps.proofs.Tables.{enumerated-push}

-- ---- the index of a gap
pub front-parent : (p : Path) (n : ℕ) → n ≡ length p - 1 → take n p ≡ parent_path p
front-parent [] n is = ap (λ k. take k []) is
front-parent (i ∷ []) n is = ap (λ k. take k (i ∷ [])) is
front-parent (i ∷ j ∷ p) n is =
    let more : length (i ∷ j ∷ p) - 1 ≡ suc (length (j ∷ p) - 1) = omega arith in
    ap (λ k. take k (i ∷ j ∷ p)) (is ∙ more) ∙ ap (λ q. i ∷ q) (front-parent (j ∷ p) (length (j ∷ p) - 1) refl)

pub gap-after : (at : Position) (e : SyntaxElement) (slot : ℕ) → after_of at ≡ Some e → slot ≡ suc (last_slot (element_of e).path) → parent_path (anchor at).path ++ slot ∷ [] ≡ gap_path at
gap-after (FirstChild n) e slot is next = absurd (none-some e is)
gap-after (After f) e slot is next =
    ap {A = ℕ} {B = Path} (λ k. parent_path (element_of f).path ++ k ∷ []) (next ∙ ap (λ x. suc (last_slot (element_of x).path)) (sym (same_Some f e is)))

pub gap-first : (at : Position) → after_of at ≡ None → (anchor at).path ++ 0 ∷ [] ≡ gap_path at
gap-first (FirstChild n) is = refl
gap-first (After f) is = absurd (none-some f (sym is))

-- ---- one change more
module _ (cs : List Change) (n : ℕ) (c : Change) (l : n < length cs) (is : c ≡ get_or cs n c) where
  abbrev pub kept_of : ℕ → List Numbered
  kept_of k = filter (λ d. not (is_dropped cs d.1)) (enumerate_from 0 (take k cs))

  pub kept-more : kept_of (n + 1) ≡ kept_of n ++ cond (not (is_dropped cs c)) ((n, c) ∷ []) []
  kept-more =
      let e : 0 + length (take n cs) ≡ n = omega (arith, length-take-le n cs (omega (arith, l))) in
      let stays = λ (d : Numbered). not (is_dropped cs d.1) in
      ap (λ ds. filter stays (enumerate_from 0 ds)) (push-of-take n cs c l is) ∙ ap (filter stays) (enumerated-push 0 (take n cs) c) ∙ filter-append stays (enumerate_from 0 (take n cs)) ((0 + length (take n cs), c) ∷ []) ∙ ap {A = ℕ} {B = List Numbered} (λ m. kept_of n ++ cond (not (is_dropped cs c)) ((m, c) ∷ []) []) e

  module _ (before : List Turn) (told : map turn_in before ≡ map turn_of (kept_of n)) where
    pub turns-passed : is_dropped cs c ≡ true → map turn_in before ≡ map turn_of (kept_of (n + 1))
    turns-passed gone =
        told ∙ sym (ap (map turn_of) (kept-more ∙ ap (λ b. kept_of n ++ cond (not b) ((n, c) ∷ []) []) gone ∙ append-nil (kept_of n)))

    pub turns-kept : (after : List Turn) (t : Turn) → is_dropped cs c ≡ false → after ≡ before ++ t ∷ [] → turn_in t ≡ turn_of (n, c) → map turn_in after ≡ map turn_of (kept_of (n + 1))
    turns-kept after t stays push here =
        ap (map turn_in) push ∙ map-append turn_in before (t ∷ []) ∙ ap₂ (λ ts s. ts ++ s ∷ []) told here ∙ sym (ap (map turn_of) (kept-more ∙ ap (λ b. kept_of n ++ cond (not b) ((n, c) ∷ []) []) stays) ∙ map-append turn_of (kept_of n) ((n, c) ∷ []))
