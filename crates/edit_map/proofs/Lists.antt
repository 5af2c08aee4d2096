-- The last item of a filtered list.
use Rattle.std.specs.Prelude.{◌≡◌, List, [], ◌∷◌, filter_map, Option, Some, None, refl}
use Rattle.std.specs.List.{cons_option}
use Rattle.std.proofs.Common.{◌∙◌}
use Rattle.std.proofs.lemmas.Option.{none-some}
use Rattle.cst_core.specs.Path.{last_item}

module _ {X Y : Type 0} (f : X → Option Y) (y : Y) where
  last_cons : (z : Y) (x : X) → f x ≡ Some z → (ys : List Y) → (last_item ys ≡ Some y → (u : X) × (f u ≡ Some y)) → last_item (z ∷ ys) ≡ Some y → (u : X) × (f u ≡ Some y)
  last_cons z x is [] rest l = (x, is ∙ l)
  last_cons z x is (w ∷ ws) rest l = rest l

  -- it comes from an item of the list
  pub last_item-filter_map : (xs : List X) → last_item (filter_map f xs) ≡ Some y → (x : X) × (f x ≡ Some y)
  last_item-filter_map [] e = absurd (none-some y e)
  last_item-filter_map (x ∷ xs) e =
      (elim (f x) as (λ o. f x ≡ o → last_item (cons_option o (filter_map f xs)) ≡ Some y → (u : X) × (f u ≡ Some y)) [
        | None ↦ λ _ l. last_item-filter_map xs l
        | Some z ↦ λ is l. last_cons z x is (filter_map f xs) (last_item-filter_map xs) l
      ]) refl e
