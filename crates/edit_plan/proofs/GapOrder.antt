-- What stands in a gap, from a list of aims in parts.
--     gap-append                    that of one list and then that of another one
--     gap-two                       two inserts of one gap stand in the order of the list, whatever is in the list beside them
use Rattle.std.specs.Prelude.{◌≡◌, ℕ, true, cond, List, ◌∷◌, ◌++◌, filter, flat_map}
use Rattle.std.proofs.Common.{ap, ap₂, sym, ◌∙◌}
use Rattle.std.proofs.lemmas.Grind.{flat_map-append}
use Rattle.std.proofs.lemmas.List.{append_assoc, map-append}
use Rattle.std.proofs.lemmas.List.Elements.{filter-append}
use Rattle.cst_core.specs.Path.{Path}
use Rattle.cst_core.specs.Tree.{Tree}
use Rattle.edit_change.specs.Aim.{aims_at_gap}
use Rattle.edit_change.specs.Rewriting.{NumberedAim, numbers, inserts_at, gap_order, gap}
use Rattle.edit_change.proofs.GapRule.{gap_order-append, gap_order-first}

module _ {L : Type 0} (l : Path → ℕ → L) (g : ℕ → List (Tree L)) (p : Path) (i : ℕ) where
  abbrev held : List NumberedAim → List (Tree L)
  held cs = gap l g cs p i

  inserts-append : (xs ys : List NumberedAim) → inserts_at (xs ++ ys) p i ≡ inserts_at xs p i ++ inserts_at ys p i
  inserts-append xs ys =
      ap numbers (filter-append (λ c. aims_at_gap p i c.1) xs ys) ∙ map-append (λ c. c.0) (filter (λ c. aims_at_gap p i c.1) xs) (filter (λ c. aims_at_gap p i c.1) ys)

  pub gap-append : (xs ys : List NumberedAim) → held (xs ++ ys) ≡ held xs ++ held ys
  gap-append xs ys =
      ap (λ ns. flat_map g (gap_order ns)) (inserts-append xs ys)
      ∙ ap (flat_map g) (gap_order-append (inserts_at xs p i) (inserts_at ys p i))
      ∙ flat_map-append g (gap_order (inserts_at xs p i)) (gap_order (inserts_at ys p i))

  gap-first : (c : NumberedAim) (cs : List NumberedAim) → aims_at_gap p i c.1 ≡ true → held (c ∷ cs) ≡ g c.0 ++ held cs
  gap-first c cs aims =
      ap (λ b. flat_map g (gap_order (numbers (cond b (c ∷ filter (λ d. aims_at_gap p i d.1) cs) (filter (λ d. aims_at_gap p i d.1) cs))))) aims
      ∙ ap (flat_map g) (gap_order-first c.0 (inserts_at cs p i))

  pub gap-two : (before between after : List NumberedAim) (c d : NumberedAim) → aims_at_gap p i c.1 ≡ true → aims_at_gap p i d.1 ≡ true → held (before ++ c ∷ between ++ d ∷ after) ≡ held before ++ g c.0 ++ held between ++ g d.0 ++ held after
  gap-two before between after c d aims_c aims_d =
      gap-append (before ++ c ∷ between) (d ∷ after)
      ∙ ap₂ (λ x y. x ++ y) (gap-append before (c ∷ between) ∙ ap (λ x. held before ++ x) (gap-first c between aims_c) ∙ sym (append_assoc (held before) (g c.0) (held between))) (gap-first d after aims_d)
      ∙ sym (append_assoc (held before ++ g c.0 ++ held between) (g d.0) (held after))
