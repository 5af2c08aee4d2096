-- What the test of links says of an order.
--     links-within                  links lead to numbers of changes
--     links-decide                  the test answers whether the order keeps to what the links carry
use Rattle.std.specs.Prelude.{◌≡◌, ◌↔◌, ℕ, Bool, List, Option, length, IsTrue}
use Rattle.std.proofs.Common.{ap, sym, subst, ◌∙◌, arith}
use Rattle.edit_change.specs.declared.change.Change.{Change}
use Rattle.edit_change.proofs.Positions.{same-test}
use Rattle.edit_change.specs.Nesting.{Numbered}
use Rattle.edit_steps.specs.Schedule.{ListsEachOnce, respects}
use Rattle.edit_steps.specs.inner.Followers.{HasLinksBelow, AreIndices, Keeps}
use Rattle.edit_steps.proofs.Orders.{Carries, links-below, respects-keeps}

module _ (first : Numbered → Numbered → Bool) (cs : List Change) (table links : List (Option ℕ)) (carries : Carries first cs table) (is_table : links ≡ table) (order items indices : List ℕ) (are : AreIndices order (length cs) items) (is_items : indices ≡ items) where
  pub links-within : HasLinksBelow (length indices) links
  links-within n m is =
      let long : length indices ≡ length cs = ap length is_items ∙ are.long in
      let below = links-below first cs links (subst (Carries first cs) (sym is_table) carries) n m is in
      omega (arith, below, long)

  pub links-decide : (b : Bool) → ListsEachOnce cs order → IsTrue b ↔ Keeps indices links → b ≡ respects first cs order
  links-decide b each tells =
      let both = respects-keeps first cs order indices links each (subst (AreIndices order (length cs)) (sym is_items) are) (subst (Carries first cs) (sym is_table) carries) in
      same-test b (respects first cs order) (λ h. both.1 (tells.0 h)) (λ h. tells.1 (both.0 h))
