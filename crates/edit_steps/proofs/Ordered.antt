-- What is done keeps to the order.
--     waiting-ordered               what must come before a change that is done is done
use Rattle.std.specs.Prelude.{◌≡◌, ◌||◌, ℕ, zero, suc, Bool, true, false, List, slice_get, Option, Some}
use Rattle.std.proofs.Common.{◌∙◌}
use Rattle.std.proofs.lemmas.Bool.{or_cases}
use mathlib.Core.Logic.{inl, inr}
use Rattle.edit_change.specs.Nesting.{is_dropped, Numbered}
use Rattle.edit_change.specs.declared.change.Change.{Change}
use Rattle.edit_steps.specs.Schedule.{owned_first, gap_first, token_first, comes_first}
use Rattle.edit_steps.specs.inner.Waiting.{IsWaiting}
use Rattle.edit_steps.specs.inner.Followers.{steps, owner_link, gap_link, token_link}
use Rattle.edit_steps.specs.inner.Waits.{IsCounted}
use Rattle.edit_steps.specs.declared.order.waits.Waits.{Waits}
use Rattle.edit_steps.specs.declared.order.waiting.Waiting.{Waiting}
use Rattle.edit_steps.proofs.LinkTables.{owners-carry, gaps-carry, tokens-carry}
use Rattle.edit_steps.proofs.Orders.{Carries, first_step}

-- along links, from what is done back
done_along : (f : ℕ → Change → Option ℕ) (cs : List Change) (done : ℕ → Bool) (w : Waits) → IsCounted f cs done w → (k n m : ℕ) → steps w.links.items (suc k) n ≡ Some m → done m ≡ true → done n ≡ true
done_along f cs done w is zero n m h last =
    let one = first_step w.links.items n 0 m h in
    is.closed n m (one.1 ∙ one.2) last
done_along f cs done w is (suc k) n m h last =
    let one = first_step w.links.items n (suc k) m h in
    is.closed n one.0 one.1 (done_along f cs done w is k one.0 m one.2 last)

module _ (cs : List Change) (done : ℕ → Bool) (w : Waiting) (is : IsWaiting cs done w) (n m : ℕ) (c d : Change) (is_c : slice_get cs n ≡ Some c) (is_d : slice_get cs m ≡ Some d) (c_stays : is_dropped cs c ≡ false) (d_stays : is_dropped cs d ≡ false) where
  by_links : (first : Numbered → Numbered → Bool) (f : ℕ → Change → Option ℕ) (x : Waits) → IsCounted f cs done x → Carries first cs x.links.items → first (n, c) (m, d) ≡ true → done m ≡ true → done n ≡ true
  by_links first f x counted carries comes last =
      let on = carries.covers n m c d is_c c_stays is_d d_stays comes in
      done_along f cs done x counted on.0 n m on.1 last

  pub waiting-ordered : comes_first cs (n, c) (m, d) ≡ true → done m ≡ true → done n ≡ true
  waiting-ordered comes last =
      elim (or_cases (owned_first cs (n, c) (m, d) || gap_first (n, c) (m, d)) (token_first (n, c) (m, d)) comes) [
        | inl either ↦ elim (or_cases (owned_first cs (n, c) (m, d)) (gap_first (n, c) (m, d)) either) [
          | inl owned ↦ by_links (owned_first cs) (owner_link cs) w.owners is.owners (owners-carry cs w.owners.links.items is.owners.linked) owned last
          | inr gap ↦ by_links gap_first (gap_link cs) w.gaps is.gaps (gaps-carry cs w.gaps.links.items is.gaps.linked) gap last
        ]
        | inr token ↦ by_links token_first (token_link cs) w.tokens is.tokens (tokens-carry cs w.tokens.links.items is.apart is.tokens.linked) token last
      ]
