-- The length of the text of a part.
use Rattle.std.proofs.Common.{◌≡◌, ◌+◌, ◌<◌, ◌≤◌, [], ◌∷◌, ◌++◌, Some, None, refl, arith}
use Rattle.std.specs.Prelude.{slice_get, option_and_then}
use Rattle.green_tree.specs.Path.{Path}
use Rattle.green_tree.specs.Tree.{Tree, Token, Node, at, trees, text_length}
use Rattle.green_tree.specs.Order.{start}
use Rattle.green_tree.specs.Green.{length_limit}
use Rattle.green_tree.proofs.Starts.{start-top, start-below, start-child-le}

-- an element ends within the text of the tree
pub start-text_length-le : {L : Type 0} (t : Tree L) (p : Path) (c : Tree L) → at t p ≡ Some c → start t p + text_length c ≤ text_length t
start-text_length-le t [] c h =
    let same : t ≡ c = cc in
    rw same (omega (arith, start-top c))
start-text_length-le (Token l s) (i ∷ p) c h = absurd (cc)
start-text_length-le (Node l f) (i ∷ p) c h =
    elim (slice_get (trees f) i) as (λ o. slice_get (trees f) i ≡ o → option_and_then (λ d. at d p) o ≡ Some c → start (Node l f) (i ∷ p) + text_length c ≤ text_length (Node l f)) [
      | None ↦ λ there below. absurd (cc)
      | Some d ↦ λ there below. omega (arith, start-below l f i p d there, start-child-le l f i d there, start-text_length-le d p c below)
    ] refl h

-- no element has a longer text than the tree
pub text_length-at-le : {L : Type 0} (t : Tree L) (p : Path) (c : Tree L) → at t p ≡ Some c → text_length c ≤ text_length t
text_length-at-le t p c h = omega (arith, start-text_length-le t p c h)

-- the text of a part is within the limit where the tree's is, so its length is not capped
pub text_length-part : {L : Type 0} (t : Tree L) (p : Path) (c : Tree L) → at t p ≡ Some c → text_length t < length_limit → text_length c < length_limit
text_length-part t p c h fits = omega (arith, text_length-at-le t p c h)

-- an element below another one starts as far into it as its own path leads
pub start-append : {L : Type 0} (t : Tree L) (p q : Path) (c : Tree L) → at t p ≡ Some c → start t (p ++ q) ≡ start t p + start c q
start-append t [] q c h =
    let same : t ≡ c = cc in
    rw same (omega (arith, start-top c))
start-append (Token l s) (i ∷ p) q c h = absurd (cc)
start-append (Node l f) (i ∷ p) q c h =
    elim (slice_get (trees f) i) as (λ o. slice_get (trees f) i ≡ o → option_and_then (λ d. at d p) o ≡ Some c → start (Node l f) (i ∷ p ++ q) ≡ start (Node l f) (i ∷ p) + start c q) [
      | None ↦ λ there below. absurd (cc)
      | Some d ↦ λ there below. omega (arith, start-below l f i (p ++ q) d there, start-below l f i p d there, start-append d p q c below)
    ] refl h
