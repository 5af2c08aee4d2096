-- Two rewritings by the same aims, with other labels, are seen alike where what is kept and what is given is.
--     sides                         what is seen of each of several children, below its slot
--     IsSeen                        a view of trees: of what is kept at a path something of its own, and then what is seen of its children
--     alike, alike-whole            what is seen of one rewriting is what is seen of the other
--     with_number, IsSeen of it     the paths of one mark
use Rattle.std.specs.Prelude.{◌≡◌, ℕ, suc, Bool, true, false, cond, nat_eq, List, [], ◌∷◌, ◌++◌, map, filter, flat_map, refl}
use Rattle.std.proofs.Common.{ap, ap₂, sym, ◌∙◌}
use Rattle.std.proofs.lemmas.List.{map-append}
use Rattle.std.proofs.lemmas.List.Elements.{filter-append}
use Rattle.green_tree.specs.Path.{Path}
use Rattle.green_tree.specs.Tree.{Tree, Forest, Token, Node, end, more, SyntaxTree, trees, forest}
use Rattle.edit_change.specs.Rewriting.{NumberedAim, inserts_at, replacements_at, is_replaced, gap_order, gap, slot, rewritten, rewritten_from, rewritten_whole}
use Rattle.edit_change.specs.Topmost.{topmost}
use Rattle.one_pass.specs.inner.Marked.{MarkTree, Marking, marked, marked_from, mark_below}
use Rattle.one_pass.proofs.Children.{trees-forest}
use Rattle.one_pass.proofs.Marks.{marks-node, marks-token}
use Rattle.one_pass.proofs.Tops.{tops, top-node, top-token}

abbrev pub sides : ℕ → List (List Path) → List Path
sides i [] = []
sides i (ps ∷ pss) = map (λ p. i ∷ p) ps ++ sides (suc i) pss

pub record IsSeen {L : Type 0} (view : Tree L → List Path) (label_at : Path → ℕ → L) (own : Path → ℕ → List Path) : Type 0 where
  pub token : (p : Path) (k : ℕ) (s : List ℕ) → view (Token (label_at p k) s) ≡ own p k
  pub node : (p : Path) (k : ℕ) (f : Forest L) → view (Node (label_at p k) f) ≡ own p k ++ sides 0 (map view (trees f))

module _ {L M : Type 0} (v : Tree L → List Path) (w : Tree M → List Path) (l : Path → ℕ → L) (m : Path → ℕ → M) (own : Path → ℕ → List Path) (seen : IsSeen v l own) (seen_too : IsSeen w m own) (g : ℕ → List (Tree L)) (h : ℕ → List (Tree M)) (given : (c : ℕ) → map v (g c) ≡ map w (h c)) (cs : List NumberedAim) where
  given-alike : (ns : List ℕ) → map v (flat_map g ns) ≡ map w (flat_map h ns)
  given-alike [] = refl
  given-alike (n ∷ ns) = map-append v (g n) (flat_map g ns) ∙ ap₂ (λ xs ys. xs ++ ys) (given n) (given-alike ns) ∙ sym (map-append w (h n) (flat_map h ns))

  slot-alike : (p : Path) (t : Tree L) (u : Tree M) → v t ≡ w u → map v (slot l g cs p t) ≡ map w (slot m h cs p u)
  slot-alike p t u e =
      elim (is_replaced cs p) as (λ b. map v (cond b (flat_map g (replacements_at cs p)) (t ∷ [])) ≡ map w (cond b (flat_map h (replacements_at cs p)) (u ∷ []))) [
        | true ↦ given-alike (replacements_at cs p)
        | false ↦ ap (λ x. x ∷ []) e
      ]

  mutual
    pub alike : (p : Path) (t : SyntaxTree) → v (rewritten l g cs p t) ≡ w (rewritten m h cs p t)
    alike p (Token k s) = seen.token p k s ∙ sym (seen_too.token p k s)
    alike p (Node k f) =
        let ts = rewritten_from l g cs p 0 f in
        let us = rewritten_from m h cs p 0 f in
        seen.node p k (forest ts) ∙ ap (λ xs. own p k ++ sides 0 xs) (ap (map v) (trees-forest ts) ∙ alike_from p 0 f ∙ ap (map w) (sym (trees-forest us))) ∙ sym (seen_too.node p k (forest us))

    alike_from : (p : Path) (i : ℕ) (f : Forest ℕ) → map v (rewritten_from l g cs p i f) ≡ map w (rewritten_from m h cs p i f)
    alike_from p i end = given-alike (gap_order (inserts_at cs p i))
    alike_from p i (more t f) =
        let there = rewritten l g cs (p ++ i ∷ []) t in
        let here = rewritten m h cs (p ++ i ∷ []) t in
        map-append v (gap l g cs p i ++ slot l g cs (p ++ i ∷ []) there) (rewritten_from l g cs p (suc i) f) ∙ ap₂ (λ xs ys. xs ++ ys) (map-append v (gap l g cs p i) (slot l g cs (p ++ i ∷ []) there) ∙ ap₂ (λ xs ys. xs ++ ys) (given-alike (gap_order (inserts_at cs p i))) (slot-alike (p ++ i ∷ []) there here (alike (p ++ i ∷ []) t)) ∙ sym (map-append w (gap m h cs p i) (slot m h cs (p ++ i ∷ []) here))) (alike_from p (suc i) f) ∙ sym (map-append w (gap m h cs p i ++ slot m h cs (p ++ i ∷ []) here) (rewritten_from m h cs p (suc i) f))

  pub alike-whole : (t : SyntaxTree) → map v (rewritten_whole l g cs t) ≡ map w (rewritten_whole m h cs t)
  alike-whole t = slot-alike [] (rewritten l g cs [] t) (rewritten m h cs [] t) (alike [] t)

-- ---- the paths of one mark
abbrev pub with_number : ℕ → List Marking → List Path
with_number n ms = map (λ m. m.1) (filter (λ m. nat_eq n m.0) ms)

pub number-append : (n : ℕ) (ms ns : List Marking) → with_number n (ms ++ ns) ≡ with_number n ms ++ with_number n ns
number-append n ms ns = ap (map (λ m. m.1)) (filter-append (λ m. nat_eq n m.0) ms ns) ∙ map-append (λ m. m.1) (filter (λ m. nat_eq n m.0) ms) (filter (λ m. nat_eq n m.0) ns)

pub number-below : (n i : ℕ) (ms : List Marking) → with_number n (map (mark_below (i ∷ [])) ms) ≡ map (λ p. i ∷ p) (with_number n ms)
number-below n i [] = refl
number-below n i (m ∷ ms) =
    elim (nat_eq n m.0) as (λ b. map (λ (x : Marking). x.1) (cond b (mark_below (i ∷ []) m ∷ filter (λ (x : Marking). nat_eq n x.0) (map (mark_below (i ∷ [])) ms)) (filter (λ (x : Marking). nat_eq n x.0) (map (mark_below (i ∷ [])) ms))) ≡ map (λ (p : Path). i ∷ p) (map (λ (x : Marking). x.1) (cond b (m ∷ filter (λ (x : Marking). nat_eq n x.0) ms) (filter (λ (x : Marking). nat_eq n x.0) ms)))) [
      | true ↦ ap (λ ps. (i ∷ m.1) ∷ ps) (number-below n i ms)
      | false ↦ number-below n i ms
    ]

pub number-from : (n i : ℕ) (ts : List MarkTree) → with_number n (marked_from i ts) ≡ sides i (map (λ t. with_number n (marked t)) ts)
number-from n i [] = refl
number-from n i (t ∷ ts) =
    number-append n (map (mark_below (i ∷ [])) (marked t)) (marked_from (suc i) ts) ∙ ap₂ (λ ps qs. ps ++ qs) (number-below n i (marked t)) (number-from n (suc i) ts)

-- the marks of the element itself
abbrev pub own_number : ℕ → List ℕ → List Path
own_number n ms = with_number n (map (λ m. (m, [])) ms)

pub number-seen : (n : ℕ) (label_at : Path → ℕ → List ℕ) → IsSeen (λ t. with_number n (marked t)) label_at (λ p k. own_number n (label_at p k))
number-seen n label_at = record {
  token = λ p k s. ap (with_number n) (marks-token (label_at p k) s);
  node = λ p k f. ap (with_number n) (marks-node (label_at p k) f) ∙ number-append n (map (λ m. (m, [])) (label_at p k)) (marked_from 0 (trees f)) ∙ ap (λ ps. own_number n (label_at p k) ++ ps) (number-from n 0 (trees f));
}

-- ---- the topmost elements, where what is kept does not pass
tops-sides : {L : Type 0} (test : L → Bool) (i : ℕ) (ts : List (Tree L)) → tops test i ts ≡ sides i (map (topmost test) ts)
tops-sides test i [] = refl
tops-sides test i (t ∷ ts) = ap (λ ps. map (λ p. i ∷ p) (topmost test t) ++ ps) (tops-sides test (suc i) ts)

pub topmost-seen : {L : Type 0} (test : L → Bool) (label_at : Path → ℕ → L) → ((p : Path) (k : ℕ) → test (label_at p k) ≡ false) → IsSeen (topmost test) label_at (λ p k. [])
topmost-seen test label_at none = record {
  token = λ p k s. top-token test (label_at p k) s (none p k);
  node = λ p k f. top-node test (label_at p k) f (none p k) ∙ tops-sides test 0 (trees f);
}
