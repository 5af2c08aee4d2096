-- Where the texts of elements begin and end, child by child, and the tokens that touch an offset.
use Rattle.std.proofs.Common.{◌≡◌, ℕ, ◌+◌, ◌-◌, ◌<◌, ◌≤◌, Bool, true, false, List, [], ◌∷◌, ◌++◌, map, length, get_or, Some, None, refl, ap, sym, ◌∙◌, arith, add-one, append_assoc, length-append, suc, drop}
use Rattle.std.specs.Prelude.{◌&&◌, nat_lt, nat_le, filter, sum_by, slice_get}
use Rattle.std.specs.Option.{option_map_or}
use Rattle.std.proofs.lemmas.List.{append-nil}
use Rattle.std.proofs.lemmas.List.Elements.{filter-append}
use mathlib.Core.Logic.{inl, inr}
use Rattle.std.proofs.lemmas.Bool.{cases_lt}
use Rattle.std.proofs.lemmas.Bool.Decides.{nat_tests}
use Rattle.green_tree.specs.Path.{Path}
use Rattle.green_tree.specs.Tree.{Tree, Forest, Token, Node, end, more, SyntaxTree, at, trees, forest, text, forest_text, text_length}
use Rattle.green_tree.specs.Order.{token_paths, tokens_before, start}
use Rattle.green_tree.specs.Offsets.{length_at, touches}
use Rattle.green_tree.specs.inner.TokensByOffset.{tokens_touching}
use Rattle.green_tree.specs.Green.{Leaf, leaf_tree, Branch, branch_tree, length_limit, capped_length}
use Rattle.green_tree.specs.GreenElement.{element_trees, element_tree}
use Rattle.green_tree.specs.inner.FoundToken.{reached_below}
use Rattle.green_tree.specs.declared.green.GreenElement.{GreenElement}
use Rattle.green_tree.proofs.Parts.{filter-map, slice_get-drop, drop-rest}
use Rattle.green_tree.proofs.Slots.{slice_get-child}
use Rattle.green_tree.proofs.Starts.{start-top, start-le, start-below, start-next, start-child-le}
use Rattle.green_tree.proofs.TextLengths.{start-text_length-le, start-append}
use Rattle.green_tree.proofs.Lookup.{at-append}
use Rattle.green_tree.proofs.TokenPaths.{filter-none, token_paths_from, token_paths-node, tokens_before-first}
use Rattle.green_tree.proofs.FoundTokens.{IsChildAt}

-- no element ends past the end of the text
pub end-le : {L : Type 0} (t : Tree L) (p : Path) → start t p + length_at t p ≤ text_length t
end-le t p =
    elim (at t p) as (λ o. at t p ≡ o → start t p + option_map_or text_length o 0 ≤ text_length t) [
      | None ↦ λ h. omega (arith, start-le t p)
      | Some c ↦ λ h. start-text_length-le t p c h
    ] refl

-- where the texts of the child in a slot, and of what is below it, stand in the node's
pub record IsSpanAt (b : Branch) (i : ℕ) (c : SyntaxTree) : Type 0 where
  pub below : (p : Path) → start (branch_tree b) (i ∷ p) ≡ start (branch_tree b) (i ∷ []) + start c p
  pub long : (p : Path) → length_at (branch_tree b) (i ∷ p) ≡ length_at c p
  pub next : start (branch_tree b) ((i + 1) ∷ []) ≡ start (branch_tree b) (i ∷ []) + text_length c
  pub within : start (branch_tree b) (i ∷ []) + text_length c ≤ text_length (branch_tree b)

pub span_at : (b : Branch) (es : List GreenElement) (i : ℕ) (e : GreenElement) → element_trees es ≡ b.children → i < length es → e ≡ get_or es i e → IsSpanAt b i (element_tree e)
span_at b es i e same h is =
    let there = slice_get-child b es i e same h is in
    record {
      below = λ p. start-below b.kind (forest b.children) i p (element_tree e) there;
      long = λ p. rw there;
      next = rw add-one (start-next b.kind (forest b.children) i (element_tree e) there);
      within = start-child-le b.kind (forest b.children) i (element_tree e) there;
    }

-- the length of a child is not capped where its node's is not
pub span_length : (b : Branch) (i : ℕ) (c : SyntaxTree) (n : ℕ) → IsSpanAt b i c → text_length (branch_tree b) < length_limit → n ≡ capped_length (text c) → n ≡ text_length c
span_length b i c n span fits is = omega (arith, is, fits, span.within)

-- ---- whether a text of this start and length touches an offset
abbrev is_touched : ℕ → ℕ → ℕ → Bool
is_touched s n offset = nat_lt 0 n && nat_le s offset && nat_le offset (s + n)

touched-inside : (a s n offset : ℕ) → a ≤ offset → is_touched (a + s) n offset ≡ is_touched s n (offset - a)
touched-inside a s n offset h = grind (arith, nat_tests)

touched-before : (a s n offset : ℕ) → offset < a → is_touched (a + s) n offset ≡ false
touched-before a s n offset h = grind (arith, nat_tests)

touched-after : (a s n whole offset : ℕ) → s + n ≤ whole → a + whole < offset → is_touched (a + s) n offset ≡ false
touched-after a s n whole offset within h = grind (arith, nat_tests)

touched-empty : (a s n whole offset : ℕ) → s + n ≤ whole → whole ≡ 0 → is_touched (a + s) n offset ≡ false
touched-empty a s n whole offset within h = grind (arith, nat_tests)

touched-whole : (n offset : ℕ) → 0 < n → offset ≤ n → is_touched 0 n offset ≡ true
touched-whole n offset h k = grind (arith, nat_tests)

-- ---- the tokens that touch it, up to the next slot
touches-child : (b : Branch) (i : ℕ) (c : SyntaxTree) (offset : ℕ) (p : Path) → IsSpanAt b i c → touches (branch_tree b) offset (i ∷ p) ≡ is_touched (start (branch_tree b) (i ∷ []) + start c p) (length_at c p) offset
touches-child b i c offset p span = rw (span.below p, span.long p)

pub touching_in : (b : Branch) (i : ℕ) (c : SyntaxTree) (offset : ℕ) → IsChildAt b i c → IsSpanAt b i c → start (branch_tree b) (i ∷ []) ≤ offset →
    filter (touches (branch_tree b) offset) (tokens_before (branch_tree b) ((i + 1) ∷ [])) ≡ filter (touches (branch_tree b) offset) (tokens_before (branch_tree b) (i ∷ [])) ++ map (λ p. i ∷ p) (tokens_touching c (offset - start (branch_tree b) (i ∷ [])))
touching_in b i c offset child span h =
    let own = filter-map (touches (branch_tree b) offset) (touches c (offset - start (branch_tree b) (i ∷ []))) (λ p. i ∷ p) (token_paths c) (λ p. touches-child b i c offset p span ∙ touched-inside (start (branch_tree b) (i ∷ [])) (start c p) (length_at c p) offset h) in
    ap (filter (touches (branch_tree b) offset)) child.next
    ∙ filter-append (touches (branch_tree b) offset) (tokens_before (branch_tree b) (i ∷ [])) (map (λ p. i ∷ p) (token_paths c))
    ∙ ap (λ ps. filter (touches (branch_tree b) offset) (tokens_before (branch_tree b) (i ∷ [])) ++ ps) own

touching_out : (b : Branch) (i : ℕ) (c : SyntaxTree) (offset : ℕ) → IsChildAt b i c → ((p : Path) → touches (branch_tree b) offset (i ∷ p) ≡ false) →
    filter (touches (branch_tree b) offset) (tokens_before (branch_tree b) ((i + 1) ∷ [])) ≡ filter (touches (branch_tree b) offset) (tokens_before (branch_tree b) (i ∷ []))
touching_out b i c offset child none =
    let own = filter-map (touches (branch_tree b) offset) (λ p. false) (λ p. i ∷ p) (token_paths c) none ∙ ap (λ ps. map (λ p. i ∷ p) ps) (filter-none (λ p. false) (token_paths c) (λ p. refl)) in
    ap (filter (touches (branch_tree b) offset)) child.next
    ∙ filter-append (touches (branch_tree b) offset) (tokens_before (branch_tree b) (i ∷ [])) (map (λ p. i ∷ p) (token_paths c))
    ∙ ap (λ ps. filter (touches (branch_tree b) offset) (tokens_before (branch_tree b) (i ∷ [])) ++ ps) own
    ∙ append-nil (filter (touches (branch_tree b) offset) (tokens_before (branch_tree b) (i ∷ [])))

pub touching_out-empty : (b : Branch) (i : ℕ) (c : SyntaxTree) (offset : ℕ) → IsChildAt b i c → IsSpanAt b i c → text_length c ≡ 0 →
    filter (touches (branch_tree b) offset) (tokens_before (branch_tree b) ((i + 1) ∷ [])) ≡ filter (touches (branch_tree b) offset) (tokens_before (branch_tree b) (i ∷ []))
touching_out-empty b i c offset child span h =
    touching_out b i c offset child (λ p. touches-child b i c offset p span ∙ touched-empty (start (branch_tree b) (i ∷ [])) (start c p) (length_at c p) (text_length c) offset (end-le c p) h)

pub touching_out-before : (b : Branch) (i : ℕ) (c : SyntaxTree) (offset : ℕ) → IsChildAt b i c → IsSpanAt b i c → offset < start (branch_tree b) (i ∷ []) →
    filter (touches (branch_tree b) offset) (tokens_before (branch_tree b) ((i + 1) ∷ [])) ≡ filter (touches (branch_tree b) offset) (tokens_before (branch_tree b) (i ∷ []))
touching_out-before b i c offset child span h =
    touching_out b i c offset child (λ p. touches-child b i c offset p span ∙ touched-before (start (branch_tree b) (i ∷ [])) (start c p) (length_at c p) offset h)

pub touching_out-after : (b : Branch) (i : ℕ) (c : SyntaxTree) (offset : ℕ) → IsChildAt b i c → IsSpanAt b i c → start (branch_tree b) (i ∷ []) + text_length c < offset →
    filter (touches (branch_tree b) offset) (tokens_before (branch_tree b) ((i + 1) ∷ [])) ≡ filter (touches (branch_tree b) offset) (tokens_before (branch_tree b) (i ∷ []))
touching_out-after b i c offset child span h =
    touching_out b i c offset child (λ p. touches-child b i c offset p span ∙ touched-after (start (branch_tree b) (i ∷ [])) (start c p) (length_at c p) (text_length c) offset (end-le c p) h)

-- a token itself
pub touching_token : (l : Leaf) (offset : ℕ) → 0 < length l.text → offset ≤ length l.text → tokens_touching (leaf_tree l) offset ≡ [] ∷ []
touching_token l offset h k =
    let test : touches (leaf_tree l) offset [] ≡ true = rw (start-top (leaf_tree l)) (touched-whole (length l.text) offset h k) in
    rw test

-- ---- some token touches each offset within a text
append-none : {X : Type 0} (xs ys : List X) → xs ++ ys ≡ [] → (xs ≡ []) × (ys ≡ [])
append-none [] ys h = (refl, h)
append-none (x ∷ xs) ys h = absurd (cc)

map-none : {X Y : Type 0} (f : X → Y) (xs : List X) → map f xs ≡ [] → xs ≡ []
map-none f [] h = refl
map-none f (x ∷ xs) h = absurd (cc)

cons_is_not_nil : {X : Type 0} {x : X} {xs : List X} → x ∷ xs ≡ [] → ⊥
cons_is_not_nil h = absurd (cc)

touches-in : (k : ℕ) (f : Forest ℕ) (i : ℕ) (c : SyntaxTree) (offset : ℕ) → slice_get (trees f) i ≡ Some c → start (Node k f) (i ∷ []) ≤ offset →
    filter (touches (Node k f) offset) (map (λ p. i ∷ p) (token_paths c)) ≡ map (λ p. i ∷ p) (tokens_touching c (offset - start (Node k f) (i ∷ [])))
touches-in k f i c offset there begins =
    let long : (p : Path) → length_at (Node k f) (i ∷ p) ≡ length_at c p = λ p. rw there refl in
    let inside : (p : Path) → touches (Node k f) offset (i ∷ p) ≡ touches c (offset - start (Node k f) (i ∷ [])) p = λ p. rw (start-below k f i p c there, long p) (touched-inside (start (Node k f) (i ∷ [])) (start c p) (length_at c p) offset begins) in
    filter-map (touches (Node k f) offset) (touches c (offset - start (Node k f) (i ∷ []))) (λ p. i ∷ p) (token_paths c) inside

mutual
  pub touched_somewhere : (t : SyntaxTree) (offset : ℕ) → 0 < text_length t → offset ≤ text_length t → tokens_touching t offset ≡ [] → ⊥
  touched_somewhere (Token k s) offset long within none = cons_is_not_nil (sym (touching_token (record { kind = k; text = s }) offset long within) ∙ none)
  touched_somewhere (Node k f) offset long within none =
      let first : start (Node k f) (0 ∷ []) ≡ 0 = ap (sum_by (λ q. option_map_or (λ c. length (text c)) (at (Node k f) q) 0)) (tokens_before-first k f) in
      touched_from k f 0 f offset refl (omega (arith, first)) long (omega (arith, first)) (ap (filter (touches (Node k f) offset)) (sym (token_paths-node k f)) ∙ none)

  touched_from : (k : ℕ) (f : Forest ℕ) (i : ℕ) (g : Forest ℕ) (offset : ℕ) → drop i (trees f) ≡ trees g → start (Node k f) (i ∷ []) ≤ offset → 0 < length (forest_text g) → offset ≤ start (Node k f) (i ∷ []) + length (forest_text g) →
      filter (touches (Node k f) offset) (token_paths_from i g) ≡ [] → ⊥
  touched_from k f i end offset slot begins long within none = absurd (omega arith)
  touched_from k f i (more c g) offset slot begins long within none =
      let there : slice_get (trees f) i ≡ Some c = slice_get-drop (trees f) (trees g) i c slot in
      let rest : drop (suc i) (trees f) ≡ trees g = drop-rest (trees f) (trees g) i c slot in
      let next = start-next k f i c there in
      let sum = length-append (text c) (forest_text g) in
      let parts = append-none (filter (touches (Node k f) offset) (map (λ p. i ∷ p) (token_paths c))) (filter (touches (Node k f) offset) (token_paths_from (suc i) g)) (sym (filter-append (touches (Node k f) offset) (map (λ p. i ∷ p) (token_paths c)) (token_paths_from (suc i) g)) ∙ none) in
      let own = map-none (λ p. i ∷ p) (tokens_touching c (offset - start (Node k f) (i ∷ []))) (sym (touches-in k f i c offset there begins) ∙ parts.0) in
      elim (cases_lt 0 (text_length c)) [
        | inl some ↦ elim (cases_lt (start (Node k f) (i ∷ []) + text_length c) offset) [
          | inl past ↦ touched_from k f (suc i) g offset rest (omega (arith, next)) (omega (arith, sum)) (omega (arith, next, sum)) parts.1
          | inr here ↦ touched_somewhere c (offset - start (Node k f) (i ∷ [])) some (omega arith) own
        ]
        | inr empty ↦ touched_from k f (suc i) g offset rest (omega (arith, next)) (omega (arith, sum)) (omega (arith, next, sum)) parts.1
      ]

-- ---- what is reached below a child
pub reached-child : (b : Branch) (i : ℕ) (c : SyntaxTree) (top : Path) (ps : List Path) → IsChildAt b i c → reached_below top (branch_tree b) (map (λ p. i ∷ p) ps) ≡ reached_below (top ++ i ∷ []) c ps
reached-child b i c top [] child = refl
reached-child b i c top (p ∷ ps) child = rw (child.below p, append_assoc top (i ∷ []) p, reached-child b i c top ps child)

-- ---- below an element of a larger tree
pub touches-below : (t : SyntaxTree) (p : Path) (c : SyntaxTree) (offset : ℕ) (q : Path) → at t p ≡ Some c → start t p ≤ offset → touches t offset (p ++ q) ≡ touches c (offset - start t p) q
touches-below t p c offset q there h =
    let long : length_at t (p ++ q) ≡ length_at c q = rw (at-append t p q, there) refl in
    rw (start-append t p q c there, long) (touched-inside (start t p) (start c q) (length_at c q) offset h)

pub touches-outside : (t : SyntaxTree) (p : Path) (c : SyntaxTree) (offset : ℕ) (q : Path) → at t p ≡ Some c → offset < start t p → touches t offset (p ++ q) ≡ false
touches-outside t p c offset q there h = rw (start-append t p q c there) (touched-before (start t p) (start c q) (length_at t (p ++ q)) offset h)
