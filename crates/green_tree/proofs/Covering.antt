-- The last element whose text contains a range, by the child that it is in.
use Rattle.std.proofs.Common.{◌≡◌, ℕ, ◌+◌, ◌-◌, ◌<◌, ◌≤◌, zero, suc, Bool, true, false, List, [], ◌∷◌, ◌++◌, map, length, get_or, take, drop, Some, None, refl, ap, sym, ◌∙◌, arith, append_assoc}
use Rattle.std.specs.Prelude.{◌&&◌, nat_le, filter, option_map, slice_get}
use Rattle.std.proofs.lemmas.List.{append-nil, length-map}
use Rattle.std.proofs.lemmas.List.Elements.{filter-append}
use Rattle.std.proofs.lemmas.Bool.Decides.{nat_tests}
use Rattle.std.proofs.Math.ListN.{drop_of_length-le}
use Rattle.std.proofs.Math.Seq.{take-length}
use Rattle.green_tree.specs.Path.{Path, last_item}
use Rattle.green_tree.specs.Tree.{Tree, SyntaxTree, Token, Node, at, paths, paths_from, forest, text_length}
use Rattle.green_tree.specs.Order.{start}
use Rattle.green_tree.specs.Offsets.{length_at, covers}
use Rattle.green_tree.specs.inner.TokensByOffset.{covering}
use Rattle.green_tree.specs.inner.CoveredChild.{IsCoveredIn}
use Rattle.green_tree.specs.declared.offsets.Child.{Child}
use Rattle.green_tree.specs.Green.{Branch, branch_tree, texts, length_limit, capped_length}
use Rattle.green_tree.specs.GreenElement.{element_trees, element_tree}
use Rattle.green_tree.specs.declared.green.GreenElement.{GreenElement}
use Rattle.green_tree.proofs.Lookup.{trees-forest, at-append}
use Rattle.green_tree.proofs.TextLengths.{start-append}
use Rattle.green_tree.proofs.Parts.{filter-map}
use Rattle.green_tree.proofs.Slots.{slice_get-child}
use Rattle.green_tree.proofs.Starts.{start-top, start-slot}
use Rattle.green_tree.proofs.TokenPaths.{filter-none}
use Rattle.green_tree.proofs.FoundTokens.{IsChildAt, last_item-append, last_item-map, last_of, last_of-is, some_is_not_none}
use Rattle.green_tree.proofs.Touching.{end-le, IsSpanAt}

-- ---- the paths of a node's elements, slot by slot
abbrev paths_before : {L : Type 0} → ℕ → List (Tree L) → ℕ → List Path
paths_before i ts zero = []
paths_before i [] (suc k) = []
paths_before i (t ∷ ts) (suc k) = map (λ p. i ∷ p) (paths t) ++ paths_before (suc i) ts k

paths-split : {L : Type 0} (i k j : ℕ) (ts : List (Tree L)) → j ≡ i + k → paths_from i (forest ts) ≡ paths_before i ts k ++ paths_from j (forest (drop k ts))
paths-split i zero j ts h =
    let same : j ≡ i = omega arith in
    rw same refl
paths-split i (suc k) j [] h = refl
paths-split i (suc k) j (t ∷ ts) h = rw (paths-split (suc i) k j ts (omega arith)) (sym (append_assoc (map (λ p. i ∷ p) (paths t)) (paths_before (suc i) ts k) (paths_from j (forest (drop k ts)))))

pub drop_at : {X : Type 0} (xs : List X) (i : ℕ) (x : X) → slice_get xs i ≡ Some x → drop i xs ≡ x ∷ drop (suc i) xs
drop_at [] i x h = absurd (cc)
drop_at (y ∷ xs) zero x h = cc
drop_at (y ∷ xs) (suc i) x h = drop_at xs i x h

-- the child in a slot, and the paths of the elements at or below it
pub paths_on : (b : Branch) (es : List GreenElement) (i j : ℕ) (e : GreenElement) → j ≡ i + 1 → element_trees es ≡ b.children → i < length es → e ≡ get_or es i e → paths_from i (forest (drop i b.children)) ≡ map (λ p. i ∷ p) (paths (element_tree e)) ++ paths_from j (forest (drop j b.children))
paths_on b es i j e up same h is =
    let next : j ≡ suc i = omega arith in
    let there : slice_get b.children i ≡ Some (element_tree e) = rw trees-forest at (slice_get-child b es i e same h is) in
    rw (next, drop_at b.children i (element_tree e) there) refl

-- ---- whether a text of this start and length contains a range
abbrev is_covered : ℕ → ℕ → ℕ → ℕ → Bool
is_covered s n from to = nat_le s from && nat_le from to && nat_le to (s + n)

covered-inside : (a s n from to : ℕ) → a ≤ from → a ≤ to → is_covered (a + s) n from to ≡ is_covered s n (from - a) (to - a)
covered-inside a s n from to h k = grind (arith, nat_tests)

covered-before : (a s n from to : ℕ) → from < a → is_covered (a + s) n from to ≡ false
covered-before a s n from to h = grind (arith, nat_tests)

covered-after : (a s n whole from to : ℕ) → s + n ≤ whole → a + whole < to → is_covered (a + s) n from to ≡ false
covered-after a s n whole from to within h = grind (arith, nat_tests)

covered-whole : (n from to : ℕ) → from ≤ to → to ≤ n → is_covered 0 n from to ≡ true
covered-whole n from to h k = grind (arith, nat_tests)

covered-back : (s n whole from to : ℕ) → s + n ≤ whole → to < from → is_covered s n from to ≡ false
covered-back s n whole from to within h = grind (arith, nat_tests)

covered-past : (s n whole from to : ℕ) → s + n ≤ whole → whole < to → is_covered s n from to ≡ false
covered-past s n whole from to within h = grind (arith, nat_tests)

covers-child : (b : Branch) (i : ℕ) (c : SyntaxTree) (from to : ℕ) (p : Path) → IsSpanAt b i c → covers (branch_tree b) from to (i ∷ p) ≡ is_covered (start (branch_tree b) (i ∷ []) + start c p) (length_at c p) from to
covers-child b i c from to p span = rw (span.below p, span.long p)

-- the top of a tree contains what is within its text
pub covers-top : (t : SyntaxTree) (from to : ℕ) → from ≤ to → to ≤ text_length t → covers t from to [] ≡ true
covers-top t from to h k = rw (start-top t) (covered-whole (text_length t) from to h k)

-- ---- a child that does not contain the range
passed : (b : Branch) (i : ℕ) (c : SyntaxTree) (from to : ℕ) (rest : List Path) → paths_from i (forest (drop i b.children)) ≡ map (λ p. i ∷ p) (paths c) ++ rest → ((p : Path) → covers (branch_tree b) from to (i ∷ p) ≡ false) → filter (covers (branch_tree b) from to) rest ≡ [] →
    filter (covers (branch_tree b) from to) (paths_from i (forest (drop i b.children))) ≡ []
passed b i c from to rest on none later =
    let own = filter-map (covers (branch_tree b) from to) (λ p. false) (λ p. i ∷ p) (paths c) none ∙ ap (λ ps. map (λ p. i ∷ p) ps) (filter-none (λ p. false) (paths c) (λ p. refl)) in
    ap (filter (covers (branch_tree b) from to)) on
    ∙ filter-append (covers (branch_tree b) from to) (map (λ p. i ∷ p) (paths c)) rest
    ∙ ap (λ ps. ps ++ filter (covers (branch_tree b) from to) rest) own
    ∙ later

pub passed-before : (b : Branch) (i : ℕ) (c : SyntaxTree) (from to : ℕ) (rest : List Path) → IsSpanAt b i c → from < start (branch_tree b) (i ∷ []) → paths_from i (forest (drop i b.children)) ≡ map (λ p. i ∷ p) (paths c) ++ rest → filter (covers (branch_tree b) from to) rest ≡ [] →
    filter (covers (branch_tree b) from to) (paths_from i (forest (drop i b.children))) ≡ []
passed-before b i c from to rest span h on later =
    passed b i c from to rest on (λ p. covers-child b i c from to p span ∙ covered-before (start (branch_tree b) (i ∷ [])) (start c p) (length_at c p) from to h) later

pub passed-after : (b : Branch) (i : ℕ) (c : SyntaxTree) (from to : ℕ) (rest : List Path) → IsSpanAt b i c → start (branch_tree b) (i ∷ []) + text_length c < to → paths_from i (forest (drop i b.children)) ≡ map (λ p. i ∷ p) (paths c) ++ rest → filter (covers (branch_tree b) from to) rest ≡ [] →
    filter (covers (branch_tree b) from to) (paths_from i (forest (drop i b.children))) ≡ []
passed-after b i c from to rest span h on later =
    passed b i c from to rest on (λ p. covers-child b i c from to p span ∙ covered-after (start (branch_tree b) (i ∷ [])) (start c p) (length_at c p) (text_length c) from to (end-le c p) h) later

-- ---- the last child that contains it
cover_in : (b : Branch) (i : ℕ) (c : SyntaxTree) (from to : ℕ) (rest : List Path) (r : Path) → IsSpanAt b i c → start (branch_tree b) (i ∷ []) ≤ from → from ≤ to → paths_from i (forest (drop i b.children)) ≡ map (λ p. i ∷ p) (paths c) ++ rest → filter (covers (branch_tree b) from to) rest ≡ [] →
    covering c (from - start (branch_tree b) (i ∷ [])) (to - start (branch_tree b) (i ∷ [])) ≡ Some r → covering (branch_tree b) from to ≡ Some (i ∷ r)
cover_in b i c from to rest r span h k on later found =
    let a = start (branch_tree b) (i ∷ []) in
    let test = covers (branch_tree b) from to in
    let front = [] ∷ paths_before 0 b.children i in
    let below = filter (covers c (from - a) (to - a)) (paths c) in
    let own : filter test (map (λ p. i ∷ p) (paths c)) ≡ map (λ p. i ∷ p) below = filter-map test (covers c (from - a) (to - a)) (λ p. i ∷ p) (paths c) (λ p. covers-child b i c from to p span ∙ covered-inside a (start c p) (length_at c p) from to h (omega arith)) in
    let all : paths (branch_tree b) ≡ front ++ (map (λ p. i ∷ p) (paths c) ++ rest) = ap (λ ps. [] ∷ ps) (paths-split 0 i i b.children (omega arith)) ∙ ap (λ ps. front ++ ps) on in
    let tail : filter test (map (λ p. i ∷ p) (paths c) ++ rest) ≡ map (λ p. i ∷ p) below = filter-append test (map (λ p. i ∷ p) (paths c)) rest ∙ ap (λ ps. filter test (map (λ p. i ∷ p) (paths c)) ++ ps) later ∙ append-nil (filter test (map (λ p. i ∷ p) (paths c))) ∙ own in
    ap (λ ps. last_item (filter test ps)) all
    ∙ ap last_item (filter-append test front (map (λ p. i ∷ p) (paths c) ++ rest) ∙ ap (λ ps. filter test front ++ ps) tail)
    ∙ last_item-append (filter test front) (map (λ p. i ∷ p) below) (i ∷ r) (last_item-map (λ p. i ∷ p) below r found)

-- what is within a text has an element whose text covers it: the top does
covering_some : (t : SyntaxTree) (from to : ℕ) → from ≤ to → to ≤ text_length t → (r : Path) × (covering t from to ≡ Some r)
covering_some (Token l s) from to h k = ([], rw (covers-top (Token l s) from to h k) refl)
covering_some (Node l f) from to h k =
    let below = filter (covers (Node l f) from to) (paths_from 0 f) in
    (last_of [] below, rw (covers-top (Node l f) from to h k) (last_of-is [] below))

pub covered_child : (b : Branch) (from to : ℕ) (rest : List Path) (child : Child) → IsChildAt b child.slot (element_tree child.element.now) → IsSpanAt b child.slot (element_tree child.element.now) → child.begin ≡ start (branch_tree b) (child.slot ∷ []) → from ≤ to → child.begin ≤ from → to ≤ child.begin + text_length (element_tree child.element.now)
    → paths_from child.slot (forest (drop child.slot b.children)) ≡ map (λ p. child.slot ∷ p) (paths (element_tree child.element.now)) ++ rest → filter (covers (branch_tree b) from to) rest ≡ [] → IsCoveredIn (branch_tree b) from to child
covered_child b from to rest child there span begin ordered begins ends on later =
    let c = element_tree child.element.now in
    let a = start (branch_tree b) (child.slot ∷ []) in
    let low : a ≤ from = rw begin at begins in
    let r = covering_some c (from - a) (to - a) (omega arith) (omega (arith, begin)) in
    record {
      there = there.there;
      begins = begins;
      ends = ends;
      within = omega (arith, begin, span.within);
      way =
          cover_in b child.slot c from to rest r.0 span low ordered on later r.1
          ∙ ap (option_map (λ p. child.slot ∷ p)) (sym r.1)
          ∙ ap (λ n. option_map (λ p. child.slot ∷ p) (covering c (from - n) (to - n))) (sym begin);
    }

-- ---- a walk down to that element
-- so many slots lead from a tree to the one where the walk stands, whose text contains the range
pub record IsNarrowed (t : SyntaxTree) (from to : ℕ) (old new : Path) (now : SyntaxTree) (low high : ℕ) : Type 0 where
  pub pushed : Path
  pub slots : new ≡ old ++ pushed
  pub way : covering t from to ≡ option_map (λ p. pushed ++ p) (covering now low high)
  pub fits : text_length now < length_limit
  pub ordered : low ≤ high
  pub within : high ≤ text_length now

-- ---- no child contains it
pub covering_top : (b : Branch) (from to : ℕ) → from ≤ to → to ≤ text_length (branch_tree b) → filter (covers (branch_tree b) from to) (paths_from 0 (forest b.children)) ≡ [] → covering (branch_tree b) from to ≡ Some []
covering_top b from to h k none = rw (covers-top (branch_tree b) from to h k, none) refl

-- and after the last child there is none
pub none_after : (b : Branch) (es : List GreenElement) (n : ℕ) (from to : ℕ) → element_trees es ≡ b.children → length es ≤ n → filter (covers (branch_tree b) from to) (paths_from n (forest (drop n b.children))) ≡ []
none_after b es n from to same h =
    let past : drop n b.children ≡ [] = rw (← same) (drop_of_length-le (element_trees es) (rw length-map h)) in
    ap (λ ts. filter (covers (branch_tree b) from to) (paths_from n (forest ts))) past

-- the slot after the last child is where the text ends
pub start_after : (b : Branch) (es : List GreenElement) (n m : ℕ) → element_trees es ≡ b.children → n ≡ length es → text_length (branch_tree b) < length_limit → m ≡ capped_length (texts b.children) → m ≡ start (branch_tree b) (n ∷ [])
start_after b es n m same h fits is =
    let whole : take n es ≡ es = rw h (take-length es) in
    let all : start (branch_tree b) (n ∷ []) ≡ length (texts b.children) = start-slot b es n same ∙ ap (λ xs. length (texts (element_trees xs))) whole ∙ ap (λ ts. length (texts ts)) same in
    omega (arith, is, all, fits)

pub covering_there : (b : Branch) (from to : ℕ) → from ≤ to → to ≤ text_length (branch_tree b) → covering (branch_tree b) from to ≡ None → ⊥
covering_there b from to h k none = some_is_not_none (sym (covering_some (branch_tree b) from to h k).1 ∙ none)

-- ---- outside of the tree's text
pub covering_none-back : (t : SyntaxTree) (from to : ℕ) → to < from → covering t from to ≡ None
covering_none-back t from to h = ap last_item (filter-none (covers t from to) (paths t) (λ p. covered-back (start t p) (length_at t p) (text_length t) from to (end-le t p) h))

pub covering_none-past : (t : SyntaxTree) (from to : ℕ) → text_length t < to → covering t from to ≡ None
covering_none-past t from to h = ap last_item (filter-none (covers t from to) (paths t) (λ p. covered-past (start t p) (length_at t p) (text_length t) from to (end-le t p) h))

-- ---- below an element of a larger tree
pub covers-below : (t : SyntaxTree) (p : Path) (c : SyntaxTree) (from to : ℕ) (q : Path) → at t p ≡ Some c → start t p ≤ from → from ≤ to → covers t from to (p ++ q) ≡ covers c (from - start t p) (to - start t p) q
covers-below t p c from to q there h k =
    let long : length_at t (p ++ q) ≡ length_at c q = rw (at-append t p q, there) refl in
    rw (start-append t p q c there, long) (covered-inside (start t p) (start c q) (length_at c q) from to h (omega arith))

pub covers-outside : (t : SyntaxTree) (p : Path) (c : SyntaxTree) (from to : ℕ) (q : Path) → at t p ≡ Some c → from < start t p → covers t from to (p ++ q) ≡ false
covers-outside t p c from to q there h = rw (start-append t p q c there) (covered-before (start t p) (start c q) (length_at t (p ++ q)) from to h)

pub covers-back : (t : SyntaxTree) (from to : ℕ) (p : Path) → to < from → covers t from to p ≡ false
covers-back t from to p h = covered-back (start t p) (length_at t p) (text_length t) from to (end-le t p) h
