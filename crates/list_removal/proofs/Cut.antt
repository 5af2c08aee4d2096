-- The text of a tree without a run of children of the element at a path.
--     is_at, is_in_run             two slots are one; a slot is one of so many from a first one on
--     is_cut                       a path is that of a child in such a run, below the element at a path
--     cut-is                       these are the paths of the run
--     IsCut, cut                   the text falls into three parts, the middle one of which is left out
use Rattle.std.specs.Prelude.{◌≡◌, ℕ, zero, suc, ◌+◌, ◌&&◌, ◌||◌, nat_eq, Bool, true, false, cond, List, [], ◌∷◌, ◌++◌, length, map, take, drop, slice_get, Option, Some, None, option_and_then, refl}
use Rattle.std.specs.List.{list_any}
use Rattle.std.specs.Option.{option_map_or}
use Rattle.std.proofs.Common.{ap, ap₂, sym, ◌∙◌, arith, append_assoc, length-append}
use Rattle.std.proofs.lemmas.Bool.Decides.{nat_tests}
use Rattle.std.proofs.lemmas.Option.{none-some, same_Some}
use Rattle.cst_core.specs.Path.{Path, same_path, has_path, counted_from}
use Rattle.cst_core.specs.Tree.{Forest, Token, Node, end, more, SyntaxTree, at, trees, text, forest_text, text_length}
use Rattle.cst_core.specs.Order.{start}
use Rattle.cst_core.specs.Green.{texts}
use Rattle.list_removal.specs.RemovalText.{end_of}
use Rattle.list_removal.proofs.Starts.{start-top, start-node}
use Rattle.list_removal.proofs.Kept.{kept, kept_from, kept-all, kept_from-all, slot_stays}

-- ---- slots
abbrev pub is_at : ℕ → ℕ → Bool
is_at zero zero = true
is_at zero (suc d) = false
is_at (suc m) zero = false
is_at (suc m) (suc d) = is_at m d

abbrev pub is_in_run : ℕ → ℕ → ℕ → Bool
is_in_run (suc i) n zero = false
is_in_run (suc i) n (suc d) = is_in_run i n d
is_in_run zero zero d = false
is_in_run zero (suc n) zero = true
is_in_run zero (suc n) (suc d) = is_in_run zero n d

abbrev pub is_cut : Path → ℕ → ℕ → Path → Bool
is_cut [] i n [] = false
is_cut [] i n (d ∷ []) = is_in_run i n d
is_cut [] i n (d ∷ e ∷ p) = false
is_cut (m ∷ q) i n [] = false
is_cut (m ∷ q) i n (d ∷ p) = is_at m d && is_cut q i n p

pub top_stays : (q : Path) (i n : ℕ) → is_cut q i n [] ≡ false
top_stays [] i n = refl
top_stays (m ∷ q) i n = refl

-- ---- as tests of numbers
next-eq : (d k : ℕ) → nat_eq (suc d) (suc k) ≡ nat_eq d k
next-eq d k = grind (arith, nat_tests)

eq-at : (m d : ℕ) → nat_eq d m ≡ is_at m d
eq-at zero zero = refl
eq-at zero (suc d) = grind (arith, nat_tests)
eq-at (suc m) zero = grind (arith, nat_tests)
eq-at (suc m) (suc d) = next-eq d m ∙ eq-at m d

none_first : (i n : ℕ) → list_any (nat_eq 0) (counted_from (suc i) n) ≡ false
none_first i zero = refl
none_first i (suc n) = ap₂ (λ a b. a || b) (eq-at (suc i) 0) (none_first (suc i) n)

shifted : (d i n : ℕ) → list_any (nat_eq (suc d)) (counted_from (suc i) n) ≡ list_any (nat_eq d) (counted_from i n)
shifted d i zero = refl
shifted d i (suc n) = ap₂ (λ a b. a || b) (next-eq d i) (shifted d (suc i) n)

in-run : (i n d : ℕ) → list_any (nat_eq d) (counted_from i n) ≡ is_in_run i n d
in-run (suc i) n zero = none_first i n
in-run (suc i) n (suc d) = shifted d i n ∙ in-run i n d
in-run zero zero d = refl
in-run zero (suc n) zero = ap (λ b. b || list_any (nat_eq 0) (counted_from 1 n)) (eq-at 0 0)
in-run zero (suc n) (suc d) = ap₂ (λ a b. a || b) (eq-at 0 (suc d)) (shifted d 0 n ∙ in-run zero n d)

-- ---- as paths
and_true : (b : Bool) → (b && true) ≡ b
and_true true = refl
and_true false = refl

and_false : (b : Bool) → (b && false) ≡ false
and_false true = refl
and_false false = refl

-- the paths of these slots below an element
abbrev below_at : Path → List ℕ → List Path
below_at q is = map (λ k. q ++ k ∷ []) is

none_empty : (q : Path) (is : List ℕ) → has_path (below_at q is) [] ≡ false
none_empty q [] = refl
none_empty [] (k ∷ is) = none_empty [] is
none_empty (m ∷ q) (k ∷ is) = none_empty (m ∷ q) is

none_deep : (is : List ℕ) (d e : ℕ) (p : Path) → has_path (below_at [] is) (d ∷ e ∷ p) ≡ false
none_deep [] d e p = refl
none_deep (k ∷ is) d e p = ap₂ (λ a b. a || b) (and_false (nat_eq d k)) (none_deep is d e p)

one_slot : (is : List ℕ) (d : ℕ) → has_path (below_at [] is) (d ∷ []) ≡ list_any (nat_eq d) is
one_slot [] d = refl
one_slot (k ∷ is) d = ap₂ (λ a b. a || b) (and_true (nat_eq d k)) (one_slot is d)

or_both : (a b c : Bool) → ((a && b) || (a && c)) ≡ (a && (b || c))
or_both true b c = refl
or_both false b c = refl

one_down : (m : ℕ) (q : Path) (is : List ℕ) (d : ℕ) (p : Path) → has_path (below_at (m ∷ q) is) (d ∷ p) ≡ (nat_eq d m && has_path (below_at q is) p)
one_down m q [] d p = sym (and_false (nat_eq d m))
one_down m q (k ∷ is) d p =
    ap (λ b. (nat_eq d m && same_path p (q ++ k ∷ [])) || b) (one_down m q is d p) ∙ or_both (nat_eq d m) (same_path p (q ++ k ∷ [])) (has_path (below_at q is) p)

pub cut-is : (q : Path) (i n : ℕ) (p : Path) → has_path (map (λ k. q ++ k ∷ []) (counted_from i n)) p ≡ is_cut q i n p
cut-is [] i n [] = none_empty [] (counted_from i n)
cut-is [] i n (d ∷ []) = one_slot (counted_from i n) d ∙ in-run i n d
cut-is [] i n (d ∷ e ∷ p) = none_deep (counted_from i n) d e p
cut-is (m ∷ q) i n [] = none_empty (m ∷ q) (counted_from i n)
cut-is (m ∷ q) i n (d ∷ p) = one_down m q (counted_from i n) d p ∙ ap₂ (λ a b. a && b) (eq-at m d) (cut-is q i n p)

-- ---- the texts of children
drop_nothing : (n : ℕ) → drop {A = SyntaxTree} n [] ≡ []
drop_nothing zero = refl
drop_nothing (suc n) = refl

take_nothing : (n : ℕ) → take {A = SyntaxTree} n [] ≡ []
take_nothing zero = refl
take_nothing (suc n) = refl

texts-split : (i : ℕ) (ts : List SyntaxTree) → texts ts ≡ texts (take i ts) ++ texts (drop i ts)
texts-split zero ts = refl
texts-split (suc i) [] = refl
texts-split (suc i) (t ∷ ts) = ap (λ s. text t ++ s) (texts-split i ts) ∙ sym (append_assoc (text t) (texts (take i ts)) (texts (drop i ts)))

texts-trees : (f : Forest ℕ) → forest_text f ≡ texts (trees f)
texts-trees end = refl
texts-trees (more t f) = ap (λ s. text t ++ s) (texts-trees f)

texts-at : (m : ℕ) (ts : List SyntaxTree) (u : SyntaxTree) → slice_get ts m ≡ Some u → texts ts ≡ texts (take m ts) ++ (text u ++ texts (drop (suc m) ts))
texts-at m [] u there = absurd (cc)
texts-at zero (t ∷ ts) u there = ap (λ x. text x ++ texts ts) (same_Some t u there)
texts-at (suc m) (t ∷ ts) u there =
    ap (λ s. text t ++ s) (texts-at m ts u there) ∙ sym (append_assoc (text t) (texts (take m ts)) (text u ++ texts (drop (suc m) ts)))

-- up to the end of the last of a run
run_end : (i n j : ℕ) (ts : List SyntaxTree) (u : SyntaxTree) → j ≡ i + n → slice_get ts j ≡ Some u → length (texts (take j ts)) + length (text u) ≡ length (texts (take i ts)) + length (texts (take (suc n) (drop i ts)))
run_end i n j [] u is there = absurd (cc)
run_end zero zero zero (t ∷ ts) u is there =
    let same : t ≡ u = same_Some t u there in
    rw same (omega (arith, length-append (text u) (texts (take 0 ts))))
run_end zero (suc n) zero (t ∷ ts) u is there = absurd (omega arith)
run_end zero zero (suc j) (t ∷ ts) u is there = absurd (omega arith)
run_end zero (suc n) (suc j) (t ∷ ts) u is there =
    omega (arith, run_end zero n j ts u (omega arith) there, length-append (text t) (texts (take j ts)), length-append (text t) (texts (take (suc n) ts)))
run_end (suc i) n zero (t ∷ ts) u is there = absurd (omega arith)
run_end (suc i) n (suc j) (t ∷ ts) u is there =
    omega (arith, run_end i n j ts u (omega arith) there, length-append (text t) (texts (take j ts)), length-append (text t) (texts (take i ts)))

-- ---- what is kept of children
kept_run : (i n : ℕ) (c : ℕ → Path → Bool) (f : Forest ℕ) → ((d : ℕ) → c d [] ≡ is_in_run i n d) → ((d e : ℕ) (p : Path) → c d (e ∷ p) ≡ false) → kept_from c f ≡ texts (take i (trees f)) ++ texts (drop n (drop i (trees f)))
kept_run zero n c end slots below = ap texts (sym (drop_nothing n))
kept_run (suc i) n c end slots below = ap texts (sym (drop_nothing n))
kept_run zero zero c (more t f) slots below =
    let none : (d : ℕ) (p : Path) → c d p ≡ false = λ d p. elim p as (λ q. c d q ≡ false) [ [] ↦ slots d | e ∷ q ↦ below d e q ] in
    kept_from-all c (more t f) none ∙ texts-trees (more t f)
kept_run zero (suc n) c (more t f) slots below =
    ap (λ b. cond b [] (kept (c 0) t) ++ kept_from (λ d. c (suc d)) f) (slots 0) ∙ kept_run zero n (λ d. c (suc d)) f (λ d. slots (suc d)) (λ d. below (suc d))
kept_run (suc i) n c (more t f) slots below =
    let none : (p : Path) → c 0 p ≡ false = λ p. elim p as (λ q. c 0 q ≡ false) [ [] ↦ slots 0 | e ∷ q ↦ below 0 e q ] in
    ap₂ (λ x y. x ++ y) (slot_stays (c 0 []) (kept (c 0) t) (text t) (slots 0) (kept-all (c 0) t none)) (kept_run i n (λ d. c (suc d)) f (λ d. slots (suc d)) (λ d. below (suc d)))
    ∙ sym (append_assoc (text t) (texts (take i (trees f))) (texts (drop n (drop i (trees f)))))

kept_below : (m : ℕ) (g : Path → Bool) (c : ℕ → Path → Bool) (f : Forest ℕ) (u : SyntaxTree) → slice_get (trees f) m ≡ Some u → g [] ≡ false → ((d : ℕ) (p : Path) → c d p ≡ (is_at m d && g p)) → kept_from c f ≡ texts (take m (trees f)) ++ (kept g u ++ texts (drop (suc m) (trees f)))
kept_below m g c end u there top tells = absurd (cc)
kept_below zero g c (more t f) u there top tells =
    let same : kept (c 0) t ≡ kept g u = ap (λ h. kept h t) (λ j p. tells 0 p j) ∙ ap (kept g) (same_Some t u there) in
    ap₂ (λ x y. x ++ y) (slot_stays (c 0 []) (kept (c 0) t) (kept g u) (tells 0 [] ∙ top) same) (kept_from-all (λ d. c (suc d)) f (λ d p. tells (suc d) p) ∙ texts-trees f)
kept_below (suc m) g c (more t f) u there top tells =
    ap₂ (λ x y. x ++ y) (slot_stays (c 0 []) (kept (c 0) t) (text t) (tells 0 []) (kept-all (c 0) t (tells 0))) (kept_below m g (λ d. c (suc d)) f u there top (λ d. tells (suc d)))
    ∙ sym (append_assoc (text t) (texts (take m (trees f))) (kept g u ++ texts (drop (suc m) (trees f))))

-- ---- the three parts
pub record IsCut (t : SyntaxTree) (q : Path) (i n j : ℕ) : Type 0 where
  pub before : List ℕ
  pub inside : List ℕ
  pub after : List ℕ
  pub whole : text t ≡ before ++ (inside ++ after)
  pub left : kept (is_cut q i (suc n)) t ≡ before ++ after
  pub starts : start t (q ++ i ∷ []) ≡ length before
  pub ends : end_of t (q ++ j ∷ []) ≡ length before + length inside

start_in : (k : ℕ) (f : Forest ℕ) (i : ℕ) → start (Node k f) (i ∷ []) ≡ length (texts (take i (trees f)))
start_in k f i =
    let none : option_map_or (λ c. start c []) (slice_get (trees f) i) 0 ≡ 0 = elim (slice_get (trees f) i) as (λ o. option_map_or (λ c. start c []) o 0 ≡ 0) [ None ↦ refl | Some c ↦ start-top c ] in
    omega (arith, start-node k f i [])

cut_here : (k : ℕ) (f : Forest ℕ) (i n j : ℕ) (u : SyntaxTree) → j ≡ i + n → slice_get (trees f) j ≡ Some u → IsCut (Node k f) [] i n j
cut_here k f i n j u is there =
    let ts = trees f in
    let all : text (Node k f) ≡ texts ts = texts-trees f in
    let at_end : option_map_or text_length (at (Node k f) (j ∷ [])) 0 ≡ length (text u) = ap (λ o. option_map_or text_length (option_and_then (λ c. at c []) o) 0) there in
    record {
      before = texts (take i ts);
      inside = texts (take (suc n) (drop i ts));
      after = texts (drop (suc n) (drop i ts));
      whole = all ∙ texts-split i ts ∙ ap (λ s. texts (take i ts) ++ s) (texts-split (suc n) (drop i ts));
      left = kept_run i (suc n) (λ d p. is_cut [] i (suc n) (d ∷ p)) f (λ d. refl) (λ d e p. refl);
      starts = start_in k f i;
      ends = omega (arith, start_in k f j, run_end i n j ts u is there, at_end);
    }

cut_down : (k : ℕ) (f : Forest ℕ) (m : ℕ) (q : Path) (i n j : ℕ) (w : SyntaxTree) → slice_get (trees f) m ≡ Some w → IsCut w q i n j → IsCut (Node k f) (m ∷ q) i n j
cut_down k f m q i n j w there c =
    let ts = trees f in
    let all : text (Node k f) ≡ texts ts = texts-trees f in
    let front = texts (take m ts) in
    let back = texts (drop (suc m) ts) in
    let starts : (p : Path) → start (Node k f) (m ∷ p) ≡ length front + start w p = λ p. start-node k f m p ∙ ap (λ o. length front + option_map_or (λ x. start x p) o 0) there in
    let lengths : option_map_or text_length (at (Node k f) (m ∷ (q ++ j ∷ []))) 0 ≡ option_map_or text_length (at w (q ++ j ∷ [])) 0 = ap (λ o. option_map_or text_length (option_and_then (λ x. at x (q ++ j ∷ [])) o) 0) there in
    record {
      before = front ++ c.before;
      inside = c.inside;
      after = c.after ++ back;
      whole = all ∙ texts-at m ts w there ∙ ap (λ s. front ++ (s ++ back)) c.whole ∙ simp append_assoc;
      left = kept_below m (is_cut q i (suc n)) (λ d p. is_cut (m ∷ q) i (suc n) (d ∷ p)) f w there (top_stays q i (suc n)) (λ d p. refl) ∙ ap (λ s. front ++ (s ++ back)) c.left ∙ simp append_assoc;
      starts = omega (arith, starts (q ++ i ∷ []), c.starts, length-append front c.before);
      ends = omega (arith, starts (q ++ j ∷ []), c.ends, lengths, length-append front c.before);
    }

record HasChild (way : SyntaxTree → Option SyntaxTree) (o : Option SyntaxTree) (u : SyntaxTree) : Type 0 where
  pub child : SyntaxTree
  pub first : o ≡ Some child
  pub further : way child ≡ Some u

child_on : (way : SyntaxTree → Option SyntaxTree) (o : Option SyntaxTree) (u : SyntaxTree) → option_and_then way o ≡ Some u → HasChild way o u
child_on way None u there = absurd (none-some u there)
child_on way (Some w) u there = record { child = w; first = refl; further = there }

pub cut : (t : SyntaxTree) (q : Path) (i n j : ℕ) (u : SyntaxTree) → j ≡ i + n → at t (q ++ j ∷ []) ≡ Some u → IsCut t q i n j
cut (Token k s) [] i n j u is there = absurd (none-some u there)
cut (Token k s) (m ∷ q) i n j u is there = absurd (none-some u there)
cut (Node k f) [] i n j u is there = cut_here k f i n j u is (child (slice_get (trees f) j) there)
  where
    child : (o : Option SyntaxTree) → option_and_then (λ c. at c []) o ≡ Some u → o ≡ Some u
    child None h = absurd (none-some u h)
    child (Some c) h = h
cut (Node k f) (m ∷ q) i n j u is there =
    let h = child_on (λ w. at w (q ++ j ∷ [])) (slice_get (trees f) m) u there in
    cut_down k f m q i n j h.child h.first (cut h.child q i n j u is h.further)
