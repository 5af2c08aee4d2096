-- Runs of children that are before all aims: they are shared in one go, and the marks in them are found.
--     made_run, pass-run, keep-run  what is made of them; those that are passed over, those that stay
--     left-run                      both, one after the other
--     carried-same, all-carried, none-carried      where marks go in them; those behind them go nowhere
--     moved, shared-run             a node that has come to a slot; what is still to come is the same
use Rattle.std.specs.Prelude.{◌≡◌, ℕ, suc, ◌+◌, ◌-◌, ◌<◌, ◌≤◌, min, max, zero, true, false, cond, List, [], ◌∷◌, ◌++◌, map, flat_map, take, drop, length, slice_get, sum, Vec, Option, Some, None, option_map, refl}
use Rattle.std.specs.Option.{option_map_or}
use Rattle.std.specs.Borrow.{Bor}
use Rattle.std.specs.Global.{Global}
use Rattle.std.specs.List.{slice_range}
use Rattle.std.proofs.Common.{ap, ap₂, sym, subst, ◌∙◌, arith}
use Rattle.std.proofs.lemmas.Bool.{cases_lt, lt-ltb, le-ltb, ltb-true, ltb-false}
use mathlib.Core.Logic.{inl, inr}
use Rattle.std.proofs.lemmas.List.{append_assoc, append-nil, length-append, length-map, map-append, length-take-le, length-drop, take-append-drop}
use Rattle.std.proofs.lemmas.Grind.{flat_map-append}
use Rattle.std.proofs.lemmas.Option.{slice_get_past, slice_get-map}
use Rattle.std.proofs.lemmas.List.Folds.{drop_split}
use Rattle.std.proofs.lemmas.List.Sums.{sum_by-cons}
use Rattle.green_tree.specs.Path.{Path}
use Rattle.green_tree.specs.Tree.{SyntaxTree, forest}
use Rattle.green_tree.specs.inner.TreeSize.{forest_size}
use Rattle.green_tree.specs.GreenElement.{element_tree, element_trees}
use Rattle.green_tree.specs.declared.green.GreenElement.{GreenElement}
use Rattle.edit_change.specs.Rewriting.{rewritten}
use Rattle.edit_change.specs.inner.Aimed.{FormedAim, of_formed}
use Rattle.edit_change.specs.inner.KindOnly.{kind_only}
use Rattle.edit_change.proofs.Untouched.{unaimed, nothing_rewritten}
use Rattle.one_pass.specs.declared.open_node.OpenNode.{OpenNode}
use Rattle.one_pass.specs.declared.mark.Walk.{Walk}
use Rattle.one_pass.specs.declared.mark.Sought.{Sought}
use Rattle.one_pass.specs.inner.Marked.{MarkTree, Marking, marked_from, mark_below, marks_of, mark_seen, marks_seen, leads, seen_below, sought_below, wanted, is_before_child, InPathOrder, BeforeChild, FromChild}
use Rattle.one_pass.specs.inner.Sweep.{left, From}
use Rattle.one_pass.specs.inner.OpenNodes.{coming, sought_in, child_made, child_built, nothing, to_come, carried_to, InOrder, IsShared}
use Rattle.one_pass.proofs.Counted.{counted-none}
use Rattle.one_pass.proofs.Ascending.{ascending-part}
use Rattle.one_pass.proofs.MarksInOrder.{kept_run, carried, carried-there, carried-before, before-below, run-found}
use Rattle.one_pass.proofs.NodeAhead.{made-alike}
use Rattle.one_pass.proofs.NodeSteps.{shown-on}
use Rattle.one_pass.proofs.Sweeping.{from-less, share-on}

module _ {X : Type 0} (given : ℕ → List X) (made : ℕ → List FormedAim → GreenElement → X) (p : ℕ) (xs : List FormedAim) where
  abbrev pub made_run : ℕ → List GreenElement → List X
  made_run i [] = []
  made_run i (e ∷ es) = made i [] e ∷ made_run (suc i) es

  further : (i n : ℕ) → (suc i + n) ≡ (i + suc n)
  further i n = omega arith

  at-start : (i : ℕ) → i ≡ i + 0
  at-start i = omega arith

  pub pass-run : (i : ℕ) (run later : List GreenElement) → From ((i + length run) + (i + length run)) xs → i + length run ≤ p → left given made p xs i (run ++ later) ≡ left given made p xs (i + length run) later
  pass-run i [] later ahead l = ap (λ j. left given made p xs j later) (at-start i)
  pass-run i (e ∷ run) later ahead l =
      let all = left given made p xs (suc i) (run ++ later) in
      share-on given made p xs i e (run ++ later) (from-less (suc (suc (i + i))) _ xs (omega arith) ahead) ∙ ap (λ b. cond b [] (made i [] e ∷ []) ++ all) (lt-ltb i p (omega (arith, l))) ∙ pass-run (suc i) run later (subst (λ n. From (n + n) xs) (sym (further i (length run))) ahead) (omega (arith, l)) ∙ ap (λ j. left given made p xs j later) (further i (length run))

  pub keep-run : (i : ℕ) (run later : List GreenElement) → From ((i + length run) + (i + length run)) xs → p ≤ i → left given made p xs i (run ++ later) ≡ made_run i run ++ left given made p xs (i + length run) later
  keep-run i [] later ahead l = ap (λ j. left given made p xs j later) (at-start i)
  keep-run i (e ∷ run) later ahead l =
      let all = left given made p xs (suc i) (run ++ later) in
      share-on given made p xs i e (run ++ later) (from-less (suc (suc (i + i))) _ xs (omega arith) ahead) ∙ ap (λ b. cond b [] (made i [] e ∷ []) ++ all) (le-ltb i p l) ∙ ap (λ us. made i [] e ∷ us) (keep-run (suc i) run later (subst (λ n. From (n + n) xs) (sym (further i (length run))) ahead) (omega (arith, l)) ∙ ap (λ j. made_run (suc i) run ++ left given made p xs j later) (further i (length run)))

-- ---- up to a later slot
long : (es : List GreenElement) (i k : ℕ) → i ≤ k → k ≤ length es → i + length (slice_range es i k) ≡ k
long es i k l m = omega (arith, l, length-take-le (k - i) (drop i es) (omega (arith, length-drop i es, l, m)))

module _ {X : Type 0} (given : ℕ → List X) (made : ℕ → List FormedAim → GreenElement → X) (p : ℕ) (xs : List FormedAim) (es : List GreenElement) where
  -- those that are passed over
  to-first : (i m : ℕ) → i ≤ m → m ≤ length es → From (m + m) xs → m ≤ p → left given made p xs i (drop i es) ≡ left given made p xs m (drop m es)
  to-first i m l inside ahead under =
      let run = slice_range es i m in
      let end : i + length run ≡ m = long es i m l inside in
      ap (left given made p xs i) (drop_split es i m l) ∙ pass-run given made p xs i run (drop m es) (subst (λ n. From (n + n) xs) (sym end) ahead) (omega (arith, end, under)) ∙ ap (λ k. left given made p xs k (drop m es)) end

  to-end : (m j : ℕ) → m ≤ j → j ≤ length es → From (j + j) xs → p ≤ m → left given made p xs m (drop m es) ≡ made_run given made p xs m (slice_range es m j) ++ left given made p xs j (drop j es)
  to-end m j l inside ahead over =
      let run = slice_range es m j in
      let end : m + length run ≡ j = long es m j l inside in
      ap (left given made p xs m) (drop_split es m j l) ∙ keep-run given made p xs m run (drop j es) (subst (λ n. From (n + n) xs) (sym end) ahead) over ∙ ap (λ k. made_run given made p xs m run ++ left given made p xs k (drop j es)) end

  none-kept : (m j : ℕ) → m ≡ j → j ≤ length es → left given made p xs m (drop m es) ≡ made_run given made p xs m (slice_range es m j) ++ left given made p xs j (drop j es)
  none-kept m j same inside = empty (slice_range es m j) (omega (arith, long es m j (omega (arith, same)) inside, same)) ∙ ap (λ us. us ++ left given made p xs j (drop j es)) refl
    where
      empty : (run : List GreenElement) → length run ≡ 0 → left given made p xs m (drop m es) ≡ made_run given made p xs m run ++ left given made p xs j (drop j es)
      empty [] none = ap (λ k. left given made p xs k (drop k es)) same
      empty (e ∷ run) none = absurd (omega (arith, none))

  pub left-run : (i j : ℕ) → i ≤ j → j ≤ length es → From (j + j) xs → left given made p xs i (drop i es) ≡ made_run given made p xs (min (max i p) j) (slice_range es (min (max i p) j) j) ++ left given made p xs j (drop j es)
  left-run i j l inside ahead =
      let m : ℕ = min (max i p) j in
      let start : left given made p xs i (drop i es) ≡ left given made p xs m (drop m es) = elim (cases_lt i p) [
        | inl under ↦ to-first i m (omega (arith, l, under)) (omega (arith, inside)) (from-less (m + m) (j + j) xs (omega arith) ahead) (omega (arith, under))
        | inr over ↦ ap (λ k. left given made p xs k (drop k es)) (let same : i ≡ m = omega (arith, l, over) in same)
      ] in
      start ∙ elim (cases_lt m j) [
        | inl before ↦ to-end m j (omega (arith, before)) inside ahead (omega (arith, before))
        | inr past ↦ none-kept m j (omega (arith, past)) inside
      ]

-- ---- what stays, as it is
kinds-run : (given : ℕ → List SyntaxTree) (p : ℕ) (xs : List FormedAim) (i : ℕ) (run : List GreenElement) → made_run given (λ k ys e. rewritten kind_only given (map of_formed ys) [] (element_tree e)) p xs i run ≡ element_trees run
kinds-run given p xs i [] = refl
kinds-run given p xs i (e ∷ run) = ap₂ (λ t ts. t ∷ ts) (nothing_rewritten given [] (element_tree e) refl) (kinds-run given p xs (suc i) run)

kept-children : (trees : ℕ → List MarkTree) (ms : List Marking) (p : ℕ) (xs : List FormedAim) (i : ℕ) (run : List GreenElement) → made_run trees (λ k ys e. rewritten (wanted (sought_below k ms)) trees (map of_formed ys) [] (element_tree e)) p xs i run ≡ kept_run ms i (element_trees run)
kept-children trees ms p xs i [] = refl
kept-children trees ms p xs i (e ∷ run) = ap₂ (λ t ts. t ∷ ts) (unaimed (wanted (sought_below i ms)) trees [] refl [] (element_tree e)) (kept-children trees ms p xs (suc i) run)

run-long : (ms : List Marking) (i : ℕ) (run : List GreenElement) → length (kept_run ms i (element_trees run)) ≡ length run
run-long ms i [] = refl
run-long ms i (e ∷ run) = ap suc (run-long ms (suc i) run)

-- ---- where marks go
get-drop : {X : Type 0} (es : List X) (m d s : ℕ) → s ≡ m + d → slice_get (drop m es) d ≡ slice_get es s
get-drop es zero d s is = ap (slice_get es) (let same : d ≡ s = omega (arith, is) in same)
get-drop [] (suc m) d s is = slice_get_past [] d (omega arith) ∙ sym (slice_get_past [] s (omega arith))
get-drop (e ∷ es) (suc m) d zero is = absurd (omega (arith, is))
get-drop (e ∷ es) (suc m) d (suc s) is = get-drop es m d s (omega (arith, is))

get-take : {X : Type 0} (es : List X) (k d : ℕ) → d < k → slice_get (take k es) d ≡ slice_get es d
get-take es zero d l = absurd (omega (arith, l))
get-take [] (suc k) d l = refl
get-take (e ∷ es) (suc k) zero l = refl
get-take (e ∷ es) (suc k) (suc d) l = get-take es k d (omega (arith, l))

module _ (es : List GreenElement) (m j : ℕ) (place : ℕ) where
  abbrev run : List GreenElement
  run = slice_range es m j

  there : (o : Option GreenElement) (n to : ℕ) (p : Path) → option_map_or (λ t. cond {A = List Marking} (leads t p) ((n, to ∷ p) ∷ []) []) (option_map element_tree o) [] ≡ option_map_or (λ e. cond {A = List Marking} (leads (element_tree e) p) ((n, to ∷ p) ∷ []) []) o []
  there None n to p = refl
  there (Some e) n to p = refl

  carried-same : (n : ℕ) (q : Path) → is_before_child j q ≡ true → carried place m (element_trees run) n q ≡ carried_to place m es n q
  carried-same n [] l = refl
  carried-same n (s ∷ p) l =
      elim (cases_lt s m) [
        | inl before ↦ carried-before place m (element_trees run) n s p before ∙ ap (λ b. cond b [] (option_map_or (λ e. cond {A = List Marking} (leads (element_tree e) p) ((n, (place + (s - m)) ∷ p) ∷ []) []) (slice_get es s) [])) (sym (lt-ltb s m before))
        | inr far ↦
            let d : ℕ = s - m in
            let is : s ≡ m + d = omega (arith, far) in
            let less : d < j - m = omega (arith, far, ltb-true s j l) in
            carried-there place m (element_trees run) n s d (place + d) p is refl ∙ ap (λ o. option_map_or (λ t. cond {A = List Marking} (leads t p) ((n, (place + d) ∷ p) ∷ []) []) o []) (slice_get-map element_tree run d ∙ ap (option_map element_tree) (get-take (drop m es) (j - m) d less ∙ get-drop es m d s is)) ∙ there (slice_get es s) n (place + d) p ∙ ap (λ b. cond b [] (option_map_or (λ e. cond {A = List Marking} (leads (element_tree e) p) ((n, (place + d) ∷ p) ∷ []) []) (slice_get es s) [])) (sym (le-ltb s m far))
      ]

  all-carried : (ms : List Marking) → BeforeChild j ms → flat_map (λ x. carried place m (element_trees run) x.0 x.1) ms ≡ flat_map (λ x. carried_to place m es x.0 x.1) ms
  all-carried [] h = refl
  all-carried (x ∷ ms) h = ap₂ (λ us vs. us ++ vs) (carried-same x.0 x.1 h.0) (all-carried ms h.1)

  carried-past : (within : j ≤ length es) (n : ℕ) (q : Path) → m ≤ j → is_before_child j q ≡ false → carried place m (element_trees run) n q ≡ []
  carried-past within n [] l h = absurd (cc)
  carried-past within n (s ∷ p) l h =
      let far = ltb-false s j h in
      let d : ℕ = s - m in
      let size = long es m j l within in
      let past : length (element_trees run) ≤ d = omega (arith, far, size, length-map run element_tree) in
      carried-there place m (element_trees run) n s d (place + d) p (omega (arith, far, l)) refl ∙ ap (λ o. option_map_or (λ t. cond {A = List Marking} (leads t p) ((n, (place + d) ∷ p) ∷ []) []) o []) (slice_get_past (element_trees run) d past)

  none-carried : (within : j ≤ length es) (ms : List Marking) → m ≤ j → FromChild j ms → flat_map (λ x. carried place m (element_trees run) x.0 x.1) ms ≡ []
  none-carried within [] l h = refl
  none-carried within (x ∷ ms) l h = ap₂ (λ us vs. us ++ vs) (carried-past within x.0 x.1 l h.0) (none-carried within ms l h.1)

unbuilt-run : (p : ℕ) (xs : List FormedAim) (i : ℕ) (run : List GreenElement) (later : List ℕ) → sum (made_run nothing child_built p xs i run ++ later) ≡ sum later
unbuilt-run p xs i [] later = refl
unbuilt-run p xs i (e ∷ run) later =
    let rest = made_run nothing child_built p xs (suc i) run ++ later in
    omega (arith, sum_by-cons (λ (x : ℕ). x) (child_built i [] e) rest, counted-none [] (element_tree e) refl, unbuilt-run p xs (suc i) run later)

less-run : (es : List GreenElement) (i j : ℕ) → i ≤ j → forest_size (forest (element_trees (drop j es))) ≤ forest_size (forest (element_trees (drop i es)))
less-run es i j l = subst (λ us. forest_size (forest (element_trees (drop j es))) ≤ forest_size (forest (element_trees us))) (sym (drop_split es i j l)) (on (slice_range es i j) (drop j es))
  where
    on : (run later : List GreenElement) → forest_size (forest (element_trees later)) ≤ forest_size (forest (element_trees (run ++ later)))
    on [] later = omega arith
    on (e ∷ run) later =
        let next = on run later in
        omega (arith, next)

-- ---- a node that has come to a slot, with what is put
abbrev pub moved : OpenNode → Vec GreenElement Global → ℕ → Bor (List Sought) → OpenNode
moved f out slot sought = record { kind = f.kind; elements = f.elements; depth = f.depth; aims = f.aims; sought = sought; out = out; slot = slot; passed = f.passed }

module _ (f : OpenNode) (j n : ℕ) (out : Vec GreenElement Global) (rest : Bor (List Sought)) (before after : Walk) (order : InOrder f) (within : j ≤ length f.elements.now) (next : f.slot ≤ j) (ahead : From (j + j) (coming f)) where
  abbrev first : ℕ
  first = min (max f.slot f.passed) j

  abbrev here : List Marking
  here = marks_seen f.depth (take n f.sought.now)

  abbrev behind : List Marking
  behind = marks_seen f.depth (drop n f.sought.now)

  parts : sought_in f ≡ here ++ behind
  parts = ap (marks_seen f.depth) (sym (take-append-drop n f.sought.now)) ∙ map-append (mark_seen f.depth) (take n f.sought.now) (drop n f.sought.now)

  pub shared-run : rest.now ≡ drop n f.sought.now → BeforeChild j here → FromChild j behind → out.items ≡ f.out.items ++ slice_range f.elements.now first j → after.path.items ≡ before.path.items → after.builds ≡ before.builds → marks_of after.found.items ≡ marks_of before.found.items ++ map (mark_below before.path.items) (flat_map (λ x. carried_to (length f.out.items) first f.elements.now x.0 x.1) here) → IsShared j before after f (moved f out j rest)
  shared-run is low high put path count found =
      let es = f.elements.now in
      let run = slice_range es first j in
      let end : first + length run ≡ j = long es first j (omega arith) within in
      let g = moved f out j rest in
      let left_over : sought_in g ≡ behind = ap (marks_seen f.depth) is in
      let both = ascending-part (λ (m : Marking). m.1) here behind (subst InPathOrder parts order.ascending) in
      record {
        same = record { kind = refl; elements = refl; depth = refl };
        aims = refl;
        passed = refl;
        slot = refl;
        ascending = subst InPathOrder (sym left_over) both.1;
        from = subst (FromChild j) (sym left_over) high;
        path = path;
        count = count;
        trees = λ given.
            let later : List SyntaxTree = to_come (λ ms. kind_only) given g in
            ap (λ us. element_trees us ++ later) put ∙ ap (λ us. us ++ later) (map-append element_tree f.out.items run) ∙ append_assoc (element_trees f.out.items) (element_trees run) later ∙ ap (λ us. element_trees f.out.items ++ us) (sym (left-run given (child_made (λ ms. kind_only) given f) f.passed (coming f) es f.slot j next within ahead ∙ ap (λ us. us ++ later) (kinds-run given f.passed (coming f) first run)));
        marks = λ trees.
            let made : List Marking → ℕ → List FormedAim → GreenElement → MarkTree = λ ms i ys e. rewritten (wanted (sought_below i ms)) trees (map of_formed ys) [] (element_tree e) in
            let later : List MarkTree = to_come wanted trees g in
            let kept = kept_run (sought_in f) first (element_trees run) in
            let alike : (i : ℕ) → j ≤ i → sought_below i (sought_in f) ≡ sought_below i (sought_in g) = λ i l. ap (sought_below i) parts ∙ flat_map-append (λ m. seen_below i m.0 m.1) here behind ∙ ap (λ xs. xs ++ sought_below i behind) (before-below j i here l low) ∙ ap (sought_below i) (sym left_over) in
            let on = made-alike trees made (sought_in f) (sought_in g) f.passed (coming f) j (drop j es) (λ i ys e l. ap (λ ms. rewritten (wanted ms) trees (map of_formed ys) [] (element_tree e)) (alike i l)) in
            let all = left-run trees (child_made wanted trees f) f.passed (coming f) es f.slot j next within ahead ∙ ap₂ (λ us vs. us ++ vs) (kept-children trees (sought_in f) f.passed (coming f) first run) on in
            let place : ℕ = length f.out.items in
            let marks : marked_from place kept ≡ flat_map (λ x. carried_to place first es x.0 x.1) here = run-found place first (element_trees run) (sought_in f) order.ascending ∙ ap (flat_map (λ x. carried place first (element_trees run) x.0 x.1)) parts ∙ flat_map-append (λ x. carried place first (element_trees run) x.0 x.1) here behind ∙ ap₂ (λ us vs. us ++ vs) (all-carried es first j place here low) (none-carried es first j place within behind (omega arith) high) ∙ append-nil (flat_map (λ x. carried_to place first es x.0 x.1) here) in
            let width : length out.items ≡ place + length kept = ap length put ∙ length-append f.out.items run ∙ ap (λ k. place + k) (sym (run-long (sought_in f) first run)) in
            shown-on before.path.items (marks_of before.found.items) (marks_of after.found.items) place (length out.items) kept later (to_come wanted trees f) (found ∙ ap (λ xs. marks_of before.found.items ++ map (mark_below before.path.items) xs) (sym marks)) width all;
        built = sym (ap sum (left-run nothing child_built f.passed (coming f) es f.slot j next within ahead) ∙ unbuilt-run f.passed (coming f) first run (left nothing child_built f.passed (coming f) j (drop j es)));
        size = less-run es f.slot j next;
      }
