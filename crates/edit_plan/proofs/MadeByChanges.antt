-- What the changes of a plan do to the text of its tree, part by part.
--     child-there, child-text       a child of a node, by its path
--     gap-made                      the inserts of a gap
--     On, NotOn, Standing           a range goes on in a slot; none does; how many slots it still has
--     made-tree, made-from          an element; the children of a node from a slot on
--     made-whole                    the whole tree
use Rattle.std.specs.Prelude.{◌≡◌, ℕ, zero, suc, ◌+◌, ◌-◌, ◌<◌, ◌≤◌, nat_eq, true, false, cond, List, [], ◌∷◌, ◌++◌, map, flat_map, length, take, drop, slice_get, unwrap_or, Option, Some, None, IsSome, All, option_and_then, refl}
use Rattle.std.specs.List.{AllByRecursion}
use Rattle.std.proofs.Common.{ap, ap₂, sym, subst, ◌∙◌, arith}
use Rattle.std.proofs.lemmas.Bool.{cases_Bool, and_parts, or_left, or_right, true≢false, false≢true, eqb-true}
use Rattle.std.proofs.lemmas.Option.{slice_get_within}
use Rattle.std.proofs.lemmas.List.{append_assoc, append-nil, length-append}
use Rattle.std.proofs.lemmas.Grind.{flat_map-append}
use mathlib.Core.Logic.{inl, inr}
use Rattle.cst_core.specs.Path.{Path, same_path, has_path, parent_path, last_slot, counted_from, up_to}
use Rattle.cst_core.specs.Tree.{Tree, Forest, Token, Node, end, more, SyntaxTree, trees, text, forest_text, text_length, at}
use Rattle.cst_core.specs.Order.{start}
use Rattle.cst_core.specs.Element.{Element, element_at, subtree}
use Rattle.cst_core.specs.SyntaxElement.{element_of}
use Rattle.green_tree.proofs.Lookup.{at-append}
use Rattle.green_tree.proofs.TextLengths.{start-append}
use Rattle.green_tree.proofs.Starts.{start-next, start-top}
use Rattle.green_tree.proofs.FirstNode.{start-first}
use Rattle.green_tree.proofs.Parts.{slice_get-drop, drop-rest}
use Rattle.edit_change.specs.Aim.{FirstIn, AfterElement, aims_at_gap, starts_at, replaces}
use Rattle.edit_change.specs.Rewriting.{NumberedAim, numbers, inserts_at, replacements_at, is_replaced, gap_order, gap, slot, rewritten, rewritten_from}
use Rattle.edit_change.specs.RewritingLaws.{filled_text, filled_text_from, text_filled}
use Rattle.edit_change.specs.Change.{targets}
use Rattle.edit_change.specs.ChangeAim.{aim, aim_path}
use Rattle.edit_change.specs.Fits.{Fits}
use Rattle.edit_change.specs.Nesting.{first_clash, surroundings}
use Rattle.edit_change.specs.NewTree.{independents}
use Rattle.edit_change.specs.PositionForm.{FirstChild, After}
use Rattle.edit_change.specs.declared.change.Change.{Change}
use Rattle.edit_change.specs.declared.change.Change.TheVariants.{Insert, InsertAll, Replace, ReplaceWithMany, ReplaceAll}
use Rattle.edit_change.proofs.Lists.{all_filter}
use Rattle.edit_change.proofs.MovedAims.{fit_at}
use Rattle.edit_change.proofs.Paths.{same_path-true, same_path_from}
use Rattle.edit_change.proofs.RootAlone.{root-alone}
use Rattle.edit_change.proofs.WayOfRegions.{up_to-push}
use Rattle.text_edit.specs.TextPiece.{TextPiece}
use Rattle.one_pass.specs.TextEdits.{offset, old_text, number_token, in_text_order}
use Rattle.edit_plan.proofs.Applied.{Made, made-none, made-seq, made-change, made-inserts, InsertsHere, does, pieces_of, pieces-append, pieces-numbers, pieces-node}
use Rattle.edit_plan.proofs.Ranges.{Free, FreeAim, frees, only-path, any-of, none-of, side_by_side, has-range, range-has, Run, run-of, native_some, one-change, replaced-target, run-starts, starts-run, alone-at, replaced-by, parent-and-slot, dropped-inside}
use Rattle.edit_change.proofs.AimsApart.{starts, start_in_targets}

flat_map-map : {X Y Z : Type 0} (g : Y → List Z) (h : X → Y) (xs : List X) → flat_map g (map h xs) ≡ flat_map (λ x. g (h x)) xs
flat_map-map g h [] = refl
flat_map-map g h (x ∷ xs) = ap (λ ys. g (h x) ++ ys) (flat_map-map g h xs)

texts-forest : (f : Forest ℕ) → forest_text f ≡ flat_map text (trees f)
texts-forest end = refl
texts-forest (more t f) = ap (λ s. text t ++ s) (texts-forest f)

length-drop : {X : Type 0} (i : ℕ) (xs : List X) → length (drop i xs) ≡ length xs - i
length-drop zero xs = omega arith
length-drop (suc i) [] = omega arith
length-drop (suc i) (x ∷ xs) =
    let same : suc (length xs) - suc i ≡ length xs - i = omega arith in
    length-drop i xs ∙ sym same

take-drop : {X : Type 0} (k : ℕ) (xs : List X) → take k xs ++ drop k xs ≡ xs
take-drop zero xs = refl
take-drop (suc k) [] = refl
take-drop (suc k) (x ∷ xs) = ap (λ ys. x ∷ ys) (take-drop k xs)

module _ (root : Element) where
  replaced-offset : (c : Change) (q : Path) → has_path (targets c) q ≡ true → offset root c ≡ start root.root (aim_path c)
  replaced-offset (Insert at e) q h = absurd (false≢true h)
  replaced-offset (InsertAll at es) q h = absurd (false≢true h)
  replaced-offset (Replace t e) q h = refl
  replaced-offset (ReplaceWithMany t es) q h = refl
  replaced-offset (ReplaceAll first last es) q h = refl

  no-top : (q : Path) (ns : List ℕ) → has_path (map (λ i. q ++ i ∷ []) ns) [] ≡ false
  no-top q [] = refl
  no-top [] (n ∷ ns) = no-top [] ns
  no-top (j ∷ q) (n ∷ ns) = no-top (j ∷ q) ns

  root-takes : (c : Change) → has_path (targets c) [] ≡ true → (aim_path c ≡ []) × (old_text root c ≡ text root.root)
  root-takes (Insert at e) h = absurd (false≢true h)
  root-takes (InsertAll at es) h = absurd (false≢true h)
  root-takes (Replace t e) h =
      let top = sym (only-path (element_of t).path [] h) in
      (top, append-nil (text (subtree (element_at root (element_of t).path))) ∙ ap (λ q. text (subtree (element_at root q))) top)
  root-takes (ReplaceWithMany t es) h =
      let top = sym (only-path (element_of t).path [] h) in
      (top, append-nil (text (subtree (element_at root (element_of t).path))) ∙ ap (λ q. text (subtree (element_at root q))) top)
  root-takes (ReplaceAll first last es) h =
      absurd (false≢true (sym (no-top (parent_path (element_of first).path) (counted_from (last_slot (element_of first).path) (suc (last_slot (element_of last).path) - last_slot (element_of first).path))) ∙ h))

  -- ---- the children of a node
  module _ (p : Path) (k : ℕ) (f : Forest ℕ) (here : at root.root p ≡ Some (Node k f)) where
    child-at : (i : ℕ) → at root.root (p ++ i ∷ []) ≡ slice_get (trees f) i
    child-at i =
        at-append root.root p (i ∷ []) ∙ ap (λ o. option_and_then (λ c. at c (i ∷ [])) o) here ∙ last (slice_get (trees f) i)
      where
        last : (o : Option SyntaxTree) → option_and_then (λ c. at c []) o ≡ o
        last None = refl
        last (Some t) = refl

    pub child-there : (i : ℕ) (t : SyntaxTree) → slice_get (trees f) i ≡ Some t → at root.root (p ++ i ∷ []) ≡ Some t
    child-there i t h = child-at i ∙ h

    pub child-text : (i : ℕ) (t : SyntaxTree) → slice_get (trees f) i ≡ Some t → text (subtree (element_at root (p ++ i ∷ []))) ≡ text t
    child-text i t h = ap (λ o. text (unwrap_or o (Token 0 []))) (child-there i t h)

    some-slot : (i : ℕ) → IsSome (at root.root (p ++ i ∷ [])) → (t : SyntaxTree) × (slice_get (trees f) i ≡ Some t)
    some-slot i h = go (slice_get (trees f) i) (subst IsSome (child-at i) h)
      where
        go : (o : Option SyntaxTree) → IsSome o → (t : SyntaxTree) × (o ≡ Some t)
        go None h = absurd (false≢true h)
        go (Some t) h = (t, refl)

    abbrev pub base : ℕ → ℕ
    base i = start root.root p + start (Node k f) (i ∷ [])

    pub base-is : (i : ℕ) → start root.root (p ++ i ∷ []) ≡ base i
    base-is i = start-append root.root p (i ∷ []) (Node k f) here

    pub base-next : (i : ℕ) (t : SyntaxTree) → slice_get (trees f) i ≡ Some t → base (suc i) ≡ base i + text_length t
    base-next i t h = omega (arith, start-next k f i t h)

    -- the texts of some children
    abbrev own_text : ℕ → List ℕ
    own_text j = text (subtree (element_at root (p ++ j ∷ [])))

    pub range-text : (s n : ℕ) (ts : List SyntaxTree) → drop s (trees f) ≡ ts → n ≤ length ts → flat_map own_text (counted_from s n) ≡ flat_map text (take n ts)
    range-text s zero ts h l = refl
    range-text s (suc n) [] h l = absurd (omega (arith, l))
    range-text s (suc n) (t ∷ ts) h l =
        ap₂ (λ a b. a ++ b) (child-text s t (slice_get-drop (trees f) ts s t h)) (range-text (suc s) n ts (drop-rest (trees f) ts s t h) (omega (arith, l)))

    -- ---- the inserts of a gap
    after-offset : (q : Path) (i : ℕ) → IsSome (at root.root q) → aims_at_gap p i (AfterElement q) ≡ true → start root.root q + text_length (subtree (element_at root q)) ≡ base i
    after-offset [] i there h = absurd (false≢true h)
    after-offset (j ∷ q) i there h =
        let l = last_slot (j ∷ q) in
        let parts = and_parts (same_path p (parent_path (j ∷ q))) (nat_eq i (suc l)) h in
        let above : p ≡ parent_path (j ∷ q) = same_path-true p (parent_path (j ∷ q)) parts.0 in
        let next : i ≡ suc l = eqb-true i (suc l) parts.1 in
        let same : j ∷ q ≡ p ++ l ∷ [] = parent-and-slot (j ∷ q) (λ e. let n : suc (length q) ≡ 0 = ap length e in omega (arith, n)) ∙ ap (λ r. r ++ l ∷ []) (sym above) in
        let child = some-slot l (subst (λ r. IsSome (at root.root r)) same there) in
        let starts : start root.root (j ∷ q) ≡ base l = ap (start root.root) same ∙ base-is l in
        let long : text_length (subtree (element_at root (j ∷ q))) ≡ text_length child.0 = ap (λ r. text_length (subtree (element_at root r))) same ∙ ap length (child-text l child.0 child.1) in
        ap₂ (λ a b. a + b) starts long ∙ sym (base-next l child.0 child.1) ∙ ap base (sym next)

    first-offset : (q : Path) (i : ℕ) → aims_at_gap p i (FirstIn q) ≡ true → start root.root q ≡ base i
    first-offset q i h =
        let parts = and_parts (same_path p q) (nat_eq i 0) h in
        let same : q ≡ p = sym (same_path-true p q parts.0) in
        let none : i ≡ 0 = eqb-true i 0 parts.1 in
        let zero_is : start (Node k f) (i ∷ []) ≡ 0 = ap (λ n. start (Node k f) (n ∷ [])) none ∙ start-first k f in
        let here_is : start root.root q ≡ start root.root p = ap (start root.root) same in
        omega (arith, zero_is, here_is)

    pub insert-offset : (c : Change) (i : ℕ) → Fits root c → aims_at_gap p i (aim c) ≡ true → (offset root c ≡ base i) × (old_text root c ≡ [])
    insert-offset (Insert (FirstChild n) e) i fit h = (first-offset n.path i h, refl)
    insert-offset (Insert (After x) e) i fit h = (after-offset (element_of x).path i (native_some root x fit) h, refl)
    insert-offset (InsertAll (FirstChild n) es) i fit h = (first-offset n.path i h, refl)
    insert-offset (InsertAll (After x) es) i fit h = (after-offset (element_of x).path i (native_some root x fit) h, refl)
    insert-offset (Replace t e) i fit h = absurd (false≢true h)
    insert-offset (ReplaceWithMany t es) i fit h = absurd (false≢true h)
    insert-offset (ReplaceAll first last es) i fit h = absurd (false≢true h)

  -- ---- inserts after an element
  has-last : (qs : List Path) (q : Path) → has_path (qs ++ q ∷ []) q ≡ true
  has-last [] q = or_left (same_path q q) false (same_path_from q q refl)
  has-last (r ∷ qs) q = or_right (same_path q r) (has_path (qs ++ q ∷ []) q) (has-last qs q)

  around-after : (p q : Path) (i l : ℕ) → aims_at_gap p i (AfterElement q) ≡ true → i ≡ suc l → has_path (up_to q) (p ++ l ∷ []) ≡ true
  around-after p [] i l h e = absurd (false≢true h)
  around-after p (j ∷ q) i l h e =
      let m = last_slot (j ∷ q) in
      let parts = and_parts (same_path p (parent_path (j ∷ q))) (nat_eq i (suc m)) h in
      let above : p ≡ parent_path (j ∷ q) = same_path-true p (parent_path (j ∷ q)) parts.0 in
      let next : i ≡ suc m = eqb-true i (suc m) parts.1 in
      let slots : m ≡ l = omega (arith, next, e) in
      let same : j ∷ q ≡ p ++ l ∷ [] = parent-and-slot (j ∷ q) (λ e. let n : suc (length q) ≡ 0 = ap length e in omega (arith, n)) ∙ ap₂ (λ r n. r ++ n ∷ []) (sym above) slots in
      ap (λ r. has_path (up_to r) (p ++ l ∷ [])) same ∙ ap (λ qs. has_path qs (p ++ l ∷ [])) (up_to-push p l) ∙ has-last (up_to p) (p ++ l ∷ [])

  not-first : (p q : Path) (i l : ℕ) → aims_at_gap p i (FirstIn q) ≡ true → i ≡ suc l → ⊥
  not-first p q i l h e = omega (arith, e, eqb-true i 0 (and_parts (same_path p q) (nat_eq i 0) h).1)

  gap-around : (d : Change) (p : Path) (i l : ℕ) → aims_at_gap p i (aim d) ≡ true → i ≡ suc l → has_path (surroundings d) (p ++ l ∷ []) ≡ true
  gap-around (Insert (FirstChild n) e) p i l h s = absurd (not-first p n.path i l h s)
  gap-around (Insert (After x) e) p i l h s = around-after p (element_of x).path i l h s
  gap-around (InsertAll (FirstChild n) es) p i l h s = absurd (not-first p n.path i l h s)
  gap-around (InsertAll (After x) es) p i l h s = around-after p (element_of x).path i l h s
  gap-around (Replace t e) p i l h s = absurd (false≢true h)
  gap-around (ReplaceWithMany t es) p i l h s = absurd (false≢true h)
  gap-around (ReplaceAll first last es) p i l h s = absurd (false≢true h)

  -- ---- the changes of a plan
  module _ (cs : List Change) (fit : All (Fits root) cs) (apart : first_clash cs ≡ None) (new : ℕ → List ℕ) where
    abbrev aims : List NumberedAim
    aims = independents cs

    abbrev remade : Path → SyntaxTree → Tree (List ℕ)
    remade p t = rewritten (λ q k. []) (number_token cs) aims p t

    abbrev remade_from : Path → ℕ → Forest ℕ → List (Tree (List ℕ))
    remade_from p i f = rewritten_from (λ q k. []) (number_token cs) aims p i f

    abbrev pieces : List (Tree (List ℕ)) → List TextPiece
    pieces ts = pieces_of root cs new ts

    abbrev Has : Change → Path → Type 0
    Has c q = has_path (targets c) q ≡ true

    run-has : (c : Change) (p : Path) (r : Run root c p) (i : ℕ) → r.first ≤ i → i < r.first + suc r.more → Has c (p ++ i ∷ [])
    run-has c p r i l m = ap (λ qs. has_path qs (p ++ i ∷ [])) r.targets_are ∙ range-has p r.first (suc r.more) i l m

    has-run : (c : Change) (p : Path) (r : Run root c p) (i : ℕ) → Has c (p ++ i ∷ []) → (r.first ≤ i) × (i < r.first + suc r.more)
    has-run c p r i h =
        let inside = has-range p p r.first (suc r.more) i (ap (λ qs. has_path qs (p ++ i ∷ [])) (sym r.targets_are) ∙ h) in
        (inside.1, inside.2)

    -- ---- how far a range goes
    -- no change replaces the child in a slot and the one before it
    abbrev NotOn : Path → ℕ → Type 0
    NotOn p i = (n : ℕ) (c : Change) → Free cs n c → Has c (p ++ i ∷ []) → (j : ℕ) → i ≡ suc j → Has c (p ++ j ∷ []) → ⊥

    record On (p : Path) (i k : ℕ) : Type 0 where
      number : ℕ
      change : Change
      free : Free cs number change
      run : Run root change p
      before : run.first < i
      long : i + k ≡ run.first + suc run.more

    abbrev Standing : Path → ℕ → ℕ → Type 0
    Standing p i zero = NotOn p i
    Standing p i (suc k) = On p i (suc k)

    goes-on : (p : Path) (n : ℕ) (c : Change) → Free cs n c → (r : Run root c p) (i k : ℕ) → r.first ≤ i → suc i + k ≡ r.first + suc r.more → Standing p (suc i) k
    goes-on p n c free r i (suc k) l e = record { number = n; change = c; free = free; run = r; before = omega (arith, l); long = e }
    goes-on p n c free r i zero l e = λ m d free_d has j next before.
        let same_slot : i ≡ j = omega (arith, next) in
        let own : Has c (p ++ j ∷ []) = run-has c p r j (omega (arith, l, same_slot)) (omega (arith, e, same_slot)) in
        let same : d ≡ c = one-change cs apart m n d c (p ++ j ∷ []) free_d.0 free.0 before own in
        let far = (has-run c p r (suc i) (subst (λ x. Has x (p ++ suc i ∷ [])) same has)).1 in
        omega (arith, far, e)

    -- ---- a slot in which a range goes on
    module _ (p : Path) (i k : ℕ) (on : On p i (suc k)) where
      on-has : Has on.change (p ++ i ∷ [])
      on-has = run-has on.change p on.run i (omega (arith, on.before)) (omega (arith, on.long))

      on-replaced : is_replaced aims (p ++ i ∷ []) ≡ true
      on-replaced = replaced-by cs on.number on.change (p ++ i ∷ []) on.free on-has

      on-no-start : replacements_at aims (p ++ i ∷ []) ≡ []
      on-no-start =
          ap numbers (none-of (FreeAim cs) (λ a. starts_at (p ++ i ∷ []) a.1) aims (frees cs) (λ a of start.
          let d = of.0 in
          let begins : starts_at (p ++ i ∷ []) (aim d) ≡ true = ap (starts_at (p ++ i ∷ [])) (sym of.2) ∙ start in
          let own : Has d (p ++ i ∷ []) = start_in_targets d (p ++ i ∷ []) (starts (aim d) (p ++ i ∷ []) begins) in
          let same : d ≡ on.change = one-change cs apart a.0 on.number d on.change (p ++ i ∷ []) of.1.0 on.free.0 own on-has in
          let first : i ≡ on.run.first = starts-run root on.change p i on.run (subst (λ x. starts_at (p ++ i ∷ []) (aim x) ≡ true) same begins) in
          omega (arith, first, on.before)))

      on-no-insert : inserts_at aims p i ≡ []
      on-no-insert =
          let l = i - 1 in
          let next : i ≡ suc l = omega (arith, on.before) in
          let there : Has on.change (p ++ l ∷ []) = run-has on.change p on.run l (omega (arith, on.before)) (omega (arith, on.long, next)) in
          ap numbers (none-of (FreeAim cs) (λ a. aims_at_gap p i a.1) aims (frees cs) (λ a of here.
          let d = of.0 in
          let aimed : aims_at_gap p i (aim d) ≡ true = ap (aims_at_gap p i) (sym of.2) ∙ here in
          elim on.run.many [
            | inl none ↦ omega (arith, none, on.before, on.long)
            | inr wide ↦ dropped-inside cs on.number on.change d (p ++ l ∷ []) on.free.0 wide.0 wide.1 there (gap-around d p i l aimed next) of.1.1
          ]))

    -- ---- the children of a node
    module _ (p : Path) (kind : ℕ) (f : Forest ℕ) (here : at root.root p ≡ Some (Node kind f)) where
      inserts-of : (i : ℕ) (xs : List NumberedAim) → AllByRecursion (λ a. FreeAim cs a × (aims_at_gap p i a.1 ≡ true)) xs → AllByRecursion (InsertsHere root cs new (base p kind f here i)) (numbers xs)
      inserts-of i [] all = tt
      inserts-of i (a ∷ more_aims) all =
          let of = all.0.0 in
          let c = of.0 in
          let told = insert-offset p kind f here c i (fit_at root cs fit a.0 c of.1.0) (ap (aims_at_gap p i) (sym of.2) ∙ all.0.1) in
          ((c, of.1.0, told.0, told.1), inserts-of i more_aims all.1)

      gap-made : (i : ℕ) → Made (base p kind f here i) [] (pieces (gap (λ q k. []) (number_token cs) aims p i)) (flat_map new (gap_order (inserts_at aims p i)))
      gap-made i =
          subst (λ es. Made (base p kind f here i) [] es (flat_map new (inserts_at aims p i))) (sym (pieces-numbers root cs new (inserts_at aims p i))) (made-inserts root cs new (base p kind f here i) (inserts_at aims p i) (inserts-of i _ (all_filter (FreeAim cs) (λ a. aims_at_gap p i a.1) aims (frees cs))))

      -- a slot with the range that starts there, and what comes after it
      abbrev filled : Path → SyntaxTree → List ℕ
      filled q t = filled_text new aims q t

      abbrev in_slot : ℕ → SyntaxTree → List (Tree (List ℕ))
      in_slot i t = slot (λ q k. []) (number_token cs) aims (p ++ i ∷ []) (remade (p ++ i ∷ []) t)

      abbrev slot_filled : ℕ → SyntaxTree → List ℕ
      slot_filled i t = cond (is_replaced aims (p ++ i ∷ [])) (flat_map new (replacements_at aims (p ++ i ∷ []))) (filled (p ++ i ∷ []) t)

      record SlotMade (i : ℕ) (t : SyntaxTree) (ts : List SyntaxTree) : Type 0 where
        more_slots : ℕ
        within : more_slots ≤ length ts
        stands : Standing p (suc i) more_slots
        made : Made (base p kind f here i) (text t ++ flat_map text (take more_slots ts)) (pieces (in_slot i t)) (slot_filled i t)

      kept-slot : (i : ℕ) (t : SyntaxTree) (ts : List SyntaxTree) → is_replaced aims (p ++ i ∷ []) ≡ false → Made (base p kind f here i) (text t) (pieces (remade (p ++ i ∷ []) t ∷ [])) (filled (p ++ i ∷ []) t) → SlotMade i t ts
      kept-slot i t ts stays m =
          let q = p ++ i ∷ [] in
          let own : in_slot i t ≡ remade q t ∷ [] = ap (λ b. cond b (flat_map (number_token cs) (replacements_at aims q)) (remade q t ∷ [])) stays in
          let filled_is : slot_filled i t ≡ filled q t = ap (λ b. cond b (flat_map new (replacements_at aims q)) (filled q t)) stays in
          record {
            more_slots = 0;
            within = omega arith;
            stands = λ n c free has j next before.
                let same : i ≡ j = omega (arith, next) in
                true≢false (sym (replaced-by cs n c (p ++ j ∷ []) free before) ∙ ap (λ x. is_replaced aims (p ++ x ∷ [])) (sym same) ∙ stays);
            made = subst (λ s. Made (base p kind f here i) s (pieces (in_slot i t)) (slot_filled i t)) (sym (append-nil (text t))) (subst (λ es. Made (base p kind f here i) (text t) es (slot_filled i t)) (ap pieces (sym own)) (subst (λ s. Made (base p kind f here i) (text t) (pieces (remade q t ∷ [])) s) (sym filled_is) m));
          }

      started-slot : (i : ℕ) (t : SyntaxTree) (ts : List SyntaxTree) → drop i (trees f) ≡ t ∷ ts → is_replaced aims (p ++ i ∷ []) ≡ true → NotOn p i → SlotMade i t ts
      started-slot i t ts rest rep standing =
          let q = p ++ i ∷ [] in
          let found = any-of (FreeAim cs) (λ a. replaces q a.1) aims (frees cs) rep in
          let n = found.0.0 in
          let of = found.1 in
          let c = of.0 in
          let has : Has c q = replaced-target c q (ap (replaces q) (sym of.2) ∙ found.2) in
          let r = run-of root c p i (fit_at root cs fit n c of.1.0) has in
          let inside = has-run c p r i has in
          let earlier : r.first < i → ⊥ = λ less.
          let l = i - 1 in
          let next : i ≡ suc l = omega (arith, less) in
          standing n c of.1 has l next (run-has c p r l (omega (arith, less)) (omega (arith, inside.1, next))) in
          let first : r.first ≡ i = omega (arith, inside.0, earlier) in
          let starts_here : starts_at q (aim c) ≡ true = subst (λ x. starts_at (p ++ x ∷ []) (aim c) ≡ true) first (run-starts root c p r) in
          let alone : replacements_at aims q ≡ n ∷ [] = alone-at cs apart q n c of.1 starts_here in
          let last = some-slot p kind f here (r.first + r.more) r.last_there in
          let far : r.first + r.more < length (trees f) = slice_get_within (trees f) (r.first + r.more) last.0 last.1 in
          let left : length (t ∷ ts) ≡ length (trees f) - i = ap length (sym rest) ∙ length-drop i (trees f) in
          let fits : r.more ≤ length ts = omega (arith, far, left, first) in
          let path : aim_path c ≡ q = r.path_is ∙ ap (λ x. p ++ x ∷ []) first in
          let takes : old_text root c ≡ text t ++ flat_map text (take r.more ts) =
          ap (flat_map (λ x. text (subtree (element_at root x)))) (r.targets_are ∙ ap (λ x. side_by_side p x (suc r.more)) first) ∙ flat_map-map (λ x. text (subtree (element_at root x))) (λ j. p ++ j ∷ []) (counted_from i (suc r.more)) ∙ range-text p kind f here i (suc r.more) (t ∷ ts) rest (omega (arith, fits)) in
          let begins : offset root c ≡ base p kind f here i = replaced-offset c q has ∙ ap (start root.root) path ∙ base-is p kind f here i in
          let own : pieces (in_slot i t) ≡ does root cs new n =
          ap pieces (ap (λ b. cond b (flat_map (number_token cs) (replacements_at aims q)) (remade q t ∷ [])) rep) ∙ pieces-numbers root cs new (replacements_at aims q) ∙ ap (flat_map (does root cs new)) alone ∙ append-nil (does root cs new n) in
          let filled_is : slot_filled i t ≡ new n = ap (λ b. cond b (flat_map new (replacements_at aims q)) (filled q t)) rep ∙ ap (flat_map new) alone ∙ append-nil (new n) in
          record {
            more_slots = r.more;
            within = fits;
            stands = goes-on p n c of.1 r i r.more (omega (arith, first)) (omega (arith, first));
            made = subst (λ es. Made (base p kind f here i) (text t ++ flat_map text (take r.more ts)) es (slot_filled i t)) (sym own) (subst (λ s. Made (base p kind f here i) (text t ++ flat_map text (take r.more ts)) (does root cs new n) s) (sym filled_is) (made-change root cs new n c (base p kind f here i) _ of.1.0 begins takes));
          }

      -- the gap, the slot with its range, and what comes after them
      join : (i : ℕ) (t : SyntaxTree) (g : Forest ℕ) (s : SlotMade i t (trees g)) → drop i (trees f) ≡ t ∷ trees g → ((from : ℕ) → from ≡ base p kind f here (suc i) + length (flat_map text (take s.more_slots (trees g))) → Made from (flat_map text (drop s.more_slots (trees g))) (pieces (remade_from p (suc i) g)) (filled_text_from new aims p (suc i) g)) → Made (base p kind f here i) (flat_map text (t ∷ trees g)) (pieces (remade_from p i (more t g))) (filled_text_from new aims p i (more t g))
      join i t g s rest later =
          let from = base p kind f here i in
          let taken = flat_map text (take s.more_slots (trees g)) in
          let left = flat_map text (drop s.more_slots (trees g)) in
          let gap_there = gap (λ q k. []) (number_token cs) aims p i in
          let gap_text = flat_map new (inserts_at aims p i) in
          let none : from ≡ from + 0 = omega arith in
          let both : Made from (text t ++ taken) (pieces gap_there ++ pieces (in_slot i t)) (gap_text ++ slot_filled i t) = made-seq from [] (text t ++ taken) (pieces gap_there) (pieces (in_slot i t)) gap_text (slot_filled i t) (gap-made i) (subst (λ x. Made x (text t ++ taken) (pieces (in_slot i t)) (slot_filled i t)) none s.made) in
          let next : from + length (text t ++ taken) ≡ base p kind f here (suc i) + length taken = omega (arith, length-append (text t) taken, base-next p kind f here i t (slice_get-drop (trees f) (trees g) i t rest)) in
          let whole = made-seq from (text t ++ taken) left (pieces gap_there ++ pieces (in_slot i t)) (pieces (remade_from p (suc i) g)) (gap_text ++ slot_filled i t) (filled_text_from new aims p (suc i) g) both (later (from + length (text t ++ taken)) next) in
          let old_is : text t ++ taken ++ left ≡ flat_map text (t ∷ trees g) = append_assoc (text t) taken left ∙ ap (λ x. text t ++ x) (sym (flat_map-append text (take s.more_slots (trees g)) (drop s.more_slots (trees g))) ∙ ap (flat_map text) (take-drop s.more_slots (trees g))) in
          let pieces_are : pieces gap_there ++ pieces (in_slot i t) ++ pieces (remade_from p (suc i) g) ≡ pieces (remade_from p i (more t g)) = ap (λ x. x ++ pieces (remade_from p (suc i) g)) (sym (pieces-append root cs new gap_there (in_slot i t))) ∙ sym (pieces-append root cs new (gap_there ++ in_slot i t) (remade_from p (suc i) g)) in
          subst (λ es. Made from (flat_map text (t ∷ trees g)) es (filled_text_from new aims p i (more t g))) pieces_are (subst (λ x. Made from x (pieces gap_there ++ pieces (in_slot i t) ++ pieces (remade_from p (suc i) g)) (filled_text_from new aims p i (more t g))) old_is whole)

      -- a slot in which a range goes on gives nothing
      pass : (i k : ℕ) (t : SyntaxTree) (g : Forest ℕ) → On p i (suc k) → (from : ℕ) (old : List ℕ) → Made from old (pieces (remade_from p (suc i) g)) (filled_text_from new aims p (suc i) g) → Made from old (pieces (remade_from p i (more t g))) (filled_text_from new aims p i (more t g))
      pass i k t g on from old m =
          let q = p ++ i ∷ [] in
          let no_gap : gap (λ q k. []) (number_token cs) aims p i ≡ [] = ap (flat_map (number_token cs)) (on-no-insert p i k on) in
          let no_slot : in_slot i t ≡ [] = ap (λ b. cond b (flat_map (number_token cs) (replacements_at aims q)) (remade q t ∷ [])) (on-replaced p i k on) ∙ ap (flat_map (number_token cs)) (on-no-start p i k on) in
          let no_gap_text : flat_map new (inserts_at aims p i) ≡ [] = ap (flat_map new) (on-no-insert p i k on) in
          let no_slot_text : slot_filled i t ≡ [] = ap (λ b. cond b (flat_map new (replacements_at aims q)) (filled q t)) (on-replaced p i k on) ∙ ap (flat_map new) (on-no-start p i k on) in
          let pieces_are : remade_from p (suc i) g ≡ remade_from p i (more t g) = sym (ap₂ (λ x y. x ++ y ++ remade_from p (suc i) g) no_gap no_slot) in
          let text_is : filled_text_from new aims p (suc i) g ≡ filled_text_from new aims p i (more t g) = sym (ap₂ (λ x y. x ++ y ++ filled_text_from new aims p (suc i) g) no_gap_text no_slot_text) in
          subst (λ s. Made from old (pieces (remade_from p i (more t g))) s) text_is (subst (λ ts. Made from old (pieces ts) (filled_text_from new aims p (suc i) g)) pieces_are m)

    mutual
      made-tree : (p : Path) (t : SyntaxTree) → at root.root p ≡ Some t → Made (start root.root p) (text t) (pieces (remade p t ∷ [])) (filled_text new aims p t)
      made-tree p (Token k s) here = made-none (start root.root p) s
      made-tree p (Node k f) here =
          let first : start root.root p ≡ base p k f here 0 + 0 = omega (arith, start-first k f) in
          subst (λ es. Made (start root.root p) (forest_text f) es (filled_text new aims p (Node k f))) (sym (pieces-node root cs new (remade_from p 0 f))) (subst (λ s. Made (start root.root p) s (pieces (remade_from p 0 f)) (filled_text new aims p (Node k f))) (sym (texts-forest f)) (made-from p k f here 0 f 0 refl (λ n c free has j next before. absurd (omega (arith, next))) (omega arith) (start root.root p) first))

      made-from : (p : Path) (kind : ℕ) (f : Forest ℕ) (here : at root.root p ≡ Some (Node kind f)) (i : ℕ) (g : Forest ℕ) (k : ℕ) → drop i (trees f) ≡ trees g → Standing p i k → k ≤ length (trees g) → (from : ℕ) → from ≡ base p kind f here i + length (flat_map text (take k (trees g))) → Made from (flat_map text (drop k (trees g))) (pieces (remade_from p i g)) (filled_text_from new aims p i g)
      made-from p kind f here i end zero rest stands l from is =
          let same : from ≡ base p kind f here i = omega (arith, is) in
          subst (λ x. Made x [] (pieces (remade_from p i end)) (filled_text_from new aims p i end)) (sym same) (gap-made p kind f here i)
      made-from p kind f here i end (suc k) rest stands l from is = absurd (omega (arith, l))
      made-from p kind f here i (more t g) (suc k) rest stands l from is =
          let step : base p kind f here (suc i) ≡ base p kind f here i + text_length t = base-next p kind f here i t (slice_get-drop (trees f) (trees g) i t rest) in
          let long : length (text t ++ flat_map text (take k (trees g))) ≡ text_length t + length (flat_map text (take k (trees g))) = length-append (text t) (flat_map text (take k (trees g))) in
          pass p kind f here i k t g stands from (flat_map text (drop k (trees g))) (made-from p kind f here (suc i) g k (drop-rest (trees f) (trees g) i t rest) (goes-on p stands.number stands.change stands.free stands.run i k (omega (arith, stands.before)) (omega (arith, stands.long))) (omega (arith, l)) from (omega (arith, is, step, long)))
      made-from p kind f here i (more t g) zero rest stands l from is =
          let same : from ≡ base p kind f here i = omega (arith, is) in
          let there = child-there p kind f here i t (slice_get-drop (trees f) (trees g) i t rest) in
          let inner : Made (base p kind f here i) (text t) (pieces (remade (p ++ i ∷ []) t ∷ [])) (filled_text new aims (p ++ i ∷ []) t) = subst (λ x. Made x (text t) (pieces (remade (p ++ i ∷ []) t ∷ [])) (filled_text new aims (p ++ i ∷ []) t)) (base-is p kind f here i) (made-tree (p ++ i ∷ []) t there) in
          let slot_made : SlotMade p kind f here i t (trees g) = elim (cases_Bool (is_replaced aims (p ++ i ∷ []))) [
            | inl rep ↦ started-slot p kind f here i t (trees g) rest rep stands
            | inr stays ↦ kept-slot p kind f here i t (trees g) stays inner
          ] in
          subst (λ x. Made x (flat_map text (t ∷ trees g)) (pieces (remade_from p i (more t g))) (filled_text_from new aims p i (more t g))) (sym same) (join p kind f here i t g slot_made rest (λ x e. made-from p kind f here (suc i) g slot_made.more_slots (drop-rest (trees f) (trees g) i t rest) slot_made.stands slot_made.within x e))

    -- ---- the whole tree
    made-top : Made 0 (text root.root) (pieces (slot (λ q k. []) (number_token cs) aims [] (remade [] root.root))) (text_filled new aims root.root)
    made-top =
        elim (cases_Bool (is_replaced aims [])) [
          | inl rep ↦
              let found = any-of (FreeAim cs) (λ a. replaces [] a.1) aims (frees cs) rep in
              let n = found.0.0 in
              let of = found.1 in
              let c = of.0 in
              let has : Has c [] = replaced-target c [] (ap (replaces []) (sym of.2) ∙ found.2) in
              let alone : replacements_at aims [] ≡ n ∷ [] = root-alone cs n c apart of.1.0 has in
              let takes = root-takes c has in
              let begins : offset root c ≡ 0 = replaced-offset c [] has ∙ ap (start root.root) takes.0 ∙ start-top root.root in
              let own : pieces (slot (λ q k. []) (number_token cs) aims [] (remade [] root.root)) ≡ does root cs new n =
              ap pieces (ap (λ b. cond b (flat_map (number_token cs) (replacements_at aims [])) (remade [] root.root ∷ [])) rep) ∙ pieces-numbers root cs new (replacements_at aims []) ∙ ap (flat_map (does root cs new)) alone ∙ append-nil (does root cs new n) in
              let filled_is : text_filled new aims root.root ≡ new n = ap (λ b. cond b (flat_map new (replacements_at aims [])) (filled_text new aims [] root.root)) rep ∙ ap (flat_map new) alone ∙ append-nil (new n) in
              subst (λ es. Made 0 (text root.root) es (text_filled new aims root.root)) (sym own) (subst (λ s. Made 0 (text root.root) (does root cs new n) s) (sym filled_is) (made-change root cs new n c 0 (text root.root) of.1.0 begins takes.1))
          | inr stays ↦
              let own : slot (λ q k. []) (number_token cs) aims [] (remade [] root.root) ≡ remade [] root.root ∷ [] = ap (λ b. cond b (flat_map (number_token cs) (replacements_at aims [])) (remade [] root.root ∷ [])) stays in
              let filled_is : text_filled new aims root.root ≡ filled_text new aims [] root.root = ap (λ b. cond b (flat_map new (replacements_at aims [])) (filled_text new aims [] root.root)) stays in
              subst (λ ts. Made 0 (text root.root) (pieces ts) (text_filled new aims root.root)) (sym own) (subst (λ s. Made 0 (text root.root) (pieces (remade [] root.root ∷ [])) s) (sym filled_is) (subst (λ x. Made x (text root.root) (pieces (remade [] root.root ∷ [])) (filled_text new aims [] root.root)) (start-top root.root) (made-tree [] root.root refl)))
        ]

    pub made-whole : root.path ≡ [] → Made 0 (text (subtree root)) (flat_map (does root cs new) (in_text_order root cs)) (text_filled new aims (subtree root))
    made-whole top =
        let same : root.root ≡ subtree root = ap (λ q. unwrap_or (at root.root q) (Token 0 [])) (sym top) in
        subst (λ t. Made 0 (text t) (pieces (slot (λ q k. []) (number_token cs) aims [] (remade [] t))) (text_filled new aims t)) same made-top
