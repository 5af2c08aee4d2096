-- The nodes to which steps came: ways down, one node more, and one that holds more.
--     none_below, leads_more         nothing is below what is missing; one slot further
--     one_path, number_within        a number is that of one path; and that of a node
--     read, set_here, set_other, set_same, pushed      what is told of an item: of one that was read, exchanged, or put at the end
--     top_alone                      the top alone
--     same_numbers, same_held, same_visited      what stays where no node comes to be below another one, and none holds more
--     node_holds                     what the node at a path holds, by its number
--     Enters, entered_leads, entered_same, entered_visited      one node more, below another one
--     put_at                         one node holds one change more
--     IsExchanged, exchanged, exchanged_pushed      a node was exchanged in code; with one more
--     kept_held, kept_numbers, kept_visited, put_in      for one that holds the same; that holds one change more
--     leads_before, same_before, visited_before, enters      for one that has a node in a slot, which it had before; or which is the next one
use Rattle.std.specs.Prelude.{◌≡◌, ◌≢◌, ℕ, zero, suc, ◌+◌, ◌<◌, ◌≤◌, true, false, ◌&&◌, cond, nat_eq, List, [], ◌∷◌, ◌++◌, length, slice_get, slice_set, Option, Some, None, unwrap_or, option_and_then, refl}
use Rattle.std.specs.Option.{option_map_or}
use Rattle.std.proofs.Common.{ap, sym, subst, ◌∙◌, arith, get_or}
use Rattle.std.proofs.lemmas.Bool.{cases_Bool, cases_eq, and_parts, and_left, eqb-true, eq-eqb, ne_eqb}
use Rattle.std.proofs.lemmas.List.{append-nil, append_assoc, length-append, length-set}
use Rattle.std.proofs.lemmas.List.Sums.{fold-append}
use Rattle.std.proofs.lemmas.Option.{none-some, same_Some, slice_get-get_or, slice_get_past}
use mathlib.Core.Logic.{inl, inr}
use mathlib.Core.Path.{fun_ext}
use Rattle.green_tree.specs.Path.{Path}
use Rattle.edit_steps.specs.declared.stage.among.Among.{Among}
use Rattle.edit_steps.specs.declared.stage.visited.VisitedNodes.{VisitedNodes}
use Rattle.edit_steps.specs.inner.Widths.{Held, nothing_put, VisitedNode, held_of, IsPut}
use Rattle.edit_steps.specs.inner.Visited.{held_in, below_at, links, below_in, leads, number_at, held_at, SameHeld, IsVisited, IsEntered, PutsAt}

-- ---- ways
module _ (below : ℕ → ℕ → Option ℕ) where
  pub none_below : (p : Path) → leads below None p ≡ None
  none_below [] = refl
  none_below (i ∷ p) = none_below p

  pub leads_more : (o : Option ℕ) (p : Path) (i : ℕ) → leads below o (p ++ i ∷ []) ≡ option_and_then (λ n. below n i) (leads below o p)
  leads_more o p i = fold-append (λ m j. option_and_then (λ n. below n j) m) o p (i ∷ [])

  path_led : (path_of : ℕ → Path) → ((n i m : ℕ) → below n i ≡ Some m → path_of m ≡ path_of n ++ i ∷ []) → (n : ℕ) (p : Path) (m : ℕ) → leads below (Some n) p ≡ Some m → path_of m ≡ path_of n ++ p
  path_led path_of steps n [] m h = ap path_of (sym (same_Some n m h)) ∙ sym (append-nil (path_of n))
  path_led path_of steps n (i ∷ p) m h = go (below n i) refl h (λ k. path_led path_of steps k p m)
    where
      go : (o : Option ℕ) → below n i ≡ o → leads below o p ≡ Some m → ((k : ℕ) → leads below (Some k) p ≡ Some m → path_of m ≡ path_of k ++ p) → path_of m ≡ path_of n ++ i ∷ p
      go None is had rest = absurd (none-some m (sym (none_below p) ∙ had))
      go (Some k) is had rest = rest k had ∙ ap (λ q. q ++ p) (steps n i k is) ∙ append_assoc (path_of n) (i ∷ []) p

  led_within : (size : ℕ) → ((n i m : ℕ) → below n i ≡ Some m → m < size) → (n : ℕ) (p : Path) (m : ℕ) → n < size → leads below (Some n) p ≡ Some m → m < size
  led_within size within n [] m l h = omega (arith, l, same_Some n m h)
  led_within size within n (i ∷ p) m l h = go (below n i) refl h (λ k. led_within size within k p m)
    where
      go : (o : Option ℕ) → below n i ≡ o → leads below o p ≡ Some m → ((k : ℕ) → k < size → leads below (Some k) p ≡ Some m → m < size) → m < size
      go None is had rest = absurd (none-some m (sym (none_below p) ∙ had))
      go (Some k) is had rest = rest k (within n i k is) had

module _ (v : VisitedNodes) (visited : IsVisited v) where
  pub one_path : (p q : Path) (n : ℕ) → number_at v p ≡ Some n → number_at v q ≡ Some n → p ≡ q
  one_path p q n here there =
      let of = visited.paths in
      let led : (r : Path) → number_at v r ≡ Some n → of.0 n ≡ r = λ r h. path_led (below_in v) of.0 of.2 0 r n h ∙ ap (λ s. s ++ r) of.1 in
      sym (led p here) ∙ led q there

  pub number_within : (p : Path) (n : ℕ) → number_at v p ≡ Some n → n < length v.nodes.items
  number_within p n h = led_within (below_in v) (length v.nodes.items) visited.within 0 p n visited.top h

-- ---- items of a list
module _ {X B : Type 0} (f : X → B) (d : B) where
  abbrev pub told : List X → ℕ → B
  told xs k = option_map_or f (slice_get xs k) d

  pub read : (xs : List X) (n : ℕ) (x : X) → n < length xs → x ≡ get_or xs n x → told xs n ≡ f x
  read xs n x l is = ap (λ o. option_map_or f o d) (slice_get-get_or xs n x l ∙ ap (λ y. Some y) (sym is))

  pub set_here : (xs : List X) (n : ℕ) (x : X) → n < length xs → told (slice_set xs n x) n ≡ f x
  set_here [] n x l = absurd (omega (arith, l))
  set_here (y ∷ xs) zero x l = refl
  set_here (y ∷ xs) (suc n) x l = set_here xs n x (omega (arith, l))

  pub set_other : (xs : List X) (n k : ℕ) (x : X) → k ≢ n → told (slice_set xs n x) k ≡ told xs k
  set_other [] n k x other = refl
  set_other (y ∷ xs) zero zero x other = absurd (other refl)
  set_other (y ∷ xs) zero (suc k) x other = refl
  set_other (y ∷ xs) (suc n) zero x other = refl
  set_other (y ∷ xs) (suc n) (suc k) x other = set_other xs n k x (λ e. other (ap suc e))

  pub set_same : (xs : List X) (n : ℕ) (x y : X) → n < length xs → y ≡ get_or xs n y → f x ≡ f y → (k : ℕ) → told (slice_set xs n x) k ≡ told xs k
  set_same xs n x y l is same k =
      elim (cases_eq k n) [
        | inl here ↦ ap (told (slice_set xs n x)) here ∙ set_here xs n x l ∙ same ∙ sym (read xs n y l is) ∙ ap (told xs) (sym here)
        | inr other ↦ set_other xs n k x other
      ]

  pub pushed : (xs : List X) (x : X) → f x ≡ d → (k : ℕ) → told (xs ++ x ∷ []) k ≡ told xs k
  pushed [] x none zero = none
  pushed [] x none (suc k) = refl
  pushed (y ∷ xs) x none zero = refl
  pushed (y ∷ xs) x none (suc k) = pushed xs x none k

-- ---- the top alone
pub top_alone : (v : VisitedNodes) (z : VisitedNode) → v.nodes.items ≡ z ∷ [] → z.below ≡ [] → IsVisited v
top_alone v z is empty = record {
  top = let one = ap length is in omega (arith, one);
  within = λ n i m there. absurd (none-some m (sym (none n i) ∙ there));
  paths = ((λ n. []), refl, λ n i m there. absurd (none-some m (sym (none n i) ∙ there)));
}
  where
    none : (n i : ℕ) → below_in v n i ≡ None
    none zero i = ap (λ xs. below_at (told (λ y. y.below) [] xs zero) i) is ∙ ap (λ ls. below_at ls i) empty
    none (suc n) i = ap (λ xs. below_at (told (λ y. y.below) [] xs (suc n)) i) is

-- ---- nothing else is below a node, and none holds more
module _ (old new : VisitedNodes) (below : (n i : ℕ) → below_in new n i ≡ below_in old n i) where
  all_below : below_in new ≡ below_in old
  all_below = fun_ext (λ n. fun_ext (λ i. below n i))

  pub same_numbers : (p : Path) → number_at new p ≡ number_at old p
  same_numbers p = ap (λ b. leads b (Some 0) p) all_below

  pub same_held : ((n : ℕ) → held_in new n ≡ held_in old n) → SameHeld old new
  same_held held p = ap (λ o. option_map_or (held_in new) o nothing_put) (same_numbers p) ∙ from (number_at old p)
    where
      from : (o : Option ℕ) → option_map_or (held_in new) o nothing_put ≡ option_map_or (held_in old) o nothing_put
      from None = refl
      from (Some n) = held n

  pub same_visited : length old.nodes.items ≤ length new.nodes.items → IsVisited old → IsVisited new
  same_visited longer h = record {
    top = omega (arith, longer, h.top);
    within = λ n i m there. omega (arith, longer, h.within n i m (sym (below n i) ∙ there));
    paths = (h.paths.0, h.paths.1, λ n i m there. h.paths.2 n i m (sym (below n i) ∙ there));
  }

pub node_holds : (old new : VisitedNodes) → SameHeld old new → (p : Path) (n : ℕ) → number_at new p ≡ Some n → held_in new n ≡ held_at old p
node_holds old new same p n there = sym (ap (λ o. option_map_or (held_in new) o nothing_put) there) ∙ same p

-- ---- one node more, below another one
pub record Enters (old new : VisitedNodes) (n s m : ℕ) : Type 0 where
  pub last : m ≡ length old.nodes.items
  pub longer : length new.nodes.items ≡ m + 1
  pub free : below_in old n s ≡ None
  pub below : (a i : ℕ) → below_in new a i ≡ cond (nat_eq n a && nat_eq s i) (Some m) (below_in old a i)
  pub held : (a : ℕ) → held_in new a ≡ held_in old a
  pub empty : (i : ℕ) → below_in old m i ≡ None
  pub nothing : held_in old m ≡ nothing_put

module _ (old new : VisitedNodes) (n s m : ℕ) (h : Enters old new n s m) (within : n < length old.nodes.items) where
  at_new : (a i : ℕ) → (nat_eq n a && nat_eq s i) ≡ true → below_in new a i ≡ Some m
  at_new a i is = h.below a i ∙ ap (λ b. cond b (Some m) (below_in old a i)) is

  at_old : (a i : ℕ) → (nat_eq n a && nat_eq s i) ≡ false → below_in new a i ≡ below_in old a i
  at_old a i is = h.below a i ∙ ap (λ b. cond b (Some m) (below_in old a i)) is

  was_free : (a i : ℕ) → (nat_eq n a && nat_eq s i) ≡ true → below_in old a i ≡ None
  was_free a i is =
      let parts = and_parts (nat_eq n a) (nat_eq s i) is in
      ap (λ b. below_in old b i) (sym (eqb-true n a parts.0)) ∙ ap (below_in old n) (sym (eqb-true s i parts.1)) ∙ h.free

  apart : n ≢ m
  apart = omega (arith, within, h.last)

  nothing_below : (i : ℕ) → below_in new m i ≡ None
  nothing_below i = at_old m i (and_left (nat_eq n m) (nat_eq s i) (ne_eqb n m apart)) ∙ h.empty i

  abbrev held_from : VisitedNodes → Option ℕ → Path → Held
  held_from v o p = option_map_or (held_in v) (leads (below_in v) o p) nothing_put

  nothing_new : (p : Path) → held_from new (Some m) p ≡ nothing_put
  nothing_new [] = h.held m ∙ h.nothing
  nothing_new (j ∷ p) = ap (λ o. held_from new o p) (nothing_below j) ∙ ap (λ o. option_map_or (held_in new) o nothing_put) (none_below (below_in new) p)

  none_held : (v : VisitedNodes) (p : Path) → held_from v None p ≡ nothing_put
  none_held v p = ap (λ o. option_map_or (held_in v) o nothing_put) (none_below (below_in v) p)

  held_stays : (o : Option ℕ) (p : Path) → held_from new o p ≡ held_from old o p
  held_stays None p = none_held new p ∙ sym (none_held old p)
  held_stays (Some a) [] = h.held a
  held_stays (Some a) (i ∷ p) = go (held_stays (below_in old a i) p)
    where
      go : held_from new (below_in old a i) p ≡ held_from old (below_in old a i) p → held_from new (below_in new a i) p ≡ held_from old (below_in old a i) p
      go rest =
          elim (cases_Bool (nat_eq n a && nat_eq s i)) [
            | inl is ↦ ap (λ o. held_from new o p) (at_new a i is) ∙ nothing_new p ∙ sym (ap (λ o. held_from old o p) (was_free a i is) ∙ none_held old p)
            | inr is ↦ ap (λ o. held_from new o p) (at_old a i is) ∙ rest
          ]

  pub entered_same : SameHeld old new
  entered_same p = held_stays (Some 0) p

  leads_on : (o : Option ℕ) (p : Path) (x : ℕ) → leads (below_in old) o p ≡ Some x → leads (below_in new) o p ≡ Some x
  leads_on None p x there = absurd (none-some x (sym (none_below (below_in old) p) ∙ there))
  leads_on (Some a) [] x there = there
  leads_on (Some a) (i ∷ p) x there =
      elim (cases_Bool (nat_eq n a && nat_eq s i)) [
        | inl is ↦ absurd (none-some x (sym (ap (λ o. leads (below_in old) o p) (was_free a i is) ∙ none_below (below_in old) p) ∙ there))
        | inr is ↦ ap (λ o. leads (below_in new) o p) (at_old a i is) ∙ leads_on (below_in old a i) p x there
      ]

  pub entered_leads : (p : Path) → number_at old p ≡ Some n → number_at new (p ++ s ∷ []) ≡ Some m
  entered_leads p there =
      leads_more (below_in new) (Some 0) p s ∙ ap (λ o. option_and_then (λ a. below_in new a s) o) (leads_on (Some 0) p n there) ∙ at_new n s (ap (λ b. b && nat_eq s s) (eq-eqb n n refl) ∙ eq-eqb s s refl)

  pub entered_visited : IsVisited old → IsVisited new
  entered_visited was = record {
    top = omega (arith, h.longer);
    within = λ a i x there. elim (cases_Bool (nat_eq n a && nat_eq s i)) [
      | inl is ↦ let same = same_Some m x (sym (at_new a i is) ∙ there) in omega (arith, h.longer, same)
      | inr is ↦ let less = was.within a i x (sym (at_old a i is) ∙ there) in omega (arith, h.longer, h.last, less)
    ];
    paths = (path_of, of_top, of_below);
  }
    where
      path_of : ℕ → Path
      path_of k = cond (nat_eq k m) (was.paths.0 n ++ s ∷ []) (was.paths.0 k)

      of_new : path_of m ≡ was.paths.0 n ++ s ∷ []
      of_new = ap (λ b. cond b (was.paths.0 n ++ s ∷ []) (was.paths.0 m)) (eq-eqb m m refl)

      of_old : (k : ℕ) → k ≢ m → path_of k ≡ was.paths.0 k
      of_old k other = ap (λ b. cond b (was.paths.0 n ++ s ∷ []) (was.paths.0 k)) (ne_eqb k m other)

      of_top : path_of 0 ≡ []
      of_top = of_old 0 (let top = was.top in omega (arith, h.last, top)) ∙ was.paths.1

      of_below : (a i x : ℕ) → below_in new a i ≡ Some x → path_of x ≡ path_of a ++ i ∷ []
      of_below a i x there =
          elim (cases_Bool (nat_eq n a && nat_eq s i)) [
            | inl is ↦
                let parts = and_parts (nat_eq n a) (nat_eq s i) is in
                let node = eqb-true n a parts.0 in
                let slot = eqb-true s i parts.1 in
                ap path_of (sym (same_Some m x (sym (at_new a i is) ∙ there))) ∙ of_new ∙ ap (λ q. q ++ s ∷ []) (sym (of_old n apart) ∙ ap path_of node) ∙ ap (λ j. path_of a ++ j ∷ []) slot
            | inr is ↦
                let was_there = sym (at_old a i is) ∙ there in
                let less = was.within a i x was_there in
                of_old x (omega (arith, h.last, less)) ∙ was.paths.2 a i x was_there ∙ ap (λ q. q ++ i ∷ []) (sym (of_old a (λ same. none-some x (sym (ap (λ b. below_in old b i) same ∙ h.empty i) ∙ was_there))))
          ]

-- ---- one node holds one change more
pub put_at : (old new : VisitedNodes) → IsVisited old → (n : ℕ) (at : Among) (w : ℕ) → ((a i : ℕ) → below_in new a i ≡ below_in old a i) → ((a : ℕ) → a ≢ n → held_in new a ≡ held_in old a) → IsPut (held_in old n) (held_in new n) at w → (p : Path) → number_at old p ≡ Some n → PutsAt old new p at w
put_at old new visited n at w below others here p there = record {
  here =
      let was : held_at old p ≡ held_in old n = ap (λ o. option_map_or (held_in old) o nothing_put) there in
      let now : held_at new p ≡ held_in new n = ap (λ o. option_map_or (held_in new) o nothing_put) (same_numbers old new below p ∙ there) in
      subst (λ x. IsPut x (held_at new p) at w) (sym was) (subst (λ y. IsPut (held_in old n) y at w) (sym now) here);
  others = λ q other. ap (λ o. option_map_or (held_in new) o nothing_put) (same_numbers old new below q) ∙ from q other (number_at old q) refl;
}
  where
    from : (q : Path) → q ≢ p → (o : Option ℕ) → number_at old q ≡ o → option_map_or (held_in new) o nothing_put ≡ option_map_or (held_in old) o nothing_put
    from q other None is = refl
    from q other (Some k) is = others k (λ same. other (one_path old visited q p n (is ∙ ap (λ j. Some j) same) there))

-- ---- a node that was exchanged, in code
pub record IsExchanged (v new : VisitedNodes) (n : ℕ) (y : VisitedNode) : Type 0 where
  pub links : (a : ℕ) → links new a ≡ told (λ z. z.below) [] (slice_set v.nodes.items n y) a
  pub held : (a : ℕ) → held_in new a ≡ told held_of nothing_put (slice_set v.nodes.items n y) a
  pub longer : length v.nodes.items ≤ length new.nodes.items

pub exchanged : (v new : VisitedNodes) (n : ℕ) (y : VisitedNode) → new.nodes.items ≡ slice_set v.nodes.items n y → IsExchanged v new n y
exchanged v new n y is = record {
  links = λ a. ap (λ xs. told (λ z. z.below) [] xs a) is;
  held = λ a. ap (λ xs. told held_of nothing_put xs a) is;
  longer = let long = ap length is ∙ length-set v.nodes.items n y in omega (arith, long);
}

-- with one more that holds nothing
pub exchanged_pushed : (v new : VisitedNodes) (n : ℕ) (y z : VisitedNode) → new.nodes.items ≡ slice_set v.nodes.items n y ++ z ∷ [] → held_of z ≡ nothing_put → z.below ≡ [] → IsExchanged v new n y
exchanged_pushed v new n y z is none empty = record {
  links = λ a. ap (λ xs. told (λ z. z.below) [] xs a) is ∙ pushed (λ z. z.below) [] (slice_set v.nodes.items n y) z empty a;
  held = λ a. ap (λ xs. told held_of nothing_put xs a) is ∙ pushed held_of nothing_put (slice_set v.nodes.items n y) z none a;
  longer = let long = ap length is ∙ length-append (slice_set v.nodes.items n y) (z ∷ []) in let same = length-set v.nodes.items n y in omega (arith, long, same);
}

module _ (v : VisitedNodes) (n : ℕ) (within : n < length v.nodes.items) (x y : VisitedNode) (is : x ≡ get_or v.nodes.items n x) (new : VisitedNodes) (ex : IsExchanged v new n y) where
  exchanged_held : held_of y ≡ held_of x → (a : ℕ) → held_in new a ≡ held_in v a
  exchanged_held same a = ex.held a ∙ set_same held_of nothing_put v.nodes.items n y x within is same a

  below_here : (i : ℕ) → below_in v n i ≡ below_at x.below i
  below_here i = ap (λ ls. below_at ls i) (read (λ z. z.below) [] v.nodes.items n x within is)

  pub exchanged_below : ((i : ℕ) → below_at y.below i ≡ below_at x.below i) → (a i : ℕ) → below_in new a i ≡ below_in v a i
  exchanged_below same a i =
      ap (λ ls. below_at ls i) (ex.links a) ∙ (elim (cases_eq a n) [
        | inl here ↦ ap (λ b. below_at (told (λ z. z.below) [] (slice_set v.nodes.items n y) b) i) here ∙ ap (λ ls. below_at ls i) (set_here (λ z. z.below) [] v.nodes.items n y within) ∙ same i ∙ sym (below_here i) ∙ ap (λ b. below_in v b i) (sym here)
        | inr other ↦ ap (λ ls. below_at ls i) (set_other (λ z. z.below) [] v.nodes.items n a y other)
      ])

  -- it holds the same, and the same is below it
  module _ (held : held_of y ≡ held_of x) (below : (i : ℕ) → below_at y.below i ≡ below_at x.below i) where
    pub kept_held : SameHeld v new
    kept_held = same_held v new (exchanged_below below) (exchanged_held held)

    pub kept_numbers : (p : Path) → number_at new p ≡ number_at v p
    kept_numbers = same_numbers v new (exchanged_below below)

    pub kept_visited : IsVisited v → IsVisited new
    kept_visited visited = same_visited v new (exchanged_below below) ex.longer visited

  -- it holds one change more
  pub put_in : IsVisited v → (at : Among) (w : ℕ) → IsPut (held_of x) (held_of y) at w → y.below ≡ x.below → (p : Path) → number_at v p ≡ Some n → PutsAt v new p at w
  put_in visited at w put same p there =
      put_at v new visited n at w (exchanged_below (λ i. ap (λ ls. below_at ls i) same)) (λ a other. ex.held a ∙ set_other held_of nothing_put v.nodes.items n a y other) (subst (λ h. IsPut h (held_in new n) at w) (sym (read held_of nothing_put v.nodes.items n x within is)) (subst (λ h. IsPut (held_of x) h at w) (sym (ex.held n ∙ set_here held_of nothing_put v.nodes.items n y within)) put)) p there

  module _ (s m : ℕ) (e : IsEntered x y s (length v.nodes.items) m) where
    below_new : (a i : ℕ) → below_in new a i ≡ cond (nat_eq n a && nat_eq s i) (Some m) (below_in v a i)
    below_new a i =
        ap (λ ls. below_at ls i) (ex.links a) ∙ (elim (cases_eq a n) [
          | inl here ↦
              ap (λ b. below_at (told (λ z. z.below) [] (slice_set v.nodes.items n y) b) i) here
              ∙ ap (λ ls. below_at ls i) (set_here (λ z. z.below) [] v.nodes.items n y within)
              ∙ e.below i
              ∙ ap (λ o. cond (nat_eq s i) (Some m) o) (sym (below_here i) ∙ ap (λ b. below_in v b i) (sym here))
              ∙ ap (λ b. cond (b && nat_eq s i) (Some m) (below_in v a i)) (sym (eq-eqb n a (sym here)))
          | inr other ↦
              ap (λ ls. below_at ls i) (set_other (λ z. z.below) [] v.nodes.items n a y other)
              ∙ ap (λ b. cond (b && nat_eq s i) (Some m) (below_in v a i)) (sym (ne_eqb n a (λ same. other (sym same))))
        ])

    -- it was there already
    there_before : (m ≡ length v.nodes.items → ⊥) → below_in v n s ≡ Some m
    there_before other = below_here s ∙ go (below_at x.below s) e.number
      where
        go : (o : Option ℕ) → m ≡ unwrap_or o (length v.nodes.items) → o ≡ Some m
        go None number = absurd (other number)
        go (Some k) number = ap (λ j. Some j) (sym number)

    entered_before : (m ≡ length v.nodes.items → ⊥) → (a i : ℕ) → below_in new a i ≡ below_in v a i
    entered_before other a i =
        elim (cases_Bool (nat_eq n a && nat_eq s i)) [
          | inl at ↦
              let parts = and_parts (nat_eq n a) (nat_eq s i) at in
              below_new a i ∙ ap (λ b. cond b (Some m) (below_in v a i)) at ∙ sym (there_before other) ∙ ap (λ b. below_in v b s) (eqb-true n a parts.0) ∙ ap (below_in v a) (eqb-true s i parts.1)
          | inr at ↦ below_new a i ∙ ap (λ b. cond b (Some m) (below_in v a i)) at
        ]

    pub leads_before : (m ≡ length v.nodes.items → ⊥) → (p : Path) → number_at v p ≡ Some n → number_at new (p ++ s ∷ []) ≡ Some m
    leads_before other p there =
        same_numbers v new (entered_before other) (p ++ s ∷ []) ∙ leads_more (below_in v) (Some 0) p s ∙ ap (λ o. option_and_then (λ a. below_in v a s) o) there ∙ there_before other

    pub same_before : (m ≡ length v.nodes.items → ⊥) → SameHeld v new
    same_before other = same_held v new (entered_before other) (exchanged_held e.held)

    pub visited_before : (m ≡ length v.nodes.items → ⊥) → IsVisited v → IsVisited new
    visited_before other visited = same_visited v new (entered_before other) ex.longer visited

    -- it is the next one
    pub enters : IsVisited v → m ≡ length v.nodes.items → length new.nodes.items ≡ m + 1 → Enters v new n s m
    enters visited last longer = record {
      last = last;
      longer = longer;
      free = free (below_in v n s) refl;
      below = below_new;
      held = exchanged_held e.held;
      empty = λ i. ap (λ ls. below_at ls i) (past (λ z. z.below) []);
      nothing = past held_of nothing_put;
    }
      where
        free : (o : Option ℕ) → below_in v n s ≡ o → o ≡ None
        free None at = refl
        free (Some k) at =
            let less = visited.within n s k at in
            let same : m ≡ k = e.number ∙ ap (λ o. unwrap_or o (length v.nodes.items)) (sym (below_here s) ∙ at) in
            absurd (omega (arith, last, less, same))

        past : {B : Type 0} (f : VisitedNode → B) (d : B) → told f d v.nodes.items m ≡ d
        past f d = ap (λ o. option_map_or f o d) (slice_get_past v.nodes.items m (omega (arith, last)))
