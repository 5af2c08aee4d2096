-- What a path leads to in a table of values by path.
--     cell-push, cell-more        one slot more
--     none-below                    nothing is below a cell that is missing
--     empty-tree                    a table of nothing
--     leads-on, enter-more          what a path leads to stays where steps are added; one slot more then
--     grown                         one cell more, below a cell that had none at this slot
--     grown-on                      more cells, and more again
--     grown-same                    the same steps and values
--     grown-way, grown-cut          with another way, or part of it
--     step-entered                  a step that was there, or is there now
--     entered-step, entered-grown, entered-leads      what entering a cell says of the table
--     cells-same, tree-same, roomy      the same cells, with other values; with the same values, and more room
--     within-at, path-is            a path leads to a cell that there is, which has this path
--     value-set                     a list of values, after one was put in it
--     place-is, place-parts, at-place, grown-places      a path leads to a cell with room, which has the path's value; so it does where there is more
--     put-tree, put-places, entered      a value put at a cell; at the cell of a path
--     places-parted, places-kept    the places of a list: the first and the others; where those that there are stay
use Rattle.std.specs.Prelude.{◌≡◌, ◌≢◌, ℕ, zero, suc, ◌+◌, ◌<◌, ◌≤◌, true, false, ◌&&◌, cond, nat_eq, [], ◌∷◌, ◌++◌, length, List, map, slice_get, slice_set, option_and_then, option_map, unwrap_or, is_some, if◌then◌else◌, Option, Some, None, IfSome, Result, Ok, Err, IfOk, OnErr, Vec, refl}
use Rattle.std.specs.Global.{Global}
use Rattle.std.specs.List.{fold}
use Rattle.std.specs.Map.{lookup}
use Rattle.std.specs.Option.{option_flatten}
use Rattle.std.proofs.Common.{ap, ap₂, sym, subst, ◌∙◌, arith, take, get_or, append_assoc, append-nil}
use Rattle.std.proofs.lemmas.Bool.{cases_Bool, and_parts, and_left, eqb-true, eq-eqb, ne_eqb, true≢false}
use Rattle.std.proofs.lemmas.List.{take_more}
use Rattle.std.proofs.lemmas.List.Sums.{fold-append}
use Rattle.std.proofs.lemmas.Option.{none-some, same_Some, slice_get-get_or, slice_get_within}
use mathlib.Core.Logic.{inl, inr}
use lib.Pointwise.{pointwise_decides}
use Rattle.green_tree.specs.Path.{Path, same_path}
use Rattle.path_table.specs.inner.Steps.{Steps, step, IsEntered, IsWay}
use Rattle.path_table.specs.inner.PathTable.{cell_below, next_cell, cell_further, cell_at, value_in, value_by_path, with_room, place_at, KeepsPlaces, size, IsTree, IsGrown}
use Rattle.path_table.specs.declared.table.PathTable.{PathTable}
use Rattle.path_table.proofs.Ways.{way-more, way-cut}

pub cell-push : {V : Type 0} (t : PathTable V) (o : Option ℕ) (p : Path) (i : ℕ) → cell_further t o (p ++ i ∷ []) ≡ next_cell t (cell_further t o p) i
cell-push t o p i = fold-append (next_cell t) o p (i ∷ [])

pub none-below : {V : Type 0} (t : PathTable V) (p : Path) → fold (next_cell t) None p ≡ None
none-below t [] = refl
none-below t (i ∷ p) = none-below t p

pub cell-more : {V : Type 0} (t : PathTable V) (from : Option ℕ) (p : Path) (k : ℕ) (o : Option ℕ) → k < length p → o ≡ cell_further t from (take k p) → next_cell t o (get_or p k 0) ≡ cell_further t from (take (k + 1) p)
cell-more t from p k o l is =
    ap (λ cell. next_cell t cell (get_or p k 0)) is ∙ sym (ap (cell_further t from) (take_more p k 0 l) ∙ cell-push t from (take k p) (get_or p k 0))

-- ---- a table of nothing
pub empty-tree : {V : Type 0} (t : PathTable V) → t.steps ≡ [] → t.values.items ≡ [] → t.way.items ≡ [] → IsTree t
empty-tree t no_steps no_values no_way =
    let nothing : (n i m : ℕ) → cell_below t n i ≡ Some m → ⊥ = λ n i m h. none-some m (sym (ap (lookup (λ k. nat_eq n k.0 && nat_eq i k.1)) no_steps) ∙ h) in
    record {
      steps = λ n i m h. absurd (nothing n i m h);
      values = λ n x h. absurd (none-some x (sym (ap (λ xs. option_flatten (slice_get xs n)) no_values) ∙ h));
      paths = (λ k. [], refl, λ n i m h. absurd (nothing n i m h));
      way = subst (IsWay t.steps 0) (sym no_way) tt;
    }

-- ---- steps that are added
module _ {V : Type 0} (t u : PathTable V) (steps : (n i m : ℕ) → cell_below t n i ≡ Some m → cell_below u n i ≡ Some m) where
  pub leads-on : (o : Option ℕ) (p : Path) (m : ℕ) → fold (next_cell t) o p ≡ Some m → fold (next_cell u) o p ≡ Some m
  leads-on o [] m h = h
  leads-on None (i ∷ p) m h = absurd (none-some m (sym (none-below t p) ∙ h))
  leads-on (Some n) (i ∷ p) m h = go (cell_below t n i) refl (λ k. leads-on (Some k) p m)
    where
      go : (o : Option ℕ) → cell_below t n i ≡ o → ((k : ℕ) → fold (next_cell t) (Some k) p ≡ Some m → fold (next_cell u) (Some k) p ≡ Some m) → fold (next_cell u) (cell_below u n i) p ≡ Some m
      go None is rest = absurd (none-some m (sym (ap (λ o. fold (next_cell t) o p) is ∙ none-below t p) ∙ h))
      go (Some k) is rest = ap (λ o. fold (next_cell u) o p) (steps n i k is) ∙ rest k (ap (λ o. fold (next_cell t) o p) (sym is) ∙ h)

pub enter-more : {V : Type 0} (t u : PathTable V) (p : Path) (k n m : ℕ) → k < length p → cell_at t (take k p) ≡ Some n → IsGrown t u → cell_below u n (get_or p k 0) ≡ Some m → cell_at u (take (k + 1) p) ≡ Some m
enter-more t u p k n m l leads grown below =
    sym (cell-more u (Some 0) p k (Some n) l (sym (leads-on t u grown.steps (Some 0) (take k p) n leads))) ∙ below

-- ---- one cell more
module _ {V : Type 0} (t u : PathTable V) (n s : ℕ) (tree : IsTree t) (here : n ≤ size t) (free : cell_below t n s ≡ None) (more : size u ≡ size t + 1) (same : u.values.items ≡ t.values.items) (ways : u.way.items ≡ t.way.items) (put : (a i : ℕ) → cell_below u a i ≡ cond (nat_eq n a && nat_eq s i) (Some (size t + 1)) (cell_below t a i)) where
  at-new : (a i : ℕ) → (nat_eq n a && nat_eq s i) ≡ true → cell_below u a i ≡ Some (size t + 1)
  at-new a i new = put a i ∙ ap (λ b. cond b (Some (size t + 1)) (cell_below t a i)) new

  at-old : (a i : ℕ) → (nat_eq n a && nat_eq s i) ≡ false → cell_below u a i ≡ cell_below t a i
  at-old a i old = put a i ∙ ap (λ b. cond b (Some (size t + 1)) (cell_below t a i)) old

  was-free : (a i : ℕ) → (nat_eq n a && nat_eq s i) ≡ true → cell_below t a i ≡ None
  was-free a i new =
      let parts = and_parts (nat_eq n a) (nat_eq s i) new in
      ap (λ b. cell_below t b i) (sym (eqb-true n a parts.0)) ∙ ap (cell_below t n) (sym (eqb-true s i parts.1)) ∙ free

  steps-stay : (a i m : ℕ) → cell_below t a i ≡ Some m → cell_below u a i ≡ Some m
  steps-stay a i m h =
      elim (cases_Bool (nat_eq n a && nat_eq s i)) [
        | inl new ↦ absurd (none-some m (sym (was-free a i new) ∙ h))
        | inr old ↦ at-old a i old ∙ h
      ]

  value-same : (o : Option ℕ) → value_in u o ≡ value_in t o
  value-same None = refl
  value-same (Some a) = ap (λ xs. option_flatten (slice_get xs a)) same

  -- the new cell has no value, and nothing below it
  nothing-below : (i : ℕ) → cell_below u (size t + 1) i ≡ None
  nothing-below i =
      let apart : n ≢ size t + 1 = omega (arith, here) in
      at-old (size t + 1) i (and_left (nat_eq n (size t + 1)) (nat_eq s i) (ne_eqb n (size t + 1) apart)) ∙ go (cell_below t (size t + 1) i) refl
    where
      go : (o : Option ℕ) → cell_below t (size t + 1) i ≡ o → cell_below t (size t + 1) i ≡ None
      go None is = is
      go (Some m) is = absurd (omega (arith, (tree.steps (size t + 1) i m is).0))

  no-value : value_in t (Some (size t + 1)) ≡ None
  no-value = go (value_in t (Some (size t + 1))) refl
    where
      go : (o : Option V) → value_in t (Some (size t + 1)) ≡ o → value_in t (Some (size t + 1)) ≡ None
      go None is = is
      go (Some x) is = absurd (omega (arith, tree.values (size t + 1) x is))

  new-value : (p : Path) → value_in u (fold (next_cell u) (Some (size t + 1)) p) ≡ None
  new-value [] = value-same (Some (size t + 1)) ∙ no-value
  new-value (i ∷ p) = ap (λ o. value_in u (fold (next_cell u) o p)) (nothing-below i) ∙ ap (value_in u) (none-below u p)

  values-stay : (o : Option ℕ) (p : Path) → value_in u (fold (next_cell u) o p) ≡ value_in t (fold (next_cell t) o p)
  values-stay None p = ap (value_in u) (none-below u p) ∙ sym (ap (value_in t) (none-below t p))
  values-stay (Some a) [] = value-same (Some a)
  values-stay (Some a) (i ∷ p) = go (values-stay (cell_below t a i) p)
    where
      go : value_in u (fold (next_cell u) (cell_below t a i) p) ≡ value_in t (fold (next_cell t) (cell_below t a i) p) → value_in u (fold (next_cell u) (cell_below u a i) p) ≡ value_in t (fold (next_cell t) (cell_below t a i) p)
      go rest =
          elim (cases_Bool (nat_eq n a && nat_eq s i)) [
            | inl new ↦ ap (λ o. value_in u (fold (next_cell u) o p)) (at-new a i new) ∙ new-value p ∙ sym (ap (λ o. value_in t (fold (next_cell t) o p)) (was-free a i new) ∙ ap (value_in t) (none-below t p))
            | inr old ↦ ap (λ o. value_in u (fold (next_cell u) o p)) (at-old a i old) ∙ rest
          ]

  steps-more : (a i m : ℕ) → cell_below u a i ≡ Some m → (a ≤ size u) × (m ≤ size u)
  steps-more a i m h =
      elim (cases_Bool (nat_eq n a && nat_eq s i)) [
        | inl new ↦
            let is : n ≡ a = eqb-true n a (and_parts (nat_eq n a) (nat_eq s i) new).0 in
            let last : size t + 1 ≡ m = same_Some (size t + 1) m (sym (at-new a i new) ∙ h) in
            (omega (arith, here, is, more), omega (arith, last, more))
        | inr old ↦
            let before = tree.steps a i m (sym (at-old a i old) ∙ h) in
            (omega (arith, before.0, more), omega (arith, before.1, more))
      ]

  abbrev path-of : ℕ → Path
  path-of k = cond (nat_eq k (size t + 1)) (tree.paths.0 n ++ s ∷ []) (tree.paths.0 k)

  path-before : (k : ℕ) → k ≤ size t → path-of k ≡ tree.paths.0 k
  path-before k l =
      let apart : k ≢ size t + 1 = omega (arith, l) in
      ap (λ b. cond b (tree.paths.0 n ++ s ∷ []) (tree.paths.0 k)) (ne_eqb k (size t + 1) apart)

  path-below : (a i m : ℕ) → cell_below u a i ≡ Some m → path-of m ≡ path-of a ++ i ∷ []
  path-below a i m h =
      elim (cases_Bool (nat_eq n a && nat_eq s i)) [
        | inl new ↦
            let parts = and_parts (nat_eq n a) (nat_eq s i) new in
            let last : size t + 1 ≡ m = same_Some (size t + 1) m (sym (at-new a i new) ∙ h) in
            ap (λ b. cond b (tree.paths.0 n ++ s ∷ []) (tree.paths.0 m)) (eq-eqb m (size t + 1) (sym last)) ∙ ap (λ j. tree.paths.0 n ++ j ∷ []) (eqb-true s i parts.1) ∙ ap (λ p. p ++ i ∷ []) (sym (path-before n here) ∙ ap path-of (eqb-true n a parts.0))
        | inr old ↦
            let was : cell_below t a i ≡ Some m = sym (at-old a i old) ∙ h in
            let before = tree.steps a i m was in
            path-before m before.1 ∙ tree.paths.2 a i m was ∙ ap (λ p. p ++ i ∷ []) (sym (path-before a before.0))
      ]

  pub grown : IsGrown t u
  grown = record {
    steps = steps-stay;
    room = omega (arith, ap length same);
    stay = leads-on t u steps-stay (Some 0);
    values = λ p. values-stay (Some 0) p;
    tree = record {
      steps = steps-more;
      values = λ a x h. let before : a ≤ size t = tree.values a x (sym (value-same (Some a)) ∙ h) in omega (arith, before, more);
      paths = (path-of, path-before 0 (omega arith) ∙ tree.paths.1, path-below);
      way = subst (IsWay u.steps 0) (sym ways) (way-more t.steps u.steps steps-stay 0 t.way.items tree.way);
    };
  }

-- ---- more and more cells
pub grown-on : {V : Type 0} (t u v : PathTable V) → IsGrown t u → IsGrown u v → IsGrown t v
grown-on t u v first second = record {
  steps = λ n i m h. second.steps n i m (first.steps n i m h);
  room = omega (arith, first.room, second.room);
  stay = λ p m h. second.stay p m (first.stay p m h);
  values = λ p. second.values p ∙ first.values p;
  tree = second.tree;
}

-- ---- the same cells and values
module _ {V : Type 0} (t u : PathTable V) (tree : IsTree t) (below : (n i : ℕ) → cell_below u n i ≡ cell_below t n i) (long : size u ≡ size t) (same : u.values.items ≡ t.values.items) (ways : u.way.items ≡ t.way.items) where
  value-kept : (o : Option ℕ) → value_in u o ≡ value_in t o
  value-kept None = refl
  value-kept (Some a) = ap (λ xs. option_flatten (slice_get xs a)) same

  cell-kept : (o : Option ℕ) (p : Path) → cell_further u o p ≡ cell_further t o p
  cell-kept o [] = refl
  cell-kept None (i ∷ p) = cell-kept None p
  cell-kept (Some a) (i ∷ p) = ap (λ o. cell_further u o p) (below a i) ∙ cell-kept (cell_below t a i) p

  pub grown-same : IsGrown t u
  grown-same = record {
    steps = λ n i m h. below n i ∙ h;
    room = omega (arith, ap length same);
    stay = λ p m h. cell-kept (Some 0) p ∙ h;
    values = λ p. value-kept (cell_at u p) ∙ ap (value_in t) (cell-kept (Some 0) p);
    tree = record {
      steps = λ n i m h. let before = tree.steps n i m (sym (below n i) ∙ h) in (omega (arith, before.0, long), omega (arith, before.1, long));
      values = λ n x h. let before : n ≤ size t = tree.values n x (sym (value-kept (Some n)) ∙ h) in omega (arith, before, long);
      paths = (tree.paths.0, tree.paths.1, λ n i m h. tree.paths.2 n i m (sym (below n i) ∙ h));
      way = subst (IsWay u.steps 0) (sym ways) (way-more t.steps u.steps (λ n i m h. below n i ∙ h) 0 t.way.items tree.way);
    };
  }

-- ---- a step that was there, or is there now
pub step-entered : {V : Type 0} (t u : PathTable V) (n s : ℕ) (o : Option ℕ) → IsTree t → n ≤ size t → o ≡ cell_below t n s → size u ≡ size t + (if is_some o then 0 else 1) → u.values.items ≡ t.values.items → u.way.items ≡ t.way.items → ((a i : ℕ) → cell_below u a i ≡ cond (nat_eq n a && nat_eq s i) (Some (unwrap_or o (size t + 1))) (cell_below t a i)) → IsGrown t u
step-entered t u n s None tree here is long same ways put = grown t u n s tree here (sym is) long same ways put
step-entered t u n s (Some m) tree here is long same ways put = grown-same t u tree kept (omega (arith, long)) same ways
  where
    kept : (a i : ℕ) → cell_below u a i ≡ cell_below t a i
    kept a i =
        elim (cases_Bool (nat_eq n a && nat_eq s i)) [
          | inl at ↦ (let parts = and_parts (nat_eq n a) (nat_eq s i) at in put a i ∙ ap (λ b. cond b (Some m) (cell_below t a i)) at ∙ is ∙ ap (λ b. cell_below t b s) (eqb-true n a parts.0) ∙ ap (cell_below t a) (eqb-true s i parts.1))
          | inr other ↦ put a i ∙ ap (λ b. cond b (Some m) (cell_below t a i)) other
        ]

-- ---- what entering a cell says of the table
here-itself : (n s : ℕ) → (nat_eq n n && nat_eq s s) ≡ true
here-itself n s = ap₂ (λ a b. a && b) (eq-eqb n n refl) (eq-eqb s s refl)

pub entered-step : (before after : Steps) (n s m : ℕ) → IsEntered before after n s m → step after n s ≡ Some m
entered-step before after n s m made = made.steps n s ∙ ap (λ b. cond b (Some m) (step before n s)) (here-itself n s)

module _ {V E : Type 0} (t : PathTable V) (after : Steps) (n s : ℕ) where
  pub entered-grown : (r : Result ℕ E) → IsTree t → n ≤ size t → IfOk r (IsEntered t.steps after n s) → OnErr r (after ≡ t.steps) → IsGrown t (record t { steps = after })
  entered-grown (Ok m) tree here made same =
      step-entered t (record t { steps = after }) n s (cell_below t n s) tree here refl made.long refl refl (λ a i. made.steps a i ∙ ap (λ k. cond (nat_eq n a && nat_eq s i) (Some k) (cell_below t a i)) made.made)
  entered-grown (Err e) tree here made same =
      grown-same t (record t { steps = after }) tree (λ a i. ap (λ es. step es a i) same) (ap length same) refl refl

  pub entered-leads : (r : Result ℕ E) → IfOk r (IsEntered t.steps after n s) → IfOk r (λ m. step after n s ≡ Some m)
  entered-leads (Ok m) made = entered-step t.steps after n s m made
  entered-leads (Err e) made = tt

-- ---- the way to what was entered last
pub grown-way : {V : Type 0} (t u : PathTable V) (way : Vec (ℕ × ℕ) Global) → IsGrown t u → IsWay u.steps 0 way.items → IsGrown t (record u { way = way })
grown-way t u way grown is = record {
  steps = grown.steps;
  room = grown.room;
  stay = grown.stay;
  values = grown.values;
  tree = record {
    steps = grown.tree.steps;
    values = grown.tree.values;
    paths = grown.tree.paths;
    way = is;
  };
}

pub grown-cut : {V : Type 0} (t : PathTable V) (k : ℕ) (way : Vec (ℕ × ℕ) Global) → IsTree t → way.items ≡ take k t.way.items → IsGrown t (record t { way = way })
grown-cut t k way tree is =
    grown-way t t way (grown-same t t tree (λ n i. refl) refl refl refl) (subst (IsWay t.steps 0) (sym is) (way-cut t.steps k 0 t.way.items tree.way))

-- ---- no cell more
module _ {V : Type 0} (t u : PathTable V) (tree : IsTree t) (steps : u.steps ≡ t.steps) where
  cells-same : (q : Path) → cell_at u q ≡ cell_at t q
  cells-same q = ap (λ es. fold (λ o i. option_and_then (λ n. lookup (λ k. nat_eq n k.0 && nat_eq i k.1) es) o) (Some 0) q) steps

  below-same : (n i : ℕ) → cell_below u n i ≡ cell_below t n i
  below-same n i = ap (lookup (λ k. nat_eq n k.0 && nat_eq i k.1)) steps

  -- whatever values there are, at cells that there are
  pub tree-same : u.way.items ≡ t.way.items → ((n : ℕ) (x : V) → value_in u (Some n) ≡ Some x → n ≤ size t) → IsTree u
  tree-same ways values =
      let long : size u ≡ size t = ap length steps in
      record {
        steps = λ n i m h. let before = tree.steps n i m (sym (below-same n i) ∙ h) in (omega (arith, before.0, long), omega (arith, before.1, long));
        values = λ n x h. let before = values n x h in omega (arith, before, long);
        paths = (tree.paths.0, tree.paths.1, λ n i m h. tree.paths.2 n i m (sym (below-same n i) ∙ h));
        way = subst (IsWay u.steps 0) (sym ways) (way-more t.steps u.steps (λ n i m h. below-same n i ∙ h) 0 t.way.items tree.way);
      }

  pub roomy : u.way.items ≡ t.way.items → ((cell : Option ℕ) → value_in u cell ≡ value_in t cell) → length t.values.items ≤ length u.values.items → IsGrown t u
  roomy ways same longer = record {
    steps = λ n i m h. below-same n i ∙ h;
    room = longer;
    stay = λ p m h. cells-same p ∙ h;
    values = λ p. same (cell_at u p) ∙ ap (value_in t) (cells-same p);
    tree = tree-same ways (λ n x h. tree.values n x (sym (same (Some n)) ∙ h));
  }

-- ---- a value put in a list of them
pub value-set : {X : Type 0} (xs : List (Option X)) (n k : ℕ) (x : X) → n < length xs → option_flatten (slice_get (slice_set xs n (Some x)) k) ≡ cond (nat_eq n k) (Some x) (option_flatten (slice_get xs k))
value-set {X} xs n k x l =
    elim (cases_Bool (nat_eq n k)) [
      | inl here ↦ ap (λ i. option_flatten (slice_get (slice_set xs n (Some x)) i)) (sym (eqb-true n k here)) ∙ ap option_flatten (set-same xs n l) ∙ sym (ap (λ b. cond b (Some x) (option_flatten (slice_get xs k))) here)
      | inr other ↦ ap option_flatten (set-other xs n k (λ e. true≢false (sym (eq-eqb n k (sym e)) ∙ other))) ∙ sym (ap (λ b. cond b (Some x) (option_flatten (slice_get xs k))) other)
    ]
  where
    set-same : (ys : List (Option X)) (i : ℕ) → i < length ys → slice_get (slice_set ys i (Some x)) i ≡ Some (Some x)
    set-same [] i l = absurd (omega (arith, l))
    set-same (y ∷ ys) zero l = refl
    set-same (y ∷ ys) (suc i) l = set-same ys i (omega (arith, l))

    set-other : (ys : List (Option X)) (i j : ℕ) → j ≢ i → slice_get (slice_set ys i (Some x)) j ≡ slice_get ys j
    set-other [] i j d = refl
    set-other (y ∷ ys) zero zero d = absurd (d refl)
    set-other (y ∷ ys) zero (suc j) d = refl
    set-other (y ∷ ys) (suc i) zero d = refl
    set-other (y ∷ ys) (suc i) (suc j) d = set-other ys i j (λ e. d (ap suc e))

set-room : {X M : Type 0} (m : M) (xs : List X) (n k : ℕ) (x : X) → option_map (λ _. m) (slice_get (slice_set xs n x) k) ≡ option_map (λ _. m) (slice_get xs k)
set-room m [] n k x = refl
set-room m (y ∷ ys) zero zero x = refl
set-room m (y ∷ ys) zero (suc k) x = refl
set-room m (y ∷ ys) (suc n) zero x = refl
set-room m (y ∷ ys) (suc n) (suc k) x = set-room m ys n k x

-- ---- cells with room for a value
module _ {V : Type 0} (t : PathTable V) where
  room-is : (m : ℕ) → m < length t.values.items → with_room t m ≡ Some m
  room-is m l = ap (option_map (λ _. m)) (slice_get-get_or t.values.items m None l)

  pub place-is : (p : Path) (m : ℕ) → cell_at t p ≡ Some m → m < length t.values.items → place_at t p ≡ Some m
  place-is p m leads l = ap (option_and_then (with_room t)) leads ∙ room-is m l

  room-parts : (n m : ℕ) (o : Option (Option V)) → slice_get t.values.items n ≡ o → option_map (λ _. n) o ≡ Some m → (n ≡ m) × (n < length t.values.items)
  room-parts n m None is h = absurd (none-some m h)
  room-parts n m (Some x) is h = (same_Some n m h, slice_get_within t.values.items n x is)

  pub place-parts : (p : Path) (m : ℕ) → place_at t p ≡ Some m → (cell_at t p ≡ Some m) × (m < length t.values.items)
  place-parts p m h = go (cell_at t p) refl
    where
      go : (o : Option ℕ) → cell_at t p ≡ o → (cell_at t p ≡ Some m) × (m < length t.values.items)
      go None is = absurd (none-some m (sym (ap (option_and_then (with_room t)) is) ∙ h))
      go (Some n) is =
          let parts = room-parts n m (slice_get t.values.items n) refl (sym (ap (option_and_then (with_room t)) is) ∙ h) in
          (is ∙ ap (λ k. Some k) parts.0, omega (arith, sym parts.0, parts.1))

  pub at-place : (p : Path) (m : ℕ) → place_at t p ≡ Some m → value_by_path t p ≡ value_in t (Some m)
  at-place p m h = ap (value_in t) (place-parts p m h).0

pub grown-places : {V : Type 0} (t u : PathTable V) → IsGrown t u → KeepsPlaces t u
grown-places t u grown p m h =
    let parts = place-parts t p m h in
    place-is u p m (grown.stay p m parts.0) (omega (arith, parts.1, grown.room))

-- ---- where paths lead
decides : (p q : Path) → (same_path p q ≡ true → p ≡ q) × (p ≡ q → same_path p q ≡ true)
decides = pointwise_decides (λ x y. (eqb-true x y, eq-eqb x y))

module _ {V : Type 0} (t : PathTable V) (tree : IsTree t) where
  cell-within : (o : Option ℕ) (p : Path) (m : ℕ) → IfSome o (λ a. a ≤ size t) → fold (next_cell t) o p ≡ Some m → m ≤ size t
  cell-within None p m w h = absurd (none-some m (sym (none-below t p) ∙ h))
  cell-within (Some a) [] m w h = let is : a ≡ m = same_Some a m h in omega (arith, w, is)
  cell-within (Some a) (i ∷ p) m w h = cell-within (cell_below t a i) p m (there (cell_below t a i) refl) h
    where
      there : (o : Option ℕ) → cell_below t a i ≡ o → IfSome o (λ b. b ≤ size t)
      there None is = tt
      there (Some k) is = (tree.steps a i k is).1

  pub within-at : (p : Path) (m : ℕ) → cell_at t p ≡ Some m → m ≤ size t
  within-at p m h = cell-within (Some 0) p m (omega arith) h

  path-told : (a : ℕ) (p : Path) (m : ℕ) → fold (next_cell t) (Some a) p ≡ Some m → tree.paths.0 m ≡ tree.paths.0 a ++ p
  path-told a [] m h = ap tree.paths.0 (sym (same_Some a m h)) ∙ sym (append-nil (tree.paths.0 a))
  path-told a (i ∷ p) m h = go (cell_below t a i) refl (λ k. path-told k p m)
    where
      go : (o : Option ℕ) → cell_below t a i ≡ o → ((k : ℕ) → fold (next_cell t) (Some k) p ≡ Some m → tree.paths.0 m ≡ tree.paths.0 k ++ p) → tree.paths.0 m ≡ tree.paths.0 a ++ i ∷ p
      go None is rest = absurd (none-some m (sym (ap (λ o. fold (next_cell t) o p) is ∙ none-below t p) ∙ h))
      go (Some k) is rest =
          rest k (ap (λ o. fold (next_cell t) o p) (sym is) ∙ h) ∙ ap (λ q. q ++ p) (tree.paths.2 a i k is) ∙ append_assoc (tree.paths.0 a) (i ∷ []) p

  pub path-is : (p : Path) (m : ℕ) → cell_at t p ≡ Some m → tree.paths.0 m ≡ p
  path-is p m h = path-told 0 p m h ∙ ap (λ q. q ++ p) tree.paths.1

  -- ---- a value put at a cell
  module _ (u : PathTable V) (m : ℕ) (v : V) (there : m < length t.values.items) (steps : u.steps ≡ t.steps) (put : u.values.items ≡ slice_set t.values.items m (Some v)) where
    put-value : (n : ℕ) → value_in u (Some n) ≡ cond (nat_eq m n) (Some v) (value_in t (Some n))
    put-value n = ap (λ xs. option_flatten (slice_get xs n)) put ∙ value-set t.values.items m n v there

    pub put-tree : m ≤ size t → u.way.items ≡ t.way.items → IsTree u
    put-tree here ways = tree-same t u tree steps ways valued
      where
        valued : (n : ℕ) (x : V) → value_in u (Some n) ≡ Some x → n ≤ size t
        valued n x h =
            elim (cases_Bool (nat_eq m n)) [
              | inl at ↦ (let is : m ≡ n = eqb-true m n at in omega (arith, is, here))
              | inr other ↦ tree.values n x (sym (put-value n ∙ ap (λ b. cond b (Some v) (value_in t (Some n))) other) ∙ h)
            ]

    pub put-places : (p : Path) → place_at u p ≡ place_at t p
    put-places p = ap (option_and_then (with_room u)) (cells-same t u tree steps p) ∙ go (cell_at t p)
      where
        go : (o : Option ℕ) → option_and_then (with_room u) o ≡ option_and_then (with_room t) o
        go None = refl
        go (Some n) = ap (λ xs. option_map (λ _. n) (slice_get xs n)) put ∙ set-room n t.values.items m n (Some v)

    -- ---- at the cell of a path
    module _ (p : Path) (leads : cell_at t p ≡ Some m) where
      at-other : (q : Path) → same_path p q ≡ false → value_in u (cell_at t q) ≡ value_in t (cell_at t q)
      at-other q other = go (cell_at t q) refl
        where
          go : (o : Option ℕ) → cell_at t q ≡ o → value_in u o ≡ value_in t o
          go None is = refl
          go (Some k) is =
              let apart : m ≡ k → ⊥ = λ e. true≢false (sym ((decides p q).1 (sym (path-is p m leads) ∙ ap tree.paths.0 e ∙ path-is q k is)) ∙ other) in
              put-value k ∙ ap (λ b. cond b (Some v) (value_in t (Some k))) (ne_eqb m k apart)

      pub entered : (q : Path) → value_by_path u q ≡ cond (same_path p q) (Some v) (value_by_path t q)
      entered q =
          ap (value_in u) (cells-same t u tree steps q) ∙ (elim (cases_Bool (same_path p q)) [
            | inl here ↦ ap (value_in u) (ap (cell_at t) (sym ((decides p q).0 here)) ∙ leads) ∙ put-value m ∙ ap (λ b. cond b (Some v) (value_in t (Some m))) (eq-eqb m m refl) ∙ sym (ap (λ b. cond b (Some v) (value_by_path t q)) here)
            | inr other ↦ at-other q other ∙ sym (ap (λ b. cond b (Some v) (value_by_path t q)) other)
          ])

-- ---- places of a list
pub places-parted : {X : Type 0} (f : X → Option ℕ) (n : ℕ) (ns : List ℕ) (x : X) (xs : List X) → map (λ k. Some k) (n ∷ ns) ≡ map f (x ∷ xs) → (f x ≡ Some n) × (map (λ k. Some k) ns ≡ map f xs)
places-parted f n ns x xs is =
    let first : f x ≡ Some n = cc in
    let rest : map (λ k. Some k) ns ≡ map f xs = cc in
    (first, rest)

pub places-kept : {X : Type 0} (f g : X → Option ℕ) → ((x : X) (n : ℕ) → f x ≡ Some n → g x ≡ Some n) → (ns : List ℕ) (xs : List X) → map (λ k. Some k) ns ≡ map f xs → map (λ k. Some k) ns ≡ map g xs
places-kept f g keep [] [] is = refl
places-kept f g keep [] (x ∷ xs) is = cc
places-kept f g keep (n ∷ ns) [] is = cc
places-kept f g keep (n ∷ ns) (x ∷ xs) is =
    let parts = places-parted f n ns x xs is in
    ap₂ (λ y ys. y ∷ ys) (sym (keep x n parts.0)) (places-kept f g keep ns xs parts.1)
