-- Elements put into a node, or into a child of it.
--     no-token                       a token has no children to put them among
--     held_below                     what nodes hold, by their paths from one of them on
--     AtEnd, at-end                  at the end of the way what is replaced is there
--     Further, further               before it the child is there, and they can be put into it
--     way_here, held_next            one slot further on a path
use Rattle.std.specs.Prelude.{◌≡◌, ◌<◌, ◌≤◌, ◌+◌, ℕ, List, [], ◌∷◌, ◌++◌, take, drop, length, slice_get, Option, Some, None, option_and_then, refl}
use Rattle.std.proofs.Common.{ap, sym, subst, ◌∙◌, arith, get_or, add-one, drop-cons}
use Rattle.std.proofs.lemmas.List.{append-nil, append_assoc, take_more}
use Rattle.std.proofs.lemmas.Option.{same_Some, slice_get_within}
use mathlib.Core.Path.{fun_ext}
use Rattle.green_tree.specs.Path.{Path}
use Rattle.green_tree.specs.Tree.{Forest, Token, Node, SyntaxTree, node, forest, trees, at}
use Rattle.green_tree.proofs.Lookup.{trees-forest}
use Rattle.edit_steps.specs.declared.stage.among.Among.{Among}
use Rattle.edit_steps.specs.declared.stage.among.Among.TheVariants.{Slots}
use Rattle.edit_steps.specs.inner.Widths.{Held, index_of, count_of, start}
use Rattle.edit_steps.specs.inner.Putting.{current_path, CanPut}

pub no-token : (k : ℕ) (s : List ℕ) (p : Path) (l : ℕ) (f : Forest ℕ) → at (Token k s) p ≡ Some (Node l f) → ⊥
no-token k s [] l f h = cc
no-token k s (i ∷ p) l f h = cc

abbrev pub held_below : (Path → Held) → Path → Path → Held
held_below held p q = held (p ++ q)

-- ---- at the end of the way
module _ (k : ℕ) (ts : List SyntaxTree) (held : Path → Held) (a : Among) where
  pub record AtEnd (h : Held) : Type 0 where
    pub room : start h a + count_of a ≤ length ts
    pub wide : h.widths (index_of a) ≤ length ts + 1

  end-here : CanPut (node k ts) held [] a → AtEnd (held [])
  end-here can =
      let same : Node k (forest ts) ≡ Node can.there.kind can.there.below = same_Some (Node k (forest ts)) (Node can.there.kind can.there.below) can.there.there in
      let children : forest ts ≡ can.there.below = cc in
      let long : length (trees can.there.below) ≡ length ts = ap (λ f. length (trees f)) (sym children) ∙ ap length (trees-forest ts) in
      record { room = omega (arith, can.there.within); wide = omega (arith, can.wide) }

  -- ---- before it
  module _ (i : ℕ) (r : Path) where
    abbrev inner : Path → Held
    inner q = held (i ∷ q)

    pub record Further (h : Held) (next : Path → Held) : Type 0 where
      pub inside : start h (Slots i 1) < length ts
      pub can : (c : SyntaxTree) → slice_get ts (start h (Slots i 1)) ≡ Some c → CanPut c next r a

    further-here : CanPut (node k ts) held (i ∷ r) a → Further (held []) inner
    further-here can = go (slice_get ts (start (held []) (Slots i 1))) refl (ap (λ us. option_and_then (λ c. at c (current_path inner r)) (slice_get us (start (held []) (Slots i 1)))) (sym (trees-forest ts)) ∙ can.there.there)
      where
        go : (o : Option SyntaxTree) → slice_get ts (start (held []) (Slots i 1)) ≡ o → option_and_then (λ c. at c (current_path inner r)) (slice_get ts (start (held []) (Slots i 1))) ≡ Some (Node can.there.kind can.there.below) → Further (held []) inner
        go None is had = let wrong = ap (λ x. option_and_then (λ c. at c (current_path inner r)) x) (sym is) ∙ had in cc
        go (Some c) is had = record {
          inside = slice_get_within ts (start (held []) (Slots i 1)) c is;
          can = λ b found. record {
            there = record {
              kind = can.there.kind;
              below = can.there.below;
              there = ap (λ x. option_and_then (λ d. at d (current_path inner r)) x) (sym found) ∙ had;
              within = can.there.within;
            };
            wide = can.wide;
          };
        }

-- ---- the same where the tree, what the node holds and the rest of the way are given by equations
module _ (t : SyntaxTree) (k : ℕ) (ts : List SyntaxTree) (is : t ≡ node k ts) (held : Path → Held) (h : Held) (this : h ≡ held []) (q : Path) (a : Among) (can : CanPut t held q a) where
  pub at-end : q ≡ [] → AtEnd k ts held a h
  at-end none =
      subst (AtEnd k ts held a) (sym this) (end-here k ts held a (subst (λ u. CanPut u held [] a) is (subst (λ p. CanPut t held p a) none can)))

  pub further : (i : ℕ) (r : Path) → q ≡ i ∷ r → (next : Path → Held) → (λ p. held (i ∷ p)) ≡ next → Further k ts held a i r h next
  further i r on next goes =
      let way = further-here k ts held a i r (subst (λ u. CanPut u held (i ∷ r) a) is (subst (λ p. CanPut t held p a) on can)) in
      subst (λ x. Further k ts held a i r x next) (sym this) (subst (Further k ts held a i r (held [])) goes way)

-- ---- one slot further
module _ (held : Path → Held) (path : Path) (n : ℕ) where
  pub held_here : held (take n path) ≡ held_below held (take n path) []
  held_here = ap held (sym (append-nil (take n path)))

  module _ (l : n < length path) where
    abbrev slot_here : ℕ
    slot_here = get_or path n 0

    pub way_here : drop n path ≡ slot_here ∷ drop (n + 1) path
    way_here = drop-cons path n 0 l ∙ ap (λ m. slot_here ∷ drop m path) (sym (add-one n))

    pub held_next : (λ q. held_below held (take n path) (slot_here ∷ q)) ≡ held_below held (take (n + 1) path)
    held_next = fun_ext (λ q. ap held (sym (append_assoc (take n path) (slot_here ∷ []) q) ∙ ap (λ p. p ++ q) (sym (take_more path n 0 l))))
