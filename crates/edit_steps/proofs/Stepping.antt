-- One aim more: what a stage becomes.
--     AllCounted                     of each node it is told what aims leave in its gaps and slots
--     on_way, current-path-is               nodes on the way to a node; its path in the new element
--     StepMade, insert-made, replace-made      what a live aim leads to is there, the new tree is the rewriting, and its changes tell it
--     DeadAt, agree_there            the edits with an aim differ from those without it only where nothing is
--     dead-tree, dead-counted        so the rewriting stays, and what is told of it
use Rattle.std.specs.Prelude.{◌≡◌, ℕ, zero, suc, ◌+◌, ◌<◌, ◌≤◌, true, false, List, [], ◌∷◌, ◌++◌, length, slice_get, Option, Some, None, option_and_then, refl}
use Rattle.std.proofs.Common.{ap, ap₂, sym, subst, ◌∙◌, arith}
use Rattle.std.proofs.lemmas.Bool.{cases_Bool, true≢false}
use Rattle.std.proofs.lemmas.List.{append-nil}
use Rattle.std.proofs.lemmas.Option.{same_Some, slice_get_within}
use mathlib.Core.Logic.{inl, inr}
use Rattle.green_tree.specs.Path.{Path, same_path}
use Rattle.green_tree.specs.Tree.{Forest, Token, Node, SyntaxTree, forest, trees, at}
use Rattle.green_tree.proofs.Lookup.{at-append}
use Rattle.edit_change.specs.Aim.{Over, aims_at_gap, replaces, parents}
use Rattle.edit_change.specs.Rewriting.{NumberedAim, inserts_at, is_replaced, rewritten}
use Rattle.edit_change.specs.inner.KindOnly.{kind_only}
use Rattle.edit_steps.specs.inner.Stage.{IsNext}
use Rattle.edit_steps.specs.declared.stage.among.Among.{Among}
use Rattle.edit_steps.specs.declared.stage.among.Among.TheVariants.{Gap, Slots}
use Rattle.edit_steps.specs.inner.Counts.{IsCounted}
use Rattle.edit_steps.specs.inner.Widths.{Held, index_of, count_of, start, gone_at, IsPut}
use Rattle.edit_steps.specs.inner.Putting.{current_path, CanPut, put}
use Rattle.green_tree.specs.inner.Splices.{spliced, updated_at}
use Rattle.edit_change.proofs.Edits.{Edits, below, below_path, edits_of, rewritten_by, rewritten_by_from, rewritten_is}
use Rattle.edit_steps.proofs.CurrentPaths.{to_slot, new_path, at-new_path, Elsewhere}
use Rattle.edit_steps.proofs.Steps.{room-inserted, room-replaced}
use Rattle.edit_steps.proofs.AimSteps.{gap_is, range, in_range, IsKept, keeps, elsewhere-insert, inserted, insert_more, elsewhere-replace, replaced, replace_more, same_path-true, same_path_from}
use Rattle.edit_steps.proofs.DeadEdits.{AgreeTo, AgreeThere, rewritten_by-agree}
use Rattle.edit_steps.proofs.Counting.{Told, told-here, counted-from, start-gap, start-slot, most_width, gap_least, gone_none, gone_kept, told-same, told-inserted, told-replaced}

-- ---- nodes on the way
pub record OnWay (t : SyntaxTree) (q : Path) (i : ℕ) : Type 0 where
  pub kind : ℕ
  pub children : Forest ℕ
  pub there : at t q ≡ Some (Node kind children)
  pub within : i < length (trees children)

pub on_way : (t : SyntaxTree) (p : Path) (u : SyntaxTree) → at t p ≡ Some u → (q : Path) (i : ℕ) (r : Path) → q ++ i ∷ r ≡ p → OnWay t q i
on_way t p u a q i r same = go (at t q) refl (sym (at-append t q (i ∷ r)) ∙ ap (at t) same ∙ a)
  where
    inside : (g : Forest ℕ) (o : Option SyntaxTree) → slice_get (trees g) i ≡ o → option_and_then (λ c. at c r) o ≡ Some u → i < length (trees g)
    inside g None is had = cc
    inside g (Some c) is had = slice_get_within (trees g) i c is

    go : (o : Option SyntaxTree) → at t q ≡ o → option_and_then (λ c. at c (i ∷ r)) o ≡ Some u → OnWay t q i
    go None is had = cc
    go (Some (Token k s)) is had = cc
    go (Some (Node k g)) is had = record { kind = k; children = g; there = is; within = inside g (slice_get (trees g) i) refl had }

pub current-path-is : (e : Edits ℕ) (held : Path → Held) (p : Path) → ((q : Path) (i : ℕ) (r : Path) → q ++ i ∷ r ≡ p → start (held q) (Slots i 1) ≡ to_slot (below_path q e) i) → current_path held p ≡ new_path e p
current-path-is e held [] h = refl
current-path-is e held (i ∷ p) h =
    ap₂ (λ s q. s ∷ q) (h [] i p refl) (current-path-is (below i e) (λ q. held (i ∷ q)) p (λ q j r same. h (i ∷ q) j r (ap (λ x. i ∷ x) same)))

-- ---- of one tree, before and after one aim more
module _ (t : SyntaxTree) (given : ℕ → List SyntaxTree) where
  abbrev pub AllCounted : List NumberedAim → (Path → Held) → Type 0
  AllCounted cs held = (p : Path) (k : ℕ) (f : Forest ℕ) → at t p ≡ Some (Node k f) → IsCounted given cs p (length (trees f)) (held p)

  module _ (xs : List NumberedAim) (c : NumberedAim) (ys : List NumberedAim) (held : Path → Held) where
    abbrev old : Edits ℕ
    old = edits_of kind_only given (xs ++ ys)

    abbrev new : Edits ℕ
    new = edits_of kind_only given (xs ++ c ∷ ys)

    abbrev before : SyntaxTree
    before = rewritten kind_only given (xs ++ ys) [] t

    pub record OneMore (next : Path → Held) (p : Path) (a : Among) : Type 0 where
      pub here : IsPut (held p) (next p) a (length (given c.0))
      pub others : (q : Path) → (q ≡ p → ⊥) → next q ≡ held q

    pub record StepMade (p : Path) (a : Among) : Type 0 where
      pub can : CanPut before held p a
      pub there : (i : ℕ) → gone_at (index_of a) (count_of a) i ≤ (held p).widths i
      pub gap : (held p).gaps (index_of a) ≤ (held p).widths (index_of a)
      pub tree : put before held p a (given c.0) ≡ rewritten kind_only given (xs ++ c ∷ ys) [] t
      pub counted : (next : Path → Held) → OneMore next p a → AllCounted (xs ++ c ∷ ys) next

    -- ---- where the aim is live
    module _ (counted : AllCounted (xs ++ ys) held) where
      told : (q : Path) (k : ℕ) (g : Forest ℕ) → at t q ≡ Some (Node k g) → Told (below_path q old) (length (trees g)) (held q)
      told q k g there = told-here given (xs ++ ys) q (length (trees g)) (held q) (counted q k g there)

      -- the nodes but one are as they were
      still_told : (p : Path) → Elsewhere old new p → (q : Path) (k : ℕ) (g : Forest ℕ) → at t q ≡ Some (Node k g) → (q ≡ p → ⊥) → Told (below_path q new) (length (trees g)) (held q)
      still_told p els q k g there n =
          let other : q ++ [] ≡ p → ⊥ = λ s. n (sym (append-nil q) ∙ s) in
          told-same (below_path q old) (below_path q new) (length (trees g)) (held q) (λ j _. ap (λ h. h j) (els.gaps (q ++ []) other)) (λ j _. ap (λ h. h j) (els.slots (q ++ []) other)) (told q k g there)

      module _ (p : Path) (l : ℕ) (f : Forest ℕ) (there : at t p ≡ Some (Node l f)) where
        counted-after : Elsewhere old new p → (a : Among) → ((y : Held) → IsPut (held p) y a (length (given c.0)) → Told (below_path p new) (length (trees f)) y) → (next : Path → Held) → OneMore next p a → AllCounted (xs ++ c ∷ ys) next
        counted-after els a here next more = λ q k g at_q.
            counted-from given (xs ++ c ∷ ys) q (length (trees g)) (next q) (elim (cases_Bool (same_path q p)) [
              | inl same ↦
                  let path : q ≡ p = same_path-true q p same in
                  let one : Node l f ≡ Node k g = same_Some (Node l f) (Node k g) (sym there ∙ ap (at t) (sym path) ∙ at_q) in
                  let children : f ≡ g = cc in
                  subst (λ x. Told (below_path x new) (length (trees g)) (next x)) (sym path) (subst (λ h. Told (below_path p new) (length (trees h)) (next p)) children (here (next p) more.here))
              | inr other ↦
                  let apart : q ≡ p → ⊥ = λ s. absurd (true≢false (sym (same_path_from q p s) ∙ other)) in
                  subst (λ h. Told (below_path q new) (length (trees g)) h) (sym (more.others q apart)) (still_told p els q k g at_q apart)
            ])

        module _ (kept : IsKept (xs ++ ys) p) where
          path-is : current_path held p ≡ new_path old p
          path-is = current-path-is old held p (λ q i r same.
              let w = on_way t p (Node l f) there q i r same in
              start-slot (below_path q old) (length (trees w.children)) (held q) (told q w.kind w.children w.there) i 1 (omega (arith, w.within)))

          stands : at before (current_path held p) ≡ Some (rewritten_by (below_path p old) (Node l f))
          stands =
              ap₂ at (rewritten_is kind_only given (xs ++ ys) [] t) path-is ∙ at-new_path old p t (Node l f) there (keeps given (xs ++ ys) p kept)

          can-put : (a : Among) → index_of a ≤ length (trees f) → start (held p) a + count_of a ≤ length (trees (forest (rewritten_by_from (below_path p old) 0 f))) → CanPut before held p a
          can-put a least room = record {
            there = record { kind = l; below = forest (rewritten_by_from (below_path p old) 0 f); there = stands; within = room };
            wide = most_width (below_path p old) f (held p) (told p l f there) (index_of a) least;
          }

        module _ (next : IsNext xs c ys) (parent : parents c.1 ≡ p ∷ []) where
          kept : IsKept (xs ++ ys) p
          kept = record { not_replaced = λ q i r same. next.node_stays p q i r parent same }

          here : Told (below_path p old) (length (trees f)) (held p)
          here = told p l f there

          pub insert-made : (g : ℕ) → g ≤ length (trees f) → aims_at_gap p g c.1 ≡ true → StepMade p (Gap g)
          insert-made g w aims =
              let first = next.stands_first (record { node = p; index = g }) (gap_is p g c.1 aims) in
              let begins = start-gap (below_path p old) (length (trees f)) (held p) here g w in
              let room = room-inserted (below_path p old) f g w in
              record {
                can = can-put kept (Gap g) w (omega arith);
                there = λ i. omega (arith, gone_none g i);
                gap = gap_least (below_path p old) (length (trees f)) (held p) here g w;
                tree = ap₂ (λ q s. updated_at before q (spliced s 0 (given c.0))) (path-is kept) begins ∙ sym (insert_more given xs c ys p g aims first t l f there w kept);
                counted = counted-after (elsewhere-insert given xs c ys p g aims) (Gap g) (λ y put. told-inserted (below_path p old) (below_path p new) g (given c.0) (inserted given xs c ys p g aims first) (held p) y put (length (trees f)) here);
              }

          pub replace-made : (i m wanted : ℕ) → i + m < length (trees f) → m ≤ wanted → ((j : ℕ) → i + m < j → j < length (trees f) → i + wanted < j) → c.1 ≡ Over (range p i (suc wanted)) → StepMade p (Slots i (suc m))
          replace-made i m wanted w most all aims =
              let over : (j : ℕ) → i ≤ j → j ≤ i + m → replaces (p ++ j ∷ []) c.1 ≡ true = λ j a b. ap (λ a. replaces (p ++ j ∷ []) a) aims ∙ in_range p i (suc wanted) j a (omega arith) in
              let stay : (j : ℕ) → i ≤ j → j ≤ i + m → is_replaced (xs ++ ys) (p ++ j ∷ []) ≡ false = λ j a b. next.targets_stay (p ++ j ∷ []) (over j a b) in
              let free = none_inside i m over in
              let begins = start-slot (below_path p old) (length (trees f)) (held p) here i (suc m) (omega arith) in
              let made = replaced given xs c ys p (length (trees f)) i m wanted aims most all stay free in
              let room = room-replaced (below_path p old) (below_path p new) (length (trees f)) i m (given c.0) made f w in
              record {
                can = can-put kept (Slots i (suc m)) (omega arith) (omega arith);
                there = gone_kept (below_path p old) (below_path p new) (length (trees f)) i m (given c.0) made w (held p) here;
                gap = gap_least (below_path p old) (length (trees f)) (held p) here i (omega arith);
                tree = ap₂ (λ q s. updated_at before q (spliced s (suc m) (given c.0))) (path-is kept) begins ∙ sym (replace_more given xs c ys p (length (trees f)) i m wanted aims most all stay free t l f there refl w kept);
                counted = counted-after (elsewhere-replace given xs c ys p i wanted aims) (Slots i (suc m)) (told-replaced (below_path p old) (below_path p new) (length (trees f)) i m (given c.0) made w (held p) here);
              }
            where
              none_inside : (a b : ℕ) → ((j : ℕ) → a ≤ j → j ≤ a + b → replaces (p ++ j ∷ []) c.1 ≡ true) → (j : ℕ) → a < j → j ≤ a + b → inserts_at (xs ++ ys) p j ≡ []
              none_inside a b over zero x y = absurd (omega arith)
              none_inside a b over (suc j) x y = next.none_between p j (over j (omega arith) (omega arith)) (over (suc j) (omega arith) y)

    -- ---- where nothing is
    pub record DeadAt (p : Path) : Type 0 where
      pub elsewhere : Elsewhere old new p
      pub agree : (k : ℕ) (f : Forest ℕ) → at t p ≡ Some (Node k f) → AgreeTo (below_path p old) (below_path p new) (length (trees f))

    pub dead-tree : (p : Path) → DeadAt p → before ≡ rewritten kind_only given (xs ++ c ∷ ys) [] t
    dead-tree p h =
        rewritten_is kind_only given (xs ++ ys) [] t ∙ rewritten_by-agree old new p t h.elsewhere (agree_there (at t p) h.agree) ∙ sym (rewritten_is kind_only given (xs ++ c ∷ ys) [] t)
      where
        agree_there : (o : Option SyntaxTree) → ((k : ℕ) (f : Forest ℕ) → o ≡ Some (Node k f) → AgreeTo (below_path p old) (below_path p new) (length (trees f))) → AgreeThere (below_path p old) (below_path p new) o
        agree_there None a = tt
        agree_there (Some (Token k s)) a = tt
        agree_there (Some (Node k f)) a = a k f refl

    pub dead-counted : (p : Path) → DeadAt p → AllCounted (xs ++ ys) held → AllCounted (xs ++ c ∷ ys) held
    dead-counted p h counted = λ q k g there.
        counted-from given (xs ++ c ∷ ys) q (length (trees g)) (held q) (elim (cases_Bool (same_path q p)) [
          | inl same ↦
              let path : q ≡ p = same_path-true q p same in
              let both = h.agree k g (ap (at t) (sym path) ∙ there) in
              let agree : AgreeTo (below_path q old) (below_path q new) (length (trees g)) = subst (λ x. AgreeTo (below_path x old) (below_path x new) (length (trees g))) (sym path) both in
              told-same (below_path q old) (below_path q new) (length (trees g)) (held q) agree.gaps agree.slots (told counted q k g there)
          | inr other ↦ still_told counted p h.elsewhere q k g there (λ s. absurd (true≢false (sym (same_path_from q p s) ∙ other)))
        ])
