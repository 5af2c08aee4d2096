-- The way to a target's node.
--     IsReached                      so much of the way is gone, to this tree: what is left of it leads on to the target
--     reached_none                   nothing of it is gone at the top
--     IsOnWay, on_way                where the path goes on, the next child is there
--     no_token                       where the path goes on, or the target is, there is a node
--     IsAtTarget, at_target          at the end of the path is the target's node, and the place is found
--     can_splice_place, put_at_place  a splice at the place puts elements where the target is
--     as_deep                        the place is as deep as the target
use Rattle.std.specs.Prelude.{◌≡◌, ◌<◌, ◌≤◌, ◌+◌, ℕ, suc, List, [], ◌∷◌, ◌++◌, take, drop, length, slice_get, Some, refl}
use Rattle.std.proofs.Common.{ap, ap₂, sym, subst, ◌∙◌, arith, get_or}
use Rattle.std.proofs.lemmas.List.{drop_all, take_all, append_assoc, append-nil}
use Rattle.green_tree.specs.Path.{Path}
use Rattle.green_tree.specs.Tree.{Token, SyntaxTree}
use Rattle.green_tree.specs.Tree.{at as tree_at}
use Rattle.green_tree.specs.Green.{Branch, branch_tree}
use Rattle.green_tree.specs.inner.Splices.{spliced, updated_at, CanSplice}
use Rattle.edit_steps.specs.declared.stage.among.Among.{Among}
use Rattle.edit_steps.specs.declared.stage.among.Among.TheVariants.{Slots}
use Rattle.edit_steps.specs.declared.stage.aim_target.AimTarget.{AimTarget}
use Rattle.edit_steps.specs.declared.stage.place.Place.{Place}
use Rattle.edit_steps.specs.declared.stage.visited.VisitedNodes.{VisitedNodes}
use Rattle.edit_steps.specs.inner.Widths.{Held, index_of, count_of, start}
use Rattle.edit_steps.specs.inner.Putting.{current_path, CanPut, put, IsPlaceOf}
use Rattle.edit_steps.proofs.Putting.{no-token, held_below, further, at-end, held_here, way_here, held_next}

module _ (held : Path → Held) (path : Path) (at : Among) where
  pub record IsReached (d : ℕ) (gone : Path) (t : SyntaxTree) : Type 0 where
    pub can : CanPut t (held_below held (take d path)) (drop d path) at
    pub whole : gone ++ current_path (held_below held (take d path)) (drop d path) ≡ current_path held path

  pub reached_none : (t : SyntaxTree) → CanPut t held path at → IsReached 0 [] t
  reached_none t can = record { can = can; whole = refl }

  pub no_token : (d : ℕ) (gone : Path) (k : ℕ) (text : List ℕ) → IsReached d gone (Token k text) → ⊥
  no_token d gone k text way = no-token k text _ way.can.there.kind way.can.there.below way.can.there.there

  module _ (d : ℕ) (gone : Path) (b : Branch) (way : IsReached d gone (branch_tree b)) (h : Held) (this : h ≡ held (take d path)) where
    module _ (long : d < length path) (i : ℕ) (here : i ≡ get_or path d 0) where
      on : drop d path ≡ i ∷ drop (d + 1) path
      on = way_here held path d long ∙ ap (λ j. j ∷ drop (d + 1) path) (sym here)

      goes : (λ p. held_below held (take d path) (i ∷ p)) ≡ held_below held (take (d + 1) path)
      goes = subst (λ j. (λ p. held_below held (take d path) (j ∷ p)) ≡ held_below held (take (d + 1) path)) (sym here) (held_next held path d long)

      pub record IsOnWay : Type 0 where
        pub inside : start h (Slots i 1) < length b.children
        pub next : (slot : ℕ) (more : Path) (c : SyntaxTree) → slot ≡ start h (Slots i 1) → more ≡ gone ++ slot ∷ [] → slice_get b.children slot ≡ Some c → IsReached (d + 1) more c

      pub on_way : IsOnWay
      on_way =
          let f = further (branch_tree b) b.kind b.children refl (held_below held (take d path)) h (this ∙ held_here held path d) (drop d path) at way.can i (drop (d + 1) path) on (held_below held (take (d + 1) path)) goes in
          let rest : Path = current_path (held_below held (take (d + 1) path)) (drop (d + 1) path) in
          record {
            inside = f.inside;
            next = λ slot more c is longer found. record {
              can = f.can c (ap (slice_get b.children) (sym is) ∙ found);
              whole =
                  ap (λ p. p ++ rest) longer
                  ∙ append_assoc gone (slot ∷ []) rest
                  ∙ ap (λ j. gone ++ j ∷ rest) (is ∙ ap (λ x. start x (Slots i 1)) (this ∙ held_here held path d))
                  ∙ ap (λ g. gone ++ start (held_below held (take d path) []) (Slots i 1) ∷ current_path g (drop (d + 1) path)) (sym goes)
                  ∙ ap (λ p. gone ++ current_path (held_below held (take d path)) p) (sym on)
                  ∙ way.whole;
            };
          }

    module _ (all : d ≡ length path) where
      none : drop d path ≡ []
      none = drop_all d path (omega (arith, all))

      pub record IsAtTarget : Type 0 where
        pub room : start h at + count_of at ≤ length b.children
        pub wide : h.widths (index_of at) ≤ length b.children + 1
        pub path_is : gone ≡ current_path held path
        pub held_is : h ≡ held path
        pub front_is : take d path ≡ path

      pub at_target : IsAtTarget
      at_target =
          let e = at-end (branch_tree b) b.kind b.children refl (held_below held (take d path)) h (this ∙ held_here held path d) (drop d path) at way.can none in
          let front : take d path ≡ path = take_all d path (omega (arith, all)) in
          record {
            room = e.room;
            wide = e.wide;
            path_is = sym (append-nil gone) ∙ ap (λ p. gone ++ current_path (held_below held (take d path)) p) (sym none) ∙ way.whole;
            held_is = this ∙ ap held front;
            front_is = front;
          }

so_deep : (held : Path → Held) (p : Path) → length (current_path held p) ≡ length p
so_deep held [] = refl
so_deep held (i ∷ p) = ap (λ n. suc n) (so_deep (λ q. held (i ∷ q)) p)

module _ (held : Path → Held) (target : AimTarget) (v : VisitedNodes) (place : Place) (is : IsPlaceOf held target v place) where
  pub can_splice_place : (t : SyntaxTree) → CanPut t held target.parent.now target.at → (n : ℕ) → n ≡ count_of target.at → CanSplice t place.path.items place.first n
  can_splice_place t can n many = record {
    kind = can.there.kind;
    below = can.there.below;
    there = ap (tree_at t) is.path ∙ can.there.there;
    within = let within = can.there.within in omega (arith, within, is.first, many);
  }

  pub put_at_place : (t : SyntaxTree) (ts : List SyntaxTree) (n : ℕ) → n ≡ count_of target.at → updated_at t place.path.items (spliced place.first n ts) ≡ put t held target.parent.now target.at ts
  put_at_place t ts n many = ap₂ (λ p h. updated_at t p h) is.path (ap₂ (λ f m. spliced f m ts) is.first many)

  pub as_deep : length place.path.items ≡ length target.parent.now
  as_deep = ap length is.path ∙ so_deep held target.parent.now
