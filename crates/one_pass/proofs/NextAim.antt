-- The next aim of an open node, by where it stands.
--     first_aim, some-aim           the next aim; it is the first of those that are to come
--     order-shared                  where the children before a slot are shared, and nothing aims before it
--     put-next                      what the next aim's change gives is put
--     take-gap, take-run            an insert, a replacement
--     take-passed, take-nowhere     one inside a child that is replaced or a token; one that puts nothing
--     next-child                    one inside a child that stays
--     part-rest                     the rest of a list, as a part of it
use Rattle.std.specs.Prelude.{◌≡◌, ℕ, suc, ◌+◌, ◌<◌, ◌≤◌, ◌⊎◌, max, Bool, true, false, cond, ◌||◌, nat_lt, List, [], ◌∷◌, ◌++◌, ◌-◌, map, take, drop, length, get_or, sum, Vec, refl}
use Rattle.std.specs.Global.{Global}
use Rattle.std.specs.Borrow.{Bor}
use Rattle.std.proofs.Common.{ap, ap₂, sym, subst, ◌∙◌, arith}
use Rattle.std.proofs.lemmas.Bool.{lt-ltb}
use Rattle.std.proofs.lemmas.List.{take_all, length-drop}
use mathlib.Core.Logic.{inl, inr}
use Rattle.green_tree.specs.Path.{Path}
use Rattle.green_tree.specs.Tree.{Tree}
use Rattle.green_tree.specs.Green.{Branch, Leaf}
use Rattle.green_tree.specs.GreenElement.{element_tree}
use Rattle.green_tree.specs.declared.green.GreenElement.{GreenElement}
use Rattle.green_tree.specs.declared.green.GreenElement.TheVariants.{Token}
use Rattle.edit_change.specs.Rewriting.{rewritten}
use Rattle.edit_change.specs.declared.aimed.Aimed.{Aimed}
use Rattle.edit_change.specs.declared.aimed.AimForm.TheVariants as form
use Rattle.edit_change.specs.inner.Aimed.{FormedAim, of_formed}
use Rattle.edit_change.specs.inner.KindOnly.{kind_only}
use Rattle.one_pass.specs.declared.marked_element.GivenTable.{GivenTable}
use Rattle.one_pass.specs.declared.open_node.OpenNode.{OpenNode}
use Rattle.one_pass.specs.declared.mark.Walk.{Walk}
use Rattle.one_pass.specs.inner.Marked.{Marking, sought_below, wanted, InPathOrder, FromChild}
use Rattle.one_pass.specs.inner.Pass.{given_in, Puts, FindsChange}
use Rattle.one_pass.specs.inner.Sweep.{lowered, seen_at, covered, from_slot, inside_child, in_slot, From, Rising, key, IsGap, IsRun, IsBelow, PassesAll}
use Rattle.one_pass.specs.inner.OpenNodes.{coming, sought_in, child_built, nothing, InOrder, IsSameNode, IsShared, IsFurther, PutsNext, IsPassed, IsToOpen, IsNext}
use Rattle.one_pass.proofs.NodeAhead.{Follows, ahead-gap, ahead-run, ahead-pass, ahead-below}
use Rattle.one_pass.proofs.NodeFurther.{no-less-ahead, first-ahead, order-next, further-both, further-shared, further-pass, further-put}
use Rattle.one_pass.proofs.NodeSteps.{same-coming, same-both, same-sought, item-at}
use Rattle.one_pass.proofs.OneAim.{run-key, below-starts, below-overs}
use Rattle.one_pass.proofs.SweepStart.{rising-from}
use Rattle.one_pass.proofs.Sweeping.{at-any, from-less}

abbrev pub no_aim : Aimed
no_aim = record { change = 0; path = record { ref_ptr = (0, 0); now = [] }; form = form.FirstIn }

abbrev pub first_aim : OpenNode → Aimed
first_aim f = get_or f.aims.now 0 no_aim

abbrev pub seen_first : OpenNode → FormedAim
seen_first f = lowered f.depth (get_or f.aims.now 0 no_aim)

first-of-list : (xs : List Aimed) → 0 < length xs → xs ≡ get_or xs 0 no_aim ∷ drop 1 xs
first-of-list [] l = absurd (omega (arith, l))
first-of-list (x ∷ xs) l = refl

pub some-aim : (f : OpenNode) → 0 < length f.aims.now → f.aims.now ≡ first_aim f ∷ drop 1 f.aims.now
some-aim f l = first-of-list f.aims.now l

same-head : (a b : Aimed) (xs ys zs : List Aimed) → zs ≡ a ∷ xs → zs ≡ b ∷ ys → a ≡ b
same-head a b xs ys zs x y = cc

abbrev pub made_by : {L : Type 0} → (List Marking → Path → ℕ → L) → (ℕ → List (Tree L)) → List Marking → ℕ → List FormedAim → GreenElement → Tree L
made_by label given ms i xs e = rewritten (label (sought_below i ms)) given (map of_formed xs) [] (element_tree e)

abbrev pub counted_by : List Marking → ℕ → List FormedAim → GreenElement → ℕ
counted_by ms i xs e = child_built i xs e

-- ---- a child from which nothing comes of the aims inside it
abbrev Quiet : {X : Type 0} → (ℕ → List FormedAim → GreenElement → X) → ℕ → ℕ → GreenElement → Type 0
Quiet made i p e = (i < p) ⊎ ((ys zs : List FormedAim) → made i ys e ≡ made i zs e)

passes : {X : Type 0} (made : ℕ → List FormedAim → GreenElement → X) (g : OpenNode) (e : GreenElement) → ((l : Leaf) (ys zs : List FormedAim) → made g.slot ys (Token l) ≡ made g.slot zs (Token l)) → e ≡ get_or g.elements.now g.slot e → IsPassed g → Quiet made g.slot g.passed e
passes made g e token is (inl under) = inl under
passes made g e token is (inr leaf) = inr (subst (λ u. (ys zs : List FormedAim) → made g.slot ys u ≡ made g.slot zs u) (sym (is ∙ leaf.1 e)) (token leaf.0))

quiet-below : {X : Type 0} (given : ℕ → List X) (made : ℕ → List FormedAim → GreenElement → X) (p : ℕ) (b : FormedAim) (xs : List FormedAim) (i : ℕ) (e : GreenElement) → IsBelow i b → Quiet made i p e → in_slot given made p (b ∷ xs) i e ≡ in_slot given made p xs i e
quiet-below {X} given made p b xs i e below quiet =
    ap₂ (λ o s. cond ((o || covered i xs) || nat_lt i p) (cond s (given b.change) [] ++ from_slot given i xs) (made i (inside_child i (b ∷ xs)) e ∷ [])) (below-overs i b below i) (below-starts i b below i) ∙ go quiet
  where
    always : (c : Bool) (us vs ws : List X) → cond (c || true) us vs ≡ cond (c || true) us ws
    always true us vs ws = refl
    always false us vs ws = refl

    go : Quiet made i p e → cond (covered i xs || nat_lt i p) (from_slot given i xs) (made i (inside_child i (b ∷ xs)) e ∷ []) ≡ cond (covered i xs || nat_lt i p) (from_slot given i xs) (made i (inside_child i xs) e ∷ [])
    go (inl under) =
        ap (λ t. cond (covered i xs || t) (from_slot given i xs) (made i (inside_child i (b ∷ xs)) e ∷ [])) (lt-ltb i p under) ∙ always (covered i xs) (from_slot given i xs) (made i (inside_child i (b ∷ xs)) e ∷ []) (made i (inside_child i xs) e ∷ []) ∙ sym (ap (λ t. cond (covered i xs || t) (from_slot given i xs) (made i (inside_child i xs) e ∷ [])) (lt-ltb i p under))
    go (inr same) = ap (λ u. cond (covered i xs || nat_lt i p) (from_slot given i xs) (u ∷ [])) (same (inside_child i (b ∷ xs)) (inside_child i xs))

-- ---- a node of which one field is another one
abbrev pub passing : OpenNode → ℕ → OpenNode
passing f passed = record { kind = f.kind; elements = f.elements; depth = f.depth; aims = f.aims; sought = f.sought; out = f.out; slot = f.slot; passed = passed }

abbrev pub having : OpenNode → Bor (List Aimed) → OpenNode
having f aims = record { kind = f.kind; elements = f.elements; depth = f.depth; aims = aims; sought = f.sought; out = f.out; slot = f.slot; passed = f.passed }

-- with these aims to come, and this made so far
abbrev pub putting : OpenNode → Bor (List Aimed) → Vec GreenElement Global → OpenNode
putting f aims out = record { kind = f.kind; elements = f.elements; depth = f.depth; aims = aims; sought = f.sought; out = out; slot = f.slot; passed = f.passed }

same-passing : (f : OpenNode) (p : ℕ) → IsSameNode f (passing f p)
same-passing f p = record { kind = refl; elements = refl; depth = refl }

same-having : (f : OpenNode) (xs : Bor (List Aimed)) → IsSameNode f (having f xs)
same-having f xs = record { kind = refl; elements = refl; depth = refl }

-- ---- up to a slot
pub ahead-of : (f : OpenNode) (n : ℕ) → InOrder f → 0 < length f.aims.now → n ≤ key (seen_first f) → From n (coming f)
ahead-of f n order some least = from-less n (key (seen_first f)) (coming f) least (no-less-ahead f (first_aim f) (drop 1 f.aims.now) order (some-aim f some))

pub slot-before : (f : OpenNode) → InOrder f → 0 < length f.aims.now → f.slot + f.slot ≤ key (seen_first f)
slot-before f order some = first-ahead f (first_aim f) (drop 1 f.aims.now) order (some-aim f some)

pub order-shared : (i : ℕ) (start after : Walk) (f g : OpenNode) → InOrder f → i ≤ length f.elements.now → From (i + i) (coming f) → IsShared i start after f g → InOrder g
order-shared i start after f g order within ahead x =
    let same = same-coming i start after f g x in
    record {
      within = omega (arith, within, x.slot, ap (λ es. length es.now) x.same.elements);
      rising = subst Rising (sym same) order.rising;
      begins = subst (λ n. From (n + n) (coming g)) (sym x.slot) (subst (From (i + i)) (sym same) ahead);
      ascending = x.ascending;
      from = subst (λ n. FromChild n (sought_in g)) (sym x.slot) x.from;
    }

module _ (table : GivenTable) (start middle after : Walk) (f g : OpenNode) (order : InOrder f) (some : 0 < length f.aims.now) where
  module _ (i : ℕ) (within : i ≤ length f.elements.now) (least : i + i ≤ key (seen_first f)) (shared : IsShared i start middle f g) where
    there : InOrder g
    there = order-shared i start middle f g order within (ahead-of f (i + i) order some least) shared

    -- of the aims that are to come
    same-aims : f.aims.now ≡ g.aims.now
    same-aims = ap (λ xs. xs.now) (sym shared.aims)

    rest-order : (k : OpenNode) → IsSameNode g k → sought_in k ≡ sought_in g → g.aims.now ≡ first_aim f ∷ k.aims.now → k.slot ≡ i → InOrder k
    rest-order k same sought aims slot =
        order-next f g k (first_aim f) order (same-both f g k shared.same same) (same-aims ∙ aims) (omega (arith, within, slot)) (omega (arith, least, slot)) (subst InPathOrder (sym sought) there.ascending) (subst (λ n. FromChild n (sought_in k)) (shared.slot ∙ sym slot) (subst (FromChild g.slot) (sym sought) there.from))

    lowered-same : (a : Aimed) → a ≡ first_aim f → lowered g.depth a ≡ seen_first f
    lowered-same a is = ap₂ lowered shared.same.depth is

    -- what the next aim's change gives goes to the end
    pub put-next : (xs : Bor (List Aimed)) (out : Vec GreenElement Global) → xs.now ≡ drop 1 f.aims.now → after.path.items ≡ middle.path.items → after.builds ≡ middle.builds → Puts g.out out (given_in table (first_aim f).change) → FindsChange middle g.out after table (first_aim f).change → PutsNext table middle after g (putting g xs out)
    put-next xs out rest path count trees marks = record {
      aim = first_aim f;
      aims = sym same-aims ∙ some-aim f some ∙ ap (λ ys. first_aim f ∷ ys) (sym rest);
      same = record { kind = refl; elements = refl; depth = refl };
      sought = refl;
      slot = refl;
      passed = refl;
      path = path;
      count = count;
      trees = trees;
      marks = marks;
    }

    module _ (h : OpenNode) (put : PutsNext table middle after g h) where
      aim-is : put.aim ≡ first_aim f
      aim-is = same-head put.aim (first_aim f) h.aims.now (drop 1 f.aims.now) f.aims.now (same-aims ∙ put.aims) (some-aim f some)

      aims-are : g.aims.now ≡ first_aim f ∷ h.aims.now
      aims-are = put.aims ∙ ap (λ a. a ∷ h.aims.now) aim-is

      pub take-gap : IsGap i (seen_first f).path (seen_first f).form → IsFurther table start after f h
      take-gap is =
          let here : IsGap g.slot (lowered g.depth put.aim).path put.aim.form = subst (λ n. IsGap n (lowered g.depth put.aim).path put.aim.form) (sym shared.slot) (subst (λ (b : FormedAim). IsGap i b.path b.form) (sym (lowered-same put.aim aim-is)) is) in
          let sought = same-sought g h put.same put.sought in
          let follows : Follows g h = record { same = put.same; sought = sought; slot = put.slot } in
          let next = rest-order h put.same sought aims-are (put.slot ∙ shared.slot) in
          further-both table start middle after f g h (further-shared table i start middle f g shared there) (further-put table middle after g h h put put.same put.slot refl next (λ given. ahead-gap given (made_by (λ ms. kind_only) given) g h put.aim follows put.aims put.passed here) (λ trees. ahead-gap trees (made_by wanted trees) g h put.aim follows put.aims put.passed here) (ap sum (ahead-gap nothing counted_by g h put.aim follows put.aims put.passed here)))

      run-taken : (n : ℕ) (k : OpenNode) → i < length f.elements.now → IsRun i n (seen_first f).path (seen_first f).form → IsSameNode h k → sought_in k ≡ sought_in h → k.slot ≡ h.slot → k.out ≡ h.out → k.aims ≡ h.aims → ((j : ℕ) → j < length f.elements.now → nat_lt j (max h.passed (i + n)) ≡ nat_lt j k.passed) → IsFurther table start after f k
      run-taken n k inside is same kept slot out aims alike =
          let seen = lowered-same put.aim aim-is in
          let here : IsRun g.slot n (lowered g.depth put.aim).path put.aim.form = subst (λ m. IsRun m n (lowered g.depth put.aim).path put.aim.form) (sym shared.slot) (subst (λ (b : FormedAim). IsRun i n b.path b.form) (sym seen) is) in
          let all = same-both g h k put.same same in
          let sought = kept ∙ same-sought g h put.same put.sought in
          let follows : Follows g k = record { same = all; sought = sought; slot = slot ∙ put.slot } in
          let own : g.aims.now ≡ put.aim ∷ k.aims.now = put.aims ∙ ap (λ xs. put.aim ∷ xs.now) (sym aims) in
          let next = rest-order k all sought (aims-are ∙ ap (λ xs. first_aim f ∷ xs.now) (sym aims)) (slot ∙ put.slot ∙ shared.slot) in
          let long : length g.elements.now ≡ length f.elements.now = ap (λ es. length es.now) shared.same.elements in
          let room : g.slot < length g.elements.now = omega (arith, inside, long, shared.slot) in
          let alike_there : (j : ℕ) → j < length g.elements.now → nat_lt j (max g.passed (g.slot + n)) ≡ nat_lt j k.passed = λ j l. ap₂ (λ p s. nat_lt j (max p (s + n))) (sym put.passed) shared.slot ∙ alike j (omega (arith, l, long)) in
          let reached : suc (g.slot + g.slot) ≡ key (lowered g.depth put.aim) = run-key g.slot n put.aim.change (lowered g.depth put.aim).path put.aim.form here in
          let later : From (suc (g.slot + g.slot)) (seen_at g.depth k.aims.now) = subst (λ m. From m (seen_at g.depth k.aims.now)) (sym reached) (rising-from (lowered g.depth put.aim) (seen_at g.depth k.aims.now) (subst (λ xs. Rising (seen_at g.depth xs)) own there.rising)).1 in
          further-both table start middle after f g k (further-shared table i start middle f g shared there) (further-put table middle after g h k put all (slot ∙ put.slot) out next (λ given. ahead-run given (made_by (λ ms. kind_only) given) g k put.aim follows own room n alike_there here later) (λ trees. ahead-run trees (made_by wanted trees) g k put.aim follows own room n alike_there here later) (ap sum (ahead-run nothing counted_by g k put.aim follows own room n alike_there here later)))

      pub take-run : (n p : ℕ) → i < length f.elements.now → IsRun i n (seen_first f).path (seen_first f).form → ((j : ℕ) → j < length f.elements.now → nat_lt j (max h.passed (i + n)) ≡ nat_lt j p) → IsFurther table start after f (passing h p)
      take-run n p inside is alike = run-taken n (passing h p) inside is (same-passing h p) refl refl refl refl alike

    -- ---- inside a child
    pub shared-next : IsFurther table start middle f g
    shared-next = further-shared table i start middle f g shared there

    pub next-child : (b : Branch) → i < length f.elements.now → IsBelow i (seen_first f) → IsToOpen g b → IsNext g b
    next-child b inside below to_open = record {
      order = there;
      within = omega (arith, inside, shared.slot, ap (λ es. length es.now) shared.same.elements);
      element = to_open.element;
      stays = to_open.stays;
      some = omega (arith, some, ap length same-aims);
      inside = λ d. subst (λ n. IsBelow n (lowered g.depth (get_or g.aims.now 0 d))) (sym shared.slot) (subst (IsBelow i) (sym (ap₂ (λ w xs. lowered w (get_or xs 0 d)) shared.same.depth (sym same-aims) ∙ ap (lowered f.depth) (at-any f.aims.now 0 d no_aim some))) below);
    }

    passed-taken : (k : OpenNode) → i < length f.elements.now → IsBelow i (seen_first f) → IsPassed g → IsSameNode g k → sought_in k ≡ sought_in g → k.slot ≡ g.slot → k.passed ≡ g.passed → k.out ≡ g.out → k.aims.now ≡ drop 1 f.aims.now → IsFurther table start middle f k
    passed-taken k inside below goes same sought slot passed out aims =
        let own : g.aims.now ≡ first_aim f ∷ k.aims.now = sym same-aims ∙ some-aim f some ∙ ap (λ xs. first_aim f ∷ xs) (sym aims) in
        let room : g.slot < length g.elements.now = omega (arith, inside, shared.slot, ap (λ es. length es.now) shared.same.elements) in
        let here : IsBelow g.slot (lowered g.depth (first_aim f)) = subst (λ n. IsBelow n (lowered g.depth (first_aim f))) (sym shared.slot) (subst (IsBelow i) (sym (lowered-same (first_aim f) refl)) below) in
        let e = item-at g.elements.now g.slot room in
        let follows : Follows g k = record { same = same; sought = sought; slot = slot } in
        let next = rest-order k same sought own (slot ∙ shared.slot) in
        let xs = seen_at g.depth k.aims.now in
        further-both table start middle middle f g k shared-next (further-pass table middle g k same slot out next (λ given. ahead-below given (made_by (λ ms. kind_only) given) g k (first_aim f) follows own room passed here (quiet-below given (made_by (λ ms. kind_only) given (sought_in g)) g.passed (lowered g.depth (first_aim f)) xs g.slot e.0 here (passes (made_by (λ ms. kind_only) given (sought_in g)) g e.0 (λ l ys zs. refl) e.1 goes))) (λ trees. ahead-below trees (made_by wanted trees) g k (first_aim f) follows own room passed here (quiet-below trees (made_by wanted trees (sought_in g)) g.passed (lowered g.depth (first_aim f)) xs g.slot e.0 here (passes (made_by wanted trees (sought_in g)) g e.0 (λ l ys zs. refl) e.1 goes))) (ap sum (ahead-below nothing counted_by g k (first_aim f) follows own room passed here (quiet-below nothing (counted_by (sought_in g)) g.passed (lowered g.depth (first_aim f)) xs g.slot e.0 here (passes (counted_by (sought_in g)) g e.0 (λ l ys zs. refl) e.1 goes)))))

    pub take-passed : (xs : Bor (List Aimed)) → i < length f.elements.now → IsBelow i (seen_first f) → IsPassed g → xs.now ≡ drop 1 f.aims.now → IsFurther table start middle f (having g xs)
    take-passed xs inside below goes aims = passed-taken (having g xs) inside below goes (same-having g xs) refl refl refl refl aims

  -- ---- nothing is due
  nowhere-taken : (k : OpenNode) → PassesAll (length f.elements.now) (seen_first f) → IsSameNode f k → sought_in k ≡ sought_in f → k.slot ≡ f.slot → k.passed ≡ f.passed → k.out ≡ f.out → k.aims.now ≡ drop 1 f.aims.now → IsFurther table start start f k
  nowhere-taken k says same sought slot passed out aims =
      let own : f.aims.now ≡ first_aim f ∷ k.aims.now = some-aim f some ∙ ap (λ xs. first_aim f ∷ xs) (sym aims) in
      let follows : Follows f k = record { same = same; sought = sought; slot = slot } in
      let next = order-next f f k (first_aim f) order same own (omega (arith, order.within, slot)) (omega (arith, slot-before f order some, slot)) (subst InPathOrder (sym sought) order.ascending) (subst (λ n. FromChild n (sought_in k)) (sym slot) (subst (FromChild f.slot) (sym sought) order.from)) in
      further-pass table start f k same slot out next (λ given. ahead-pass given (made_by (λ ms. kind_only) given) f k (first_aim f) follows own passed order.within says) (λ trees. ahead-pass trees (made_by wanted trees) f k (first_aim f) follows own passed order.within says) (ap sum (ahead-pass nothing counted_by f k (first_aim f) follows own passed order.within says))

  pub take-nowhere : (xs : Bor (List Aimed)) → PassesAll (length f.elements.now) (seen_first f) → xs.now ≡ drop 1 f.aims.now → IsFurther table start start f (having f xs)
  take-nowhere xs says aims = nowhere-taken (having f xs) says (same-having f xs) refl refl refl refl aims

-- ---- the rest of a list, as a part of it
pub part-rest : {X : Type 0} (xs : List X) (n : ℕ) → take (length xs - n) (drop n xs) ≡ drop n xs
part-rest xs n = take_all (length xs - n) (drop n xs) (omega (arith, length-drop n xs))

pub none-coming : (f : OpenNode) (n : ℕ) → length f.aims.now ≡ 0 → From n (coming f)
none-coming f n none = subst (λ xs. From n (seen_at f.depth xs)) (sym (empty f.aims.now none)) tt
  where
    empty : (xs : List Aimed) → length xs ≡ 0 → xs ≡ []
    empty [] h = refl
    empty (x ∷ xs) h = absurd (omega (arith, h))
