-- Where an aim alters a tree: what is found in code, and what the rewriting says of it.
--     parent-last                    a path from its parent and last slot
--     child-by-last                  a child by its path without the last slot, as code takes it apart
--     count-token                    below a token there is no node
--     IsRange, Reaches               slots that are there of those that an aim is over; a gap or slots that an aim reaches
--     IsLive, found-live             an aim that is found is live
--     found-dead                     one that is not found is dead: it alters nothing
use Rattle.std.specs.Prelude.{◌≡◌, ℕ, zero, suc, ◌+◌, ◌-◌, ◌<◌, ◌≤◌, true, false, ◌&&◌, ◌||◌, cond, not, nat_lt, min, List, [], ◌∷◌, ◌++◌, take, length, Option, Some, None, option_map, option_and_then, refl}
use Rattle.std.specs.Option.{option_map_or, is_some}
use Rattle.std.proofs.Common.{ap, ap₂, sym, subst, ◌∙◌, arith, get_or}
use Rattle.std.proofs.lemmas.Bool.{cases_lt, lt-ltb, le-ltb, eq-eqb}
use Rattle.std.proofs.lemmas.List.{same_from_push}
use Rattle.std.proofs.lemmas.Option.{same_Some, slice_get-get_or, slice_get_past}
use mathlib.Core.Logic.{inl, inr}
use mathlib.Core.Path.{fun_ext}
use Rattle.green_tree.specs.Path.{Path, parent_path, last_slot}
use Rattle.green_tree.specs.Tree.{Forest, Token, Node, SyntaxTree, is_token, trees, at}
use Rattle.green_tree.proofs.Lookup.{at-append}
use Rattle.edit_change.specs.Aim.{Aim, FirstIn, AfterElement, Over, aims_at_gap, starts_at, replaces, parents}
use Rattle.edit_change.specs.Rewriting.{NumberedAim}
use Rattle.edit_change.specs.declared.aimed.AimForm.{AimForm}
use Rattle.edit_change.specs.declared.aimed.AimForm.TheVariants as form
use Rattle.edit_change.specs.inner.Aimed.{aim_in}
use Rattle.edit_change.proofs.SeenBelow.{no_end}
use Rattle.edit_steps.specs.StepCount.{is_child, is_live}
use Rattle.edit_steps.specs.declared.stage.among.Among.{Among}
use Rattle.edit_steps.specs.declared.stage.among.Among.TheVariants.{Gap, Slots}
use Rattle.edit_steps.specs.inner.Widths.{Held}
use Rattle.edit_steps.specs.inner.AimTargets.{Child, count_in, child_count, child_in, child_at, live_target, Site}
use Rattle.edit_steps.proofs.AimSteps.{same_path_from, range, elsewhere-insert, other_gaps, slots, elsewhere-replace, gaps_over, slot_outside, same_gap, same_slot}
use Rattle.edit_steps.proofs.Stepping.{DeadAt}

pub parent-last : (i : ℕ) (q : Path) → parent_path (i ∷ q) ++ last_slot (i ∷ q) ∷ [] ≡ i ∷ q
parent-last i [] = refl
parent-last i (j ∷ q) = ap (λ p. i ∷ p) (parent-last j q)

-- ---- the last slot of a path
front-is : (p : Path) → 1 ≤ length p → take (length p - 1) p ≡ parent_path p
front-is [] h = absurd (omega arith)
front-is (i ∷ []) h = refl
front-is (i ∷ j ∷ p) h =
    let less : length (i ∷ j ∷ p) - 1 ≡ suc (length (j ∷ p) - 1) = omega arith in
    ap (λ n. take n (i ∷ j ∷ p)) less ∙ ap (λ q. i ∷ q) (front-is (j ∷ p) (omega arith))

last-is : (p : Path) → 1 ≤ length p → get_or p (length p - 1) 0 ≡ last_slot p
last-is [] h = absurd (omega arith)
last-is (i ∷ []) h = refl
last-is (i ∷ j ∷ p) h =
    let less : length (i ∷ j ∷ p) - 1 ≡ suc (length (j ∷ p) - 1) = omega arith in
    ap (λ n. get_or (i ∷ j ∷ p) n 0) less ∙ last-is (j ∷ p) (omega arith)

pub child-by-last : (t : SyntaxTree) (p : Path) → 1 ≤ length p → child_at t p ≡ option_and_then (child_in (take (length p - 1) p) (get_or p (length p - 1) 0)) (child_count t (take (length p - 1) p))
child-by-last t [] h = absurd (omega arith)
child-by-last t (i ∷ q) h =
    sym (ap₂ (λ p s. option_and_then (child_in p s) (child_count t p)) (front-is (i ∷ q) h) (last-is (i ∷ q) h))

pub count-token : (k : ℕ) (s : List ℕ) (p : Path) → child_count (Token k s) p ≡ None
count-token k s [] = refl
count-token k s (i ∷ p) = refl

-- ---- what an aim reaches
pub record IsRange (a : Aim) (p : Path) (count i n : ℕ) : Type 0 where
  pub more : ℕ
  pub wanted : ℕ
  pub over : a ≡ Over (range p i (suc wanted))
  pub so_many : n ≡ suc more
  pub most : more ≤ wanted
  pub all : (j : ℕ) → i + more < j → j < count → i + wanted < j
  pub within : i + more < count

abbrev pub Reaches : Aim → Path → ℕ → Among → Type 0
Reaches a p count (Gap g) = (aims_at_gap p g a ≡ true) × (g ≤ count)
Reaches a p count (Slots i n) = IsRange a p count i n

pub record IsLive (t : SyntaxTree) (a : Aim) (p : Path) (at_it : Among) : Type 0 where
  pub kind : ℕ
  pub children : Forest ℕ
  pub there : at t p ≡ Some (Node kind children)
  pub parent : parents a ≡ p ∷ []
  pub reaches : Reaches a p (length (trees children)) at_it
  pub live : is_live t a ≡ true

-- ---- children
-- both say of the tree at the parent's path whether it has such a child
child-here : (p : Path) (i : ℕ) (o : Option SyntaxTree) → option_map_or (λ e. true) (option_and_then (λ c. at c (i ∷ [])) o) false ≡ is_some (option_and_then (child_in p i) (option_and_then count_in o))
child-here p i None = refl
child-here p i (Some (Token k s)) = refl
child-here p i (Some (Node k f)) =
    let found : Child = record { parent = p; slot = i; left = length (trees f) - i } in
    elim (cases_lt i (length (trees f))) [
      | inl less ↦
          ap (λ o. option_map_or (λ e. true) (option_and_then (λ c. Some c) o) false) (slice_get-get_or (trees f) i (Token 0 []) less) ∙ sym (ap (λ b. is_some (cond b (Some found) None)) (lt-ltb i (length (trees f)) less))
      | inr most ↦
          ap (λ o. option_map_or (λ e. true) (option_and_then (λ c. Some c) o) false) (slice_get_past (trees f) i most) ∙ sym (ap (λ b. is_some (cond b (Some found) None)) (le-ltb i (length (trees f)) most))
    ]

child-live : (t : SyntaxTree) (i : ℕ) (q : Path) → is_child t (i ∷ q) ≡ is_some (child_at t (i ∷ q))
child-live t i q =
    ap (λ o. option_map_or (λ e. true) o false) (ap (at t) (sym (parent-last i q)) ∙ at-append t (parent_path (i ∷ q)) (last_slot (i ∷ q) ∷ [])) ∙ child-here (parent_path (i ∷ q)) (last_slot (i ∷ q)) (at t (parent_path (i ∷ q)))

first-live : (o : Option SyntaxTree) → option_map_or (λ e. not (is_token e)) o false ≡ is_some (option_and_then count_in o)
first-live None = refl
first-live (Some (Token k s)) = refl
first-live (Some (Node k f)) = refl

-- a child that is found
record IsFound (t : SyntaxTree) (p : Path) (i : ℕ) (c : Child) : Type 0 where
  kind : ℕ
  children : Forest ℕ
  there : at t p ≡ Some (Node kind children)
  within : i < length (trees children)
  is : c ≡ record { parent = p; slot = i; left = length (trees children) - i }

is-found : (t : SyntaxTree) (p : Path) (i : ℕ) (c : Child) (o : Option SyntaxTree) → at t p ≡ o → option_and_then (child_in p i) (option_and_then count_in o) ≡ Some c → IsFound t p i c
is-found t p i c None there h = cc
is-found t p i c (Some (Token k s)) there h = cc
is-found t p i c (Some (Node k f)) there h =
    let found : Child = record { parent = p; slot = i; left = length (trees f) - i } in
    elim (cases_lt i (length (trees f))) [
      | inl less ↦
          let same : Some found ≡ Some c = sym (ap (λ b. cond b (Some found) None) (lt-ltb i (length (trees f)) less)) ∙ h in
          record { kind = k; children = f; there = there; within = less; is = sym (same_Some found c same) }
      | inr most ↦
          let none : None ≡ Some c = sym (ap (λ b. cond b (Some found) None) (le-ltb i (length (trees f)) most)) ∙ h in
          absurd (cc)
    ]

-- one that is not: its parent is no node, or has so few children
few : (p : Path) (i : ℕ) (o : Option SyntaxTree) → option_and_then (child_in p i) (option_and_then count_in o) ≡ None → (k : ℕ) (f : Forest ℕ) → o ≡ Some (Node k f) → length (trees f) ≤ i
few p i o h k f there =
    let found : Child = record { parent = p; slot = i; left = length (trees f) - i } in
    let tested : cond (nat_lt i (length (trees f))) (Some found) None ≡ None = sym (ap (λ x. option_and_then (child_in p i) (option_and_then count_in x)) there) ∙ h in
    elim (cases_lt i (length (trees f))) [
      | inl less ↦ let some : Some found ≡ None = sym (ap (λ b. cond b (Some found) None) (lt-ltb i (length (trees f)) less)) ∙ tested in absurd (cc)
      | inr most ↦ most
    ]

-- ---- an aim that is found
first_gap : (p : Path) → aims_at_gap p 0 (FirstIn p) ≡ true
first_gap p = ap (λ b. b && true) (same_path_from p p refl)

next_gap : (i : ℕ) (q : Path) → aims_at_gap (parent_path (i ∷ q)) (suc (last_slot (i ∷ q))) (AfterElement (i ∷ q)) ≡ true
next_gap i q =
    let p = parent_path (i ∷ q) in
    let g = suc (last_slot (i ∷ q)) in
    ap₂ (λ b c. b && c) (same_path_from p p refl) (eq-eqb g g refl)

over_parent : (i : ℕ) (q : Path) (ps : List Path) → parents (Over ((parent_path (i ∷ q) ++ last_slot (i ∷ q) ∷ []) ∷ ps)) ≡ parent_path (i ∷ q) ∷ []
over_parent i q ps = ap (λ x. parents (Over (x ∷ ps))) (parent-last i q)

over_live : (t : SyntaxTree) (i : ℕ) (q : Path) (ps : List Path) → is_live t (Over ((parent_path (i ∷ q) ++ last_slot (i ∷ q) ∷ []) ∷ ps)) ≡ is_child t (i ∷ q)
over_live t i q ps = ap (is_child t) (parent-last i q)

found-first : (t : SyntaxTree) (p : Path) (b : Site) (o : Option SyntaxTree) → at t p ≡ o → option_map (λ count. (p, Gap 0)) (option_and_then count_in o) ≡ Some b → IsLive t (FirstIn p) b.0 b.1
found-first t p b None there h = cc
found-first t p b (Some (Token k s)) there h = cc
found-first t p b (Some (Node k f)) there h =
    let here : IsLive t (FirstIn p) p (Gap 0) = record {
      kind = k;
      children = f;
      there = there;
      parent = refl;
      reaches = (first_gap p, omega arith);
      live = ap (λ o. option_map_or (λ e. not (is_token e)) o false) there;
    } in
    subst (λ x. IsLive t (FirstIn p) x.0 x.1) (same_Some (p, Gap 0) b h) here

module _ (t : SyntaxTree) (i : ℕ) (q : Path) where
  abbrev parent : Path
  parent = parent_path (i ∷ q)

  abbrev last : ℕ
  last = last_slot (i ∷ q)

  some-child : (c : Child) → child_at t (i ∷ q) ≡ Some c → is_child t (i ∷ q) ≡ true
  some-child c h = child-live t i q ∙ ap is_some h

  found-after : (b : Site) (o : Option Child) → child_at t (i ∷ q) ≡ o → option_map (λ c. (c.parent, Gap (suc c.slot))) o ≡ Some b → IsLive t (AfterElement (i ∷ q)) b.0 b.1
  found-after b None was h = cc
  found-after b (Some c) was h =
      let found = is-found t parent last c (at t parent) refl was in
      let whole : ◌≡◌ {A = Site} (c.parent, Gap (suc c.slot)) (parent, Gap (suc last)) = ap (λ x. (x.parent, Gap (suc x.slot))) found.is in
      let here : IsLive t (AfterElement (i ∷ q)) parent (Gap (suc last)) = record {
        kind = found.kind;
        children = found.children;
        there = found.there;
        parent = refl;
        reaches = (next_gap i q, omega (arith, found.within));
        live = some-child c was;
      } in
      subst (λ x. IsLive t (AfterElement (i ∷ q)) x.0 x.1) (sym whole ∙ same_Some (c.parent, Gap (suc c.slot)) b h) here

  found-over : (n : ℕ) (b : Site) (o : Option Child) → child_at t (i ∷ q) ≡ o → option_map (λ c. (c.parent, Slots c.slot (min (suc n) c.left))) o ≡ Some b → IsLive t (Over (range parent last (suc n))) b.0 b.1
  found-over n b None was h = cc
  found-over n b (Some c) was h =
      let found = is-found t parent last c (at t parent) refl was in
      let count = length (trees found.children) in
      let whole : ◌≡◌ {A = Site} (c.parent, Slots c.slot (min (suc n) c.left)) (parent, Slots last (min (suc n) (count - last))) = ap (λ x. (x.parent, Slots x.slot (min (suc n) x.left))) found.is in
      let inside : last < count = found.within in
      let here : IsLive t (Over (range parent last (suc n))) parent (Slots last (min (suc n) (count - last))) = record {
        kind = found.kind;
        children = found.children;
        there = found.there;
        parent = over_parent i q (range parent (suc last) n);
        reaches = record {
          more = min n (count - suc last);
          wanted = n;
          over = refl;
          so_many = omega arith;
          most = omega arith;
          all = λ j l u. omega arith;
          within = omega arith;
        };
        live = over_live t i q (range parent (suc last) n) ∙ some-child c was;
      } in
      subst (λ x. IsLive t (Over (range parent last (suc n))) x.0 x.1) (sym whole ∙ same_Some (c.parent, Slots c.slot (min (suc n) c.left)) b h) here

pub found-live : (t : SyntaxTree) (p : Path) (w : AimForm) (b : Site) → live_target t p w ≡ Some b → IsLive t (aim_in p w) b.0 b.1
found-live t p form.FirstIn b h = found-first t p b (at t p) refl h
found-live t [] form.AfterElement b h = cc
found-live t (i ∷ q) form.AfterElement b h = found-after t i q b (child_at t (i ∷ q)) refl h
found-live t p (form.Over zero) b h = cc
found-live t [] (form.Over (suc n)) b h = cc
found-live t (i ∷ q) (form.Over (suc n)) b h = found-over t i q n b (child_at t (i ∷ q)) refl h

-- ---- one that is not found
none-mapped : {X Y : Type 0} (f : X → Y) (o : Option X) → option_map f o ≡ None → o ≡ None
none-mapped f None h = refl
none-mapped f (Some x) h = cc

-- so it is not live
pub found-none : (t : SyntaxTree) (p : Path) (w : AimForm) → live_target t p w ≡ None → is_live t (aim_in p w) ≡ false
found-none t p form.FirstIn h = first-live (at t p) ∙ ap is_some (none-mapped (λ n. (p, Gap 0)) (child_count t p) h)
found-none t [] form.AfterElement h = refl
found-none t (i ∷ q) form.AfterElement h = child-live t i q ∙ ap is_some (none-mapped (λ c. (c.parent, Gap (suc c.slot))) (child_at t (i ∷ q)) h)
found-none t [] (form.Over zero) h = refl
found-none t (i ∷ q) (form.Over zero) h = refl
found-none t [] (form.Over (suc n)) h = refl
found-none t (i ∷ q) (form.Over (suc n)) h =
    over_live t i q (range (parent_path (i ∷ q)) (suc (last_slot (i ∷ q))) n) ∙ child-live t i q ∙ ap is_some (none-mapped (λ c. (c.parent, Slots c.slot (min (suc n) c.left))) (child_at t (i ∷ q)) h)

module _ (t : SyntaxTree) (given : ℕ → List SyntaxTree) (xs : List NumberedAim) (c : NumberedAim) (ys : List NumberedAim) (held : Path → Held) where
  -- an aim that alters no node's children
  quiet : ((q : Path) (j : ℕ) → aims_at_gap q j c.1 ≡ false) → ((q : Path) (j : ℕ) → (replaces (q ++ j ∷ []) c.1 ≡ false) × (starts_at (q ++ j ∷ []) c.1 ≡ false)) → DeadAt t given xs c ys held []
  quiet g s = record {
    elsewhere = record {
      labels = refl;
      gaps = λ q n. fun_ext (λ j. same_gap given xs c ys q j (g q j));
      slots = λ q n. fun_ext (λ j. same_slot given xs c ys (q ++ j ∷ []) (s q j).0 (s q j).1);
    };
    agree = λ k f there. record {
      gaps = λ j l. same_gap given xs c ys [] j (g [] j);
      slots = λ j l. same_slot given xs c ys (j ∷ []) (s [] j).0 (s [] j).1;
    };
  }

  -- one that aims at a gap that is not there
  dead-gap : (p : Path) (i : ℕ) → aims_at_gap p i c.1 ≡ true → ((k : ℕ) (f : Forest ℕ) → at t p ≡ Some (Node k f) → length (trees f) < i) → DeadAt t given xs c ys held p
  dead-gap p i here past = record {
    elsewhere = elsewhere-insert given xs c ys p i here;
    agree = λ k f there. record {
      gaps = λ j l. other_gaps given xs c ys p i here (p ++ []) j (λ same. let e = same.1 in absurd (omega (arith, past k f there)));
      slots = λ j l. ap (λ o. o j) (slots given xs c ys p i here (p ++ []));
    };
  }

  -- one that is over slots that are not there
  dead-slots : (p : Path) (i wanted : ℕ) → c.1 ≡ Over (range p i (suc wanted)) → ((k : ℕ) (f : Forest ℕ) → at t p ≡ Some (Node k f) → length (trees f) ≤ i) → DeadAt t given xs c ys held p
  dead-slots p i wanted here past = record {
    elsewhere = elsewhere-replace given xs c ys p i wanted here;
    agree = λ k f there. record {
      gaps = λ j l. ap (λ g. g j) (gaps_over given xs c ys p i wanted here (p ++ []));
      slots = λ j l. slot_outside given xs c ys p i wanted here ((p ++ []) ++ j ∷ []) (λ n a b same.
          let e = (same_from_push (p ++ []) p j n same).1 in
          absurd (omega (arith, past k f there)));
    };
  }

  abbrev Dead : Type 0
  Dead = (p : Path) × DeadAt t given xs c ys held p

  no_node : (o : Option SyntaxTree) → option_and_then count_in o ≡ None → (k : ℕ) (f : Forest ℕ) → o ≡ Some (Node k f) → ⊥
  no_node o h k f there = let wrong = sym (ap (option_and_then count_in) there) ∙ h in cc

  pub found-dead : (p : Path) (w : AimForm) → c.1 ≡ aim_in p w → live_target t p w ≡ None → Dead
  found-dead p form.FirstIn is h =
      let none = none-mapped (λ n. (p, Gap 0)) (child_count t p) h in
      (p, dead-gap p 0 (ap (aims_at_gap p 0) is ∙ first_gap p) (λ k f there. absurd (no_node (at t p) none k f there)))
  found-dead [] form.AfterElement is h =
      ([], quiet (λ q j. ap (aims_at_gap q j) is) (λ q j. (ap (replaces (q ++ j ∷ [])) is, ap (starts_at (q ++ j ∷ [])) is)))
  found-dead (i ∷ q) form.AfterElement is h =
      let p = parent_path (i ∷ q) in
      let s = last_slot (i ∷ q) in
      let none = none-mapped (λ c. (c.parent, Gap (suc c.slot))) (child_at t (i ∷ q)) h in
      (p, dead-gap p (suc s) (ap (aims_at_gap p (suc s)) is ∙ next_gap i q) (λ k f there. let past = few p s (at t p) none k f there in omega arith))
  found-dead [] (form.Over zero) is h =
      ([], quiet (λ q j. ap (aims_at_gap q j) is) (λ q j. (ap (replaces (q ++ j ∷ [])) is, ap (starts_at (q ++ j ∷ [])) is)))
  found-dead (i ∷ q) (form.Over zero) is h =
      ([], quiet (λ q j. ap (aims_at_gap q j) is) (λ q j. (ap (replaces (q ++ j ∷ [])) is, ap (starts_at (q ++ j ∷ [])) is)))
  found-dead [] (form.Over (suc n)) is h =
      ([], quiet (λ q j. ap (aims_at_gap q j) is) (λ q j. (ap (replaces (q ++ j ∷ [])) is ∙ ap (λ b. b || false) (no_end q j), ap (starts_at (q ++ j ∷ [])) is ∙ no_end q j)))
  found-dead (i ∷ q) (form.Over (suc n)) is h =
      let p = parent_path (i ∷ q) in
      let s = last_slot (i ∷ q) in
      let none = none-mapped (λ c. (c.parent, Slots c.slot (min (suc n) c.left))) (child_at t (i ∷ q)) h in
      (p, dead-slots p s n is (λ k f there. few p s (at t p) none k f there))
