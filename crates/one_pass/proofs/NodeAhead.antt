-- What is ahead of an open node, before and after its next aim.
--     ahead                         what is left, where what is made of a child hangs on the marks sought in it
--     Follows, ahead-at             a node that is at the same slot; what is ahead of it
--     ahead-gap, ahead-run, ahead-pass, ahead-below    an insert, a replacement, an aim that says nothing, one inside a child that is passed over
--     behind_of, ahead-open, ahead-made     what is behind a child; a child that is opened, that is made
use Rattle.std.specs.Prelude.{◌≡◌, ℕ, suc, ◌+◌, ◌<◌, ◌≤◌, max, cond, ◌||◌, nat_lt, List, [], ◌∷◌, ◌++◌, drop, length, get_or, refl}
use Rattle.std.specs.List.{AllByRecursion}
use Rattle.std.proofs.Common.{ap, ap₂, sym, ◌∙◌, arith}
use Rattle.std.proofs.lemmas.List.{at_drop_more, length-drop, map-append}
use Rattle.green_tree.specs.Green.{Branch}
use Rattle.green_tree.specs.declared.green.GreenElement.TheVariants.{Node}
use Rattle.green_tree.specs.declared.green.GreenElement.{GreenElement}
use Rattle.edit_change.specs.declared.aimed.Aimed.{Aimed}
use Rattle.edit_change.specs.inner.Aimed.{FormedAim}
use Rattle.one_pass.specs.declared.open_node.OpenNode.{OpenNode}
use Rattle.one_pass.specs.inner.Marked.{Marking}
use Rattle.one_pass.specs.inner.OpenNodes.{sought_in, IsSameNode}
use Rattle.one_pass.specs.inner.Sweep.{lowered, seen_at, covered, in_gap, from_slot, inside_child, in_slot, left, From, IsGap, IsRun, IsBelow, PassesAll}
use Rattle.one_pass.proofs.OneAim.{below-gaps, below-slots}
use Rattle.one_pass.proofs.Sweeping.{pass-on, put-gap, put-run, open-on, from-less}
use Rattle.one_pass.proofs.NodeSteps.{item-at}

pub record Follows (g k : OpenNode) : Type 0 where
  pub same : IsSameNode g k
  pub sought : sought_in k ≡ sought_in g
  pub slot : k.slot ≡ g.slot

-- the same slots before another one are passed over
passed-alike : {X : Type 0} (given : ℕ → List X) (made : ℕ → List FormedAim → GreenElement → X) (p q : ℕ) (xs : List FormedAim) (i : ℕ) (es : List GreenElement) → ((j : ℕ) → i ≤ j → j < i + length es → nat_lt j p ≡ nat_lt j q) → left given made p xs i es ≡ left given made q xs i es
passed-alike given made p q xs i [] h = refl
passed-alike given made p q xs i (e ∷ es) h =
    ap₂ (λ b us. in_gap given i xs ++ (cond (covered i xs || b) (from_slot given i xs) (made i (inside_child i xs) e ∷ []) ++ us)) (h i (omega arith) (omega arith)) (passed-alike given made p q xs (suc i) es (λ j l m. h j (omega (arith, l)) (omega (arith, m))))

rest-long : (es : List GreenElement) (i : ℕ) → i ≤ length es → i + length (drop i es) ≡ length es
rest-long es i l = omega (arith, length-drop i es, l)

module _ {X : Type 0} (given : ℕ → List X) (made : List Marking → ℕ → List FormedAim → GreenElement → X) where
  abbrev pub ahead : OpenNode → List X
  ahead f = left given (made (sought_in f)) f.passed (seen_at f.depth f.aims.now) f.slot (drop f.slot f.elements.now)

  -- with these aims, where the slots before p are passed over
  abbrev pub with : OpenNode → ℕ → List Aimed → List X
  with g p xs = left given (made (sought_in g)) p (seen_at g.depth xs) g.slot (drop g.slot g.elements.now)

  pub ahead-at : (g k : OpenNode) → Follows g k → ahead k ≡ with g k.passed k.aims.now
  ahead-at g k h =
      ap₂ (λ ls d. left given (made ls) k.passed (seen_at d k.aims.now) k.slot (drop k.slot k.elements.now)) h.sought h.same.depth ∙ ap₂ (λ i es. left given (made (sought_in g)) k.passed (seen_at g.depth k.aims.now) i (drop i es.now)) h.slot h.same.elements

  module _ (g k : OpenNode) (a : Aimed) (follows : Follows g k) (aims : g.aims.now ≡ a ∷ k.aims.now) where
    first : ahead g ≡ with g g.passed (a ∷ k.aims.now)
    first = ap (with g g.passed) aims

    next : k.passed ≡ g.passed → with g g.passed k.aims.now ≡ ahead k
    next passed = sym (ahead-at g k follows ∙ ap (λ p. with g p k.aims.now) passed)

    pub ahead-gap : k.passed ≡ g.passed → IsGap g.slot (lowered g.depth a).path a.form → ahead g ≡ given a.change ++ ahead k
    ahead-gap passed is =
        first ∙ put-gap given (made (sought_in g)) g.passed (lowered g.depth a) (seen_at g.depth k.aims.now) g.slot (drop g.slot g.elements.now) is ∙ ap (λ us. given a.change ++ us) (next passed)

    pub ahead-pass : k.passed ≡ g.passed → g.slot ≤ length g.elements.now → PassesAll (length g.elements.now) (lowered g.depth a) → ahead g ≡ ahead k
    ahead-pass passed l says =
        let long = rest-long g.elements.now g.slot l in
        first ∙ pass-on given (made (sought_in g)) g.passed (lowered g.depth a) (seen_at g.depth k.aims.now) g.slot (drop g.slot g.elements.now) (λ j m n. says.gaps j (omega (arith, n, long))) (λ j m n. says.slots j (omega (arith, n, long))) ∙ next passed

    -- the children from the slot on
    module _ (inside : g.slot < length g.elements.now) where
      abbrev there : (e : GreenElement) × (e ≡ get_or g.elements.now g.slot e)
      there = item-at g.elements.now g.slot inside

      abbrev behind : List GreenElement
      behind = drop (g.slot + 1) g.elements.now

      cut : (p : ℕ) (xs : List FormedAim) → left given (made (sought_in g)) p xs g.slot (drop g.slot g.elements.now) ≡ left given (made (sought_in g)) p xs g.slot (there.0 ∷ behind)
      cut p xs = at_drop_more (left given (made (sought_in g)) p xs g.slot) g.elements.now g.slot there.0 inside ∙ ap (λ e. left given (made (sought_in g)) p xs g.slot (e ∷ behind)) (sym there.1)

      pub ahead-run : (n : ℕ) → ((j : ℕ) → j < length g.elements.now → nat_lt j (max g.passed (g.slot + n)) ≡ nat_lt j k.passed) → IsRun g.slot n (lowered g.depth a).path a.form → From (suc (g.slot + g.slot)) (seen_at g.depth k.aims.now) → ahead g ≡ given a.change ++ ahead k
      ahead-run n alike is later =
          let xs = seen_at g.depth k.aims.now in
          let far = max g.passed (g.slot + n) in
          let long = rest-long g.elements.now g.slot (omega (arith, inside)) in
          let last : left given (made (sought_in g)) far xs g.slot (there.0 ∷ behind) ≡ ahead k = sym (cut far xs) ∙ passed-alike given (made (sought_in g)) far k.passed xs g.slot (drop g.slot g.elements.now) (λ j m l. alike j (omega (arith, l, long))) ∙ sym (ahead-at g k follows) in
          first ∙ cut g.passed (lowered g.depth a ∷ xs) ∙ put-run given (made (sought_in g)) g.passed n (lowered g.depth a) xs g.slot there.0 behind is later ∙ ap (λ us. given a.change ++ us) last

      -- one inside a child from which nothing comes of it
      pub ahead-below : k.passed ≡ g.passed → IsBelow g.slot (lowered g.depth a) → in_slot given (made (sought_in g)) g.passed (lowered g.depth a ∷ seen_at g.depth k.aims.now) g.slot there.0 ≡ in_slot given (made (sought_in g)) g.passed (seen_at g.depth k.aims.now) g.slot there.0 → ahead g ≡ ahead k
      ahead-below passed below here =
          let xs = seen_at g.depth k.aims.now in
          let b = lowered g.depth a in
          let later = pass-on given (made (sought_in g)) g.passed b xs (suc g.slot) behind (λ j m n. below-gaps g.slot b below j) (λ j m n. below-slots g.slot b below j (λ e. absurd (omega (arith, m, e)))) in
          let gap : in_gap given g.slot (b ∷ xs) ≡ in_gap given g.slot xs = ap (λ t. cond t (given a.change) [] ++ in_gap given g.slot xs) (below-gaps g.slot b below g.slot) in
          first ∙ cut g.passed (b ∷ xs) ∙ ap₂ (λ us vs. us ++ vs) gap (ap₂ (λ us vs. us ++ vs) here later) ∙ sym (cut g.passed xs) ∙ next passed

  -- ---- a child is opened: these aims are inside it, and the others behind it
  abbrev pub behind_of : OpenNode → List X
  behind_of g = left given (made (sought_in g)) g.passed (seen_at g.depth g.aims.now) (suc g.slot) (drop (suc g.slot) g.elements.now)

  -- what is made of later children is made alike by other marks
  pub made-alike : (ms ns : List Marking) (p : ℕ) (xs : List FormedAim) (i : ℕ) (es : List GreenElement) → ((j : ℕ) (ys : List FormedAim) (e : GreenElement) → i ≤ j → made ms j ys e ≡ made ns j ys e) → left given (made ms) p xs i es ≡ left given (made ns) p xs i es
  made-alike ms ns p xs i [] same = refl
  made-alike ms ns p xs i (e ∷ es) same =
      ap₂ (λ u us. in_gap given i xs ++ (cond (covered i xs || nat_lt i p) (from_slot given i xs) (u ∷ []) ++ us)) (same i (inside_child i xs) e (omega arith)) (made-alike ms ns p xs (suc i) es (λ j ys d l. same j ys d (omega (arith, l))))

  pub ahead-open : (f g : OpenNode) (run : List Aimed) (b : Branch) → IsSameNode f g → g.slot ≡ f.slot → g.passed ≡ f.passed → f.aims.now ≡ run ++ g.aims.now → f.slot < length f.elements.now → f.passed ≤ f.slot → ((d : GreenElement) → get_or f.elements.now f.slot d ≡ Node b) → AllByRecursion (IsBelow f.slot) (seen_at f.depth run) → From (suc f.slot + suc f.slot) (seen_at f.depth g.aims.now) → ((j : ℕ) (ys : List FormedAim) (e : GreenElement) → suc f.slot ≤ j → made (sought_in f) j ys e ≡ made (sought_in g) j ys e) → ahead f ≡ made (sought_in f) f.slot (inside_child f.slot (seen_at f.depth run)) (Node b) ∷ behind_of g
  ahead-open f g run b same slot passed parts inside stays element all later alike =
      let i = f.slot in
      let es = f.elements.now in
      let rest = seen_at f.depth g.aims.now in
      let next : i + 1 ≡ suc i = omega arith in
      let back : left given (made (sought_in f)) f.passed rest (suc i) (drop (suc i) es) ≡ behind_of g = made-alike (sought_in f) (sought_in g) f.passed rest (suc i) (drop (suc i) es) alike ∙ sym (ap (λ p. left given (made (sought_in g)) p (seen_at g.depth g.aims.now) (suc g.slot) (drop (suc g.slot) g.elements.now)) passed ∙ ap₂ (λ d j. left given (made (sought_in g)) f.passed (seen_at d g.aims.now) (suc j) (drop (suc j) g.elements.now)) same.depth slot ∙ ap (λ us. left given (made (sought_in g)) f.passed rest (suc i) (drop (suc i) us.now)) same.elements) in
      ap (λ xs. left given (made (sought_in f)) f.passed xs i (drop i es)) (ap (seen_at f.depth) parts ∙ map-append (lowered f.depth) run g.aims.now) ∙ at_drop_more (left given (made (sought_in f)) f.passed (seen_at f.depth run ++ rest) i) es i (Node b) inside ∙ ap₂ (λ e us. left given (made (sought_in f)) f.passed (seen_at f.depth run ++ rest) i (e ∷ us)) (element (Node b)) (ap (λ n. drop n es) next) ∙ open-on given (made (sought_in f)) f.passed (seen_at f.depth run) rest i (Node b) (drop (suc i) es) stays all (from-less (suc (suc (i + i))) (suc i + suc i) rest (omega arith) later) ∙ ap (λ us. made (sought_in f) i (inside_child i (seen_at f.depth run)) (Node b) ∷ us) back

  -- and is made
  pub ahead-made : (g k : OpenNode) → IsSameNode g k → sought_in k ≡ sought_in g → k.passed ≡ g.passed → k.aims ≡ g.aims → k.slot ≡ suc g.slot → ahead k ≡ behind_of g
  ahead-made g k same sought passed aims slot =
      ap₂ (λ ms p. left given (made ms) p (seen_at k.depth k.aims.now) k.slot (drop k.slot k.elements.now)) sought passed ∙ ap₂ (λ d xs. left given (made (sought_in g)) g.passed (seen_at d xs.now) k.slot (drop k.slot k.elements.now)) same.depth aims ∙ ap₂ (λ j us. left given (made (sought_in g)) g.passed (seen_at g.depth g.aims.now) j (drop j us.now)) slot same.elements
