use Rattle.std.proofs.Common.{◌≡◌, ◌+◌, ◌-◌, ◌<◌, ◌≤◌, ℕ, Bool, List, [], ◌∷◌, ◌++◌, false, true, cond, map, drop, length, get_or, slice_get, None, Some, refl, arith, ap, ap₂, sym, ◌∙◌}
use Rattle.std.specs.Option.{option_map_or}
use Rattle.std.proofs.lemmas.Bool.{lt-ltb, le-ltb}
use Rattle.std.proofs.lemmas.List.{append-nil, append_assoc, drop-drop}
use Rattle.std.proofs.lemmas.Option.{slice_get_read, slice_get_past}
use Rattle.green_tree.specs.Path.{Path}
use Rattle.green_tree.specs.GreenElement.{element_tree}
use Rattle.green_tree.specs.declared.green.GreenElement.{GreenElement}
use Rattle.one_pass.specs.inner.Marked.{Marking, mark_below, marks_of, marks_seen, leads, kept_in}
use Rattle.one_pass.specs.inner.OpenNodes.{carried_to}
use Rattle.one_pass.proofs.open_nodes.push_shared.Goals as goal

module _ (place first : ℕ) (es : List GreenElement) (n : ℕ) where
  at-node : (q : Path) → length q < 1 → carried_to place first es n q ≡ []
  at-node [] l = refl
  at-node (i ∷ q) l = absurd (omega (arith, l))

  before : (q : Path) → 1 ≤ length q → get_or q 0 0 < first → carried_to place first es n q ≡ []
  before [] l h = absurd (omega (arith, l))
  before (i ∷ q) l h = ap (λ b. cond b [] (option_map_or (λ e. cond {A = List Marking} (leads (element_tree e) q) ((n, (place + (i - first)) ∷ q) ∷ []) []) (slice_get es i) [])) (lt-ltb i first h)

  no-child : (q : Path) → 1 ≤ length q → first ≤ get_or q 0 0 → slice_get es (get_or q 0 0) ≡ None → carried_to place first es n q ≡ []
  no-child [] l h is = absurd (omega (arith, l))
  no-child (i ∷ q) l h is = ap₂ (λ b o. cond b [] (option_map_or (λ e. cond {A = List Marking} (leads (element_tree e) q) ((n, (place + (i - first)) ∷ q) ∷ []) []) o [])) (le-ltb i first h) is

  in-child : (q : Path) (e : GreenElement) → 1 ≤ length q → first ≤ get_or q 0 0 → slice_get es (get_or q 0 0) ≡ Some e → carried_to place first es n q ≡ cond {A = List Marking} (leads (element_tree e) (drop 1 q)) ((n, (place + (get_or q 0 0 - first)) ∷ drop 1 q) ∷ []) []
  in-child [] e l h is = absurd (omega (arith, l))
  in-child (i ∷ q) e l h is = ap₂ (λ b o. cond b [] (option_map_or (λ e. cond {A = List Marking} (leads (element_tree e) q) ((n, (place + (i - first)) ∷ q) ∷ []) []) o [])) (le-ltb i first h) is

-- where nothing is found
nothing : (path : Path) (found ms : List Marking) → ms ≡ [] → found ≡ found ++ map (mark_below path) ms
nothing path found ms none = sym (append-nil found) ∙ ap (λ ns. found ++ map (mark_below path) ns) (sym none)

pub returns-in_default-clause-marks : goal.returns-in_default-clause-marks
returns-in_default-clause-marks c =
    let top = c.args.top.now in
    let q = c.path_from.result.now in
    let short : length q < 1 = omega arith in
    let carried = λ (r : Path). carried_to (length top.out.items) c.args.first top.elements.now c.args.mark.now.number r in
    nothing c.args.walk.now.path.items (marks_of c.args.walk.now.found.items) _ (ap carried (sym c.path_from.ensures) ∙ at-node (length top.out.items) c.args.first top.elements.now c.args.mark.now.number q short)

pub returns-then-slot-first-clause-marks : goal.returns-then-slot-first-clause-marks
returns-then-slot-first-clause-marks c =
    let top = c.args.top.now in
    let q = c.path_from.result.now in
    let carried = λ (r : Path). carried_to (length top.out.items) c.args.first top.elements.now c.args.mark.now.number r in
    nothing c.args.walk.now.path.items (marks_of c.args.walk.now.found.items) _ (ap carried (sym c.path_from.ensures) ∙ before (length top.out.items) c.args.first top.elements.now c.args.mark.now.number q c.in-len1-up.len_at_least c.if-slot-first.true)

pub returns-in_default-get-clause-marks : goal.returns-in_default-get-clause-marks
returns-in_default-get-clause-marks c =
    let top = c.args.top.now in
    let q = c.path_from.result.now in
    let carried = λ (r : Path). carried_to (length top.out.items) c.args.first top.elements.now c.args.mark.now.number r in
    nothing c.args.walk.now.path.items (marks_of c.args.walk.now.found.items) _ (ap carried (sym c.path_from.ensures) ∙ no-child (length top.out.items) c.args.first top.elements.now c.args.mark.now.number q c.in-len1-up.len_at_least c.if-slot-first.false (slice_get_past top.elements.now _ c.in_default-get.ensures.lookup.3))

-- a mark below the child, if its path leads on there
shifted : (b : Bool) (path : Path) (to n : ℕ) (r : Path) → map (mark_below (path ++ to ∷ [])) (cond {A = List Marking} b ((n, r) ∷ []) []) ≡ map (mark_below path) (cond {A = List Marking} b ((n, to ∷ r) ∷ []) [])
shifted true path to n r = ap (λ p. (n, p) ∷ []) (append_assoc path (to ∷ []) r)
shifted false path to n r = refl

pub returns-clause-marks : goal.returns-clause-marks
returns-clause-marks c =
    let top = c.args.top.now in
    let q = c.path_from.result.now in
    let n : ℕ = c.args.mark.now.number in
    let path = c.args.walk.now.path.items in
    let before = marks_of c.args.walk.now.found.items in
    let found = c.in-Some.ensures.lookup in
    let child = c.in-Some.child.now in
    let tree = element_tree child in
    let there = slice_get_read top.elements.now (length top.elements.now) _ child refl found.3.0 found.1 in
    let place : c.len.result ≡ length top.out.items = c.len.ensures ∙ top.out.ok.0 in
    let to : ℕ = length top.out.items + (get_or q 0 0 - c.args.first) in
    let carried = λ (r : Path). carried_to (length top.out.items) c.args.first top.elements.now n r in
    let is = ap carried (sym c.path_from.ensures) ∙ in-child (length top.out.items) c.args.first top.elements.now n q child c.in-len1-up.len_at_least c.if-slot-first.false there in
    let whole = c.deref.ensures.value ∙ c.in_ok-push.ensures.items ∙ ap (λ k. path ++ (k + (get_or q 0 0 - c.args.first)) ∷ []) place in
    let deeper : drop (top.depth + 1) c.args.mark.now.path.now ≡ drop 1 q = sym (drop-drop 1 top.depth c.args.mark.now.path.now) ∙ ap (drop 1) (sym c.path_from.ensures) in
    let one = ap₂ (λ p xs. map (mark_below p) (kept_in tree (marks_seen (top.depth + 1) xs))) whole c.from_ref-here.ensures.value in
    c.in_ok-push_kept.ensures ∙ ap (λ ms. before ++ ms) (one ∙ ap (λ (r : Path). map (mark_below (path ++ to ∷ [])) (kept_in tree ((n, r) ∷ []))) deeper ∙ shifted (leads tree (drop 1 q)) path to n (drop 1 q) ∙ ap (map (mark_below path)) (sym is))
