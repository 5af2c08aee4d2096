-- The children that touch an offset, as they are put on a stack and visited from its end.
use Rattle.std.proofs.Common.{◌≡◌, ℕ, ◌+◌, ◌-◌, ◌<◌, ◌≤◌, List, [], ◌∷◌, ◌++◌, map, length, get_or, take, drop, reverse, Option, Some, refl, ap, sym, ◌∙◌, subst, arith, add-one, append_assoc, drop-cons}
use Rattle.std.specs.Prelude.{filter, sum_by}
use Rattle.std.proofs.lemmas.List.{append-nil, map-append, take_all, reverse-append}
use Rattle.std.proofs.lemmas.List.Sums.{sum_by-append}
use Rattle.green_tree.specs.Path.{Path}
use Rattle.green_tree.specs.Tree.{SyntaxTree, at, forest, text_length}
use Rattle.green_tree.specs.Order.{tokens_before, start}
use Rattle.green_tree.specs.Offsets.{touches}
use Rattle.green_tree.specs.Green.{Leaf, leaf_tree, Branch, branch_tree}
use Rattle.green_tree.specs.GreenElement.{element_tree, element_trees}
use Rattle.green_tree.specs.inner.FoundToken.{reached_below}
use Rattle.green_tree.specs.inner.TokensByOffset.{tokens_touching}
use Rattle.green_tree.specs.inner.Stacked.{AreStacked}
use Rattle.green_tree.specs.inner.Touched.{IsTouched, depth_of, reached_in, touched_size, PushesTouched}
use Rattle.green_tree.specs.inner.TreeSize.{size, forest_size}
use Rattle.green_tree.specs.declared.green.GreenElement.{GreenElement}
use Rattle.green_tree.specs.declared.offsets.Touched.{Touched}
use Rattle.green_tree.proofs.Stacks.{stack_low, stack_append, stack_up_to, stack_rest, stack_last, take_fewer, take_front, take_length}
use Rattle.green_tree.proofs.FoundTokens.{IsChildAt, tokens_before-none, tokens_before-all}
use Rattle.green_tree.proofs.Touching.{IsSpanAt, touching_in, touching_token, touched_somewhere, reached-child}

-- ---- what a stack leads to
reached-append : (path : Path) (fs gs : List Touched) → reached_in path (fs ++ gs) ≡ reached_in path fs ++ reached_in path gs
reached-append path [] gs = refl
reached-append path (f ∷ fs) gs =
    let own = reached_below (take f.depth path ++ f.slot ∷ []) (element_tree f.element.now) (tokens_touching (element_tree f.element.now) f.offset) in
    ap (λ ps. own ++ ps) (reached-append path fs gs) ∙ sym (append_assoc own (reached_in path fs) (reached_in path gs))

-- what is on the stack is reached off each path that begins alike
reached-same : (low high : ℕ) (p q : Path) (fs : List Touched) → AreStacked depth_of IsTouched low high fs → take high p ≡ take high q → reached_in p fs ≡ reached_in q fs
reached-same low high p q [] is same = refl
reached-same low high p q (f ∷ fs) is same =
    let below = stack_low depth_of IsTouched f.depth high fs is.1.1 in
    let front : take f.depth p ≡ take f.depth q = take_fewer f.depth high p below ∙ ap (take f.depth) same ∙ sym (take_fewer f.depth high q below) in
    ap (λ r. reached_below (r ++ f.slot ∷ []) (element_tree f.element.now) (tokens_touching (element_tree f.element.now) f.offset) ++ reached_in p fs) front
    ∙ ap (λ ps. reached_below (take f.depth q ++ f.slot ∷ []) (element_tree f.element.now) (tokens_touching (element_tree f.element.now) f.offset) ++ ps) (reached-same f.depth high p q fs is.1.1 same)

-- ---- the children of a node, up to a slot
pub record ArePushed (b : Branch) (es : List GreenElement) (offset depth slot : ℕ) (old new : List Touched) : Type 0 where
  pub more : List Touched
  pub added : new ≡ old ++ more
  pub stacked : AreStacked depth_of IsTouched depth depth more
  pub reached : (path : Path) → length path ≡ depth → reached_in path more ≡ reached_below path (branch_tree b) (filter (touches (branch_tree b) offset) (tokens_before (branch_tree b) (slot ∷ [])))
  pub smaller : sum_by touched_size more + forest_size (forest (element_trees (drop slot es))) ≤ forest_size (forest (element_trees es))

pub pushed_none : (b : Branch) (es : List GreenElement) (offset depth : ℕ) (old : List Touched) → ArePushed b es offset depth 0 old old
pushed_none b es offset depth old = record {
  more = [];
  added = sym (append-nil old);
  stacked = omega arith;
  reached = λ path h. ap (λ ps. reached_below path (branch_tree b) (filter (touches (branch_tree b) offset) ps)) (sym (tokens_before-none b));
  smaller = omega arith;
}

size_left : (es : List GreenElement) (i : ℕ) (e : GreenElement) → i < length es → e ≡ get_or es i e → forest_size (forest (element_trees (drop i es))) ≡ size (element_tree e) + forest_size (forest (element_trees (drop (i + 1) es)))
size_left es i e h is =
    let next : drop i es ≡ e ∷ drop (i + 1) es = rw (add-one, is) (drop-cons es i e h) in
    ap (λ xs. forest_size (forest (element_trees xs))) next

pub pushed_past : {b : Branch} {es : List GreenElement} {offset depth slot : ℕ} {old new : List Touched} (e : GreenElement) → slot < length es → e ≡ get_or es slot e →
    filter (touches (branch_tree b) offset) (tokens_before (branch_tree b) ((slot + 1) ∷ [])) ≡ filter (touches (branch_tree b) offset) (tokens_before (branch_tree b) (slot ∷ [])) → ArePushed b es offset depth slot old new → ArePushed b es offset depth (slot + 1) old new
pushed_past {b} {es} {offset} {depth} {slot} e h is none so_far = record {
  more = so_far.more;
  added = so_far.added;
  stacked = so_far.stacked;
  reached = λ path deep. so_far.reached path deep ∙ ap (reached_below path (branch_tree b)) (sym none);
  smaller = omega (arith, so_far.smaller, size_left es slot e h is);
}

pub pushed_one : {b : Branch} {es : List GreenElement} {offset : ℕ} {old now new : List Touched} (child : Touched) → child.slot < length es → child.element.now ≡ get_or es child.slot child.element.now → IsChildAt b child.slot (element_tree child.element.now) → IsSpanAt b child.slot (element_tree child.element.now) → start (branch_tree b) (child.slot ∷ []) ≤ offset
    → child.offset ≡ offset - start (branch_tree b) (child.slot ∷ []) → IsTouched child → ArePushed b es offset child.depth child.slot old now → new ≡ now ++ child ∷ [] → ArePushed b es offset child.depth (child.slot + 1) old new
pushed_one {b} {es} {offset} {old} {now} {new} child h is there span begins from touched so_far push =
    let c = element_tree child.element.now in
    let slot = child.slot in
    let before = filter (touches (branch_tree b) offset) (tokens_before (branch_tree b) (slot ∷ [])) in
    let own = tokens_touching c (offset - start (branch_tree b) (slot ∷ [])) in
    record {
      more = so_far.more ++ child ∷ [];
      added = push ∙ ap (λ fs. fs ++ child ∷ []) so_far.added ∙ append_assoc old so_far.more (child ∷ []);
      stacked = stack_append depth_of IsTouched child.depth child.depth child.depth so_far.more (child ∷ []) so_far.stacked (omega arith, (touched, omega arith));
      reached = λ path deep.
          let all : take child.depth path ≡ path = take_all child.depth path (omega arith) in
          let reach : reached_in path (child ∷ []) ≡ reached_below path (branch_tree b) (map (λ p. slot ∷ p) own) =
          append-nil (reached_below (take child.depth path ++ slot ∷ []) c (tokens_touching c child.offset))
          ∙ ap (λ p. reached_below (p ++ slot ∷ []) c (tokens_touching c child.offset)) all
          ∙ ap (λ n. reached_below (path ++ slot ∷ []) c (tokens_touching c n)) from
          ∙ sym (reached-child b slot c path own there) in
          reached-append path so_far.more (child ∷ [])
          ∙ ap (λ ps. ps ++ reached_in path (child ∷ [])) (so_far.reached path deep)
          ∙ ap (λ ps. reached_below path (branch_tree b) before ++ ps) reach
          ∙ sym (map-append (λ p. (path ++ p, at (branch_tree b) p)) before (map (λ p. slot ∷ p) own))
          ∙ ap (reached_below path (branch_tree b)) (sym (touching_in b slot c offset there span begins));
      smaller = omega (arith, so_far.smaller, size_left es slot child.element.now h is, sum_by-append touched_size so_far.more (child ∷ []));
    }

pub pushed_all : {b : Branch} {es : List GreenElement} {offset depth slot : ℕ} {old new : List Touched} → element_trees es ≡ b.children → length es ≤ slot → ArePushed b es offset depth slot old new → PushesTouched (branch_tree b) offset depth old new
pushed_all {b} {es} {offset} {depth} {slot} same h so_far =
    let whole : forest_size (forest (element_trees es)) ≡ forest_size (forest b.children) = ap (λ ts. forest_size (forest ts)) same in
    record {
      more = so_far.more;
      added = so_far.added;
      stacked = so_far.stacked;
      reached = λ path deep. so_far.reached path deep ∙ ap (λ ps. reached_below path (branch_tree b) (filter (touches (branch_tree b) offset) ps)) (tokens_before-all b es slot same h);
      smaller = omega (arith, so_far.smaller, whole);
    }

-- ---- the visits
-- the tokens that touch the offset are those that the stack leads to, and then those that were found, which came from the
-- last to the first
pub record AreVisited (t : SyntaxTree) (offset : ℕ) (path : Path) (stack : List Touched) (found : List (Path × Option SyntaxTree)) : Type 0 where
  pub stacked : AreStacked depth_of IsTouched 0 (length path) stack
  pub all : reached_below [] t (tokens_touching t offset) ≡ reached_in path stack ++ reverse found

-- the way to the last child on the stack
pub record IsNext (path : Path) (rest : List Touched) (last : Touched) (way : Path) : Type 0 where
  pub touched : IsTouched last
  pub deep : length way ≡ last.depth + 1
  pub stacked : AreStacked depth_of IsTouched 0 (length way) rest
  pub reached : reached_in path (rest ++ last ∷ []) ≡ reached_in way rest ++ reached_below way (element_tree last.element.now) (tokens_touching (element_tree last.element.now) last.offset)

pub next_visit : {path way : Path} {rest : List Touched} {last : Touched} → AreStacked depth_of IsTouched 0 (length path) (rest ++ last ∷ []) → way ≡ take last.depth path ++ last.slot ∷ [] → IsNext path rest last way
next_visit {path} {way} {rest} {last} stacked is =
    let top = stack_last depth_of IsTouched 0 (length path) rest last stacked in
    let before = stack_rest depth_of IsTouched 0 (length path) rest last stacked in
    let deep : length way ≡ last.depth + 1 = take_length last.depth path way last.slot top.1 is in
    let same : take last.depth path ≡ take last.depth way = take_front last.depth path way last.slot top.1 is in
    let own : reached_in path (last ∷ []) ≡ reached_below way (element_tree last.element.now) (tokens_touching (element_tree last.element.now) last.offset) =
    append-nil (reached_below (take last.depth path ++ last.slot ∷ []) (element_tree last.element.now) (tokens_touching (element_tree last.element.now) last.offset))
    ∙ ap (λ p. reached_below p (element_tree last.element.now) (tokens_touching (element_tree last.element.now) last.offset)) (sym is) in
    record {
      touched = top.0;
      deep = deep;
      stacked = stack_up_to depth_of IsTouched 0 last.depth (length way) rest before (omega arith);
      reached =
          reached-append path rest (last ∷ [])
          ∙ ap (λ ps. ps ++ reached_in path (last ∷ [])) (reached-same 0 last.depth path way rest before same)
          ∙ ap (λ ps. reached_in way rest ++ ps) own;
    }

pub visit_node : {t : SyntaxTree} {offset depth : ℕ} {path way : Path} {rest new : List Touched} {last : Touched} {found : List (Path × Option SyntaxTree)} → AreVisited t offset path (rest ++ last ∷ []) found → IsNext path rest last way → depth ≡ length way → PushesTouched (element_tree last.element.now) last.offset depth rest new → AreVisited t offset way new found
visit_node {t} {offset} {depth} {path} {way} {rest} {new} {last} {found} visited next deep pushes = record {
  stacked = subst (λ d. AreStacked depth_of IsTouched 0 d new) deep (subst (AreStacked depth_of IsTouched 0 depth) (sym pushes.added) (stack_append depth_of IsTouched 0 depth depth rest pushes.more (subst (λ d. AreStacked depth_of IsTouched 0 d rest) (sym deep) next.stacked) pushes.stacked));
  all =
      visited.all ∙ ap (λ ps. ps ++ reverse found) next.reached
      ∙ ap (λ ps. (reached_in way rest ++ ps) ++ reverse found) (sym (pushes.reached way (sym deep)))
      ∙ ap (λ ps. ps ++ reverse found) (sym (reached-append way rest pushes.more) ∙ ap (reached_in way) (sym pushes.added));
}

pub visit_token : {t : SyntaxTree} {offset : ℕ} {path way : Path} {rest : List Touched} {last : Touched} {found new : List (Path × Option SyntaxTree)} (l : Leaf) → AreVisited t offset path (rest ++ last ∷ []) found → IsNext path rest last way → element_tree last.element.now ≡ leaf_tree l → new ≡ found ++ (way, Some (leaf_tree l)) ∷ [] → AreVisited t offset way rest new
visit_token {t} {offset} {path} {way} {rest} {last} {found} {new} l visited next is push =
    let long : 0 < length l.text = subst (λ u. 0 < text_length u) is next.touched.some in
    let within : last.offset ≤ length l.text = subst (λ u. last.offset ≤ text_length u) is next.touched.within in
    let own : reached_below way (element_tree last.element.now) (tokens_touching (element_tree last.element.now) last.offset) ≡ (way, Some (leaf_tree l)) ∷ [] =
    ap (λ u. reached_below way u (tokens_touching u last.offset)) is
    ∙ ap (reached_below way (leaf_tree l)) (touching_token l last.offset long within)
    ∙ ap (λ p. (p, Some (leaf_tree l)) ∷ []) (append-nil way) in
    record {
      stacked = next.stacked;
      all =
          visited.all ∙ ap (λ ps. ps ++ reverse found) (next.reached ∙ ap (λ ps. reached_in way rest ++ ps) own)
          ∙ append_assoc (reached_in way rest) ((way, Some (leaf_tree l)) ∷ []) (reverse found)
          ∙ ap (λ ps. reached_in way rest ++ ps) (sym (ap reverse push ∙ reverse-append found ((way, Some (leaf_tree l)) ∷ [])));
    }

-- while a child is on the stack, some token touches the offset
last_of_none : {X : Type 0} (xs ys zs : List X) → (xs ++ ys) ++ zs ≡ [] → ys ≡ []
last_of_none [] [] zs none = refl
last_of_none [] (y ∷ ys) zs none = absurd (cc)
last_of_none (x ∷ xs) ys zs none = absurd (cc)

none_mapped : {X Y : Type 0} (f : X → Y) (xs : List X) → map f xs ≡ [] → xs ≡ []
none_mapped f [] none = refl
none_mapped f (x ∷ xs) none = absurd (cc)

pub visit_is_some : {t : SyntaxTree} {offset : ℕ} {path way : Path} {rest : List Touched} {last : Touched} {found : List (Path × Option SyntaxTree)} → AreVisited t offset path (rest ++ last ∷ []) found → IsNext path rest last way → tokens_touching t offset ≡ [] → ⊥
visit_is_some {t} {offset} {path} {way} {rest} {last} {found} visited next none =
    let tree = element_tree last.element.now in
    let own = reached_below way tree (tokens_touching tree last.offset) in
    let all : (reached_in way rest ++ own) ++ reverse found ≡ [] = sym (visited.all ∙ ap (λ ps. ps ++ reverse found) next.reached) ∙ ap (reached_below [] t) none in
    touched_somewhere tree last.offset next.touched.some next.touched.within (none_mapped (λ p. (way ++ p, at tree p)) (tokens_touching tree last.offset) (last_of_none (reached_in way rest) own (reverse found) all))

pub popped_is_some : {t : SyntaxTree} {offset : ℕ} {path : Path} {stack : List Touched} {found : List (Path × Option SyntaxTree)} (rest : List Touched) (last : Touched) → AreVisited t offset path stack found → stack ≡ rest ++ last ∷ [] → tokens_touching t offset ≡ [] → ⊥
popped_is_some {t} {offset} {path} {stack} {found} rest last visited pop none =
    let now = subst (λ fs. AreVisited t offset path fs found) pop visited in
    visit_is_some {way = take last.depth path ++ last.slot ∷ []} now (next_visit now.stacked refl) none

-- the last child is taken from the stack, and the path goes to it
pub record IsPopped (t : SyntaxTree) (offset : ℕ) (path way : Path) (rest : List Touched) (last : Touched) (found : List (Path × Option SyntaxTree)) : Type 0 where
  pub visited : AreVisited t offset path (rest ++ last ∷ []) found
  pub next : IsNext path rest last way

pub popped : {t : SyntaxTree} {offset : ℕ} {path way front : Path} {stack rest : List Touched} {last : Touched} {found : List (Path × Option SyntaxTree)} → AreVisited t offset path stack found → stack ≡ rest ++ last ∷ [] → front ≡ take last.depth path → way ≡ front ++ last.slot ∷ [] → IsPopped t offset path way rest last found
popped {t} {offset} {path} {way} {front} {stack} {rest} {last} {found} visited pop cut push =
    let now = subst (λ fs. AreVisited t offset path fs found) pop visited in
    record { visited = now; next = next_visit now.stacked (push ∙ ap (λ p. p ++ last.slot ∷ []) cut) }

-- where the stack is empty all were found
map_reverse : {X Y : Type 0} (f : X → Y) (xs : List X) → map f (reverse xs) ≡ reverse (map f xs)
map_reverse f [] = refl
map_reverse f (x ∷ xs) =
    ap (map f) (reverse-append (x ∷ []) xs) ∙ map-append f (reverse xs) (x ∷ []) ∙ ap (λ ys. ys ++ f x ∷ []) (map_reverse f xs) ∙ sym (reverse-append (f x ∷ []) (map f xs))

pub visits_end : {t : SyntaxTree} {offset : ℕ} {path : Path} {stack : List Touched} {X : Type 0} (reach : X → Path × Option SyntaxTree) (found : List X) → AreVisited t offset path stack (map reach found) → length stack ≡ 0 → map reach (reverse found) ≡ reached_below [] t (tokens_touching t offset)
visits_end {path} {stack = []} reach found visited none = map_reverse reach found ∙ sym visited.all
visits_end {path} {stack = f ∷ fs} reach found visited none = absurd (omega arith)
