-- One change more, carried out: what is true of the stages before and after.
--     all_grouped                    facts of the aims of the changes that pass a test
--     only-all                       all of a list is done
--     ready-undropped, ready-fresh, ready-before      of a change that can be the next
--     given-now                      what it gives is its payload as it stands
--     can-splice                     it can be put where it aims
--     taken, counts, kept            the trees after that, the count; the same where it was refused
--     rooted                         the new root after that
--     payload-read, splice-can, splice-counts, splice-takes, splice-rooted, splice-top, splice-kept, waits-there     the same as code asks for it
--     one-node                       a change that brings one node gives one
use Rattle.std.specs.Prelude.{◌≡◌, ◌<◌, ℕ, Bool, true, false, cond, not, ◌&&◌, ◌||◌, nat_eq, List, [], ◌∷◌, map, filter, length, slice_get, unwrap_or, Option, Some, None, option_map, option_and_then, is_none, All, MatchBool, IsSomeAnd, Result, Ok, Err, OnErr, refl}
use Rattle.std.specs.List.{AllByRecursion, list_all, enumerate_from}
use Rattle.std.specs.Option.{option_map_or}
use Rattle.std.proofs.Common.{ap, ap₂, sym, subst, ◌∙◌, arith, get_or}
use Rattle.std.proofs.lemmas.Bool.{cases_Bool, cases_eq, and_parts, and_from, or_cases, or_left, or_right, or_from, not-true, not_from_false, eq-eqb, ne_eqb, false≢true, true≢false}
use Rattle.std.proofs.lemmas.Option.{none-some, same_Some, slice_get_within, slice_get-get_or, get_or_from_slice_get}
use mathlib.Core.Logic.{inl, inr}
use Rattle.cst_core.specs.Path.{Path, has_path, first_item}
use Rattle.cst_core.specs.Tree.{SyntaxTree, Node, Token, at, is_token, forest}
use Rattle.cst_core.specs.Green.{Branch, branch_tree}
use Rattle.cst_core.specs.Element.{Element, IsNode, subtree}
use Rattle.edit_change.specs.Aim.{Aim, replaces}
use Rattle.green_tree.specs.Count.{counted}
use Rattle.edit_change.specs.Rewriting.{NumberedAim, rewritten, rewritten_from}
use Rattle.edit_change.specs.inner.KindOnly.{kind_only}
use Rattle.edit_change.proofs.Untouched.{nothing_rewritten}
use Rattle.edit_change.specs.Change.{payload, targets}
use Rattle.edit_change.specs.ChangeAim.{aim}
use Rattle.edit_change.specs.Fits.{Fits}
use Rattle.edit_change.specs.Nesting.{is_keeping, is_dropped, is_independent, owner, has_owner, undropped}
use Rattle.edit_change.specs.declared.change.Change.{Change}
use Rattle.edit_change.specs.inner.OwnerPlaces.{owner_at}
use Rattle.edit_change.proofs.Clashes.{at-index}
use Rattle.edit_change.proofs.RootAlone.{at-root, free-at-root}
use Rattle.edit_change.proofs.Lists.{all_enumerated, all_filter, all_weaker}
use Rattle.edit_change.proofs.Owners.{owner_cases, owner_from}
use Rattle.edit_steps.specs.Schedule.{owned_first, gap_first, token_first, comes_first, is_ready}
use Rattle.edit_steps.specs.inner.Waiting.{IsWaiting, HasChange}
use Rattle.edit_steps.specs.declared.order.waiting.Waiting.{Waiting}
use Rattle.edit_steps.proofs.Undropped.{all-undropped}
use Rattle.edit_steps.specs.inner.Stage.{old_tree, IsStage}
use Rattle.edit_steps.specs.StepCount.{step_builds}
use Rattle.edit_steps.specs.declared.stage.Stage.{Stage}
use Rattle.edit_change.specs.NewTree.{targets_of, payload_of, moved_aim, independents, dependents, only}
use Rattle.edit_change.specs.inner.OneNode.{IsNodeTree, IsOneNode, BringsNode}
use Rattle.edit_steps.specs.inner.Payload.{payload_trees}
use Rattle.edit_steps.specs.inner.Splicing.{payload_at, CanSplice, Splices, SpliceStays, CountsSplice, AimsAtTop, PutsRoot}
use Rattle.edit_steps.specs.inner.Stages.{GivesTrees, IsPayload, IsPayloadStage, HasNewRoot, HasTrees, IsStages, builds_of, Taking, EachTaking, Takes, StaysAs}
use Rattle.edit_change.specs.StagedChange.{staged_aim, has_stage, tree_of}
use Rattle.edit_steps.specs.declared.stages.Stages.{Stages}
use Rattle.edit_change.proofs.MovedAims.{fit_at}
use Rattle.edit_steps.proofs.LinkTables.{replaces-targets}
use Rattle.edit_steps.proofs.NextAims.{one_more, IsSplit, independent-next, owned-next}
use Rattle.edit_change.proofs.OwnersKeep.{owner-keeps, owner-undropped}
use Rattle.edit_steps.proofs.Splits.{all_map, only-other}

-- ---- groups of aims
pub all_grouped : (P : ℕ → Type 0) (cs : List Change) (test : ℕ × Change → Bool) (h : ℕ × Change → NumberedAim) → ((d : ℕ × Change) → (h d).0 ≡ d.0) → ((i : ℕ) (d : Change) → slice_get cs i ≡ Some d → test (i, d) ≡ true → P i) → AllByRecursion (λ a. P a.0) (map h (filter test (enumerate_from 0 cs)))
all_grouped P cs test h same each =
    all_map (λ a. P a.0) h (filter test (enumerate_from 0 cs)) (all_weaker (λ d. (slice_get cs d.0 ≡ Some d.1) × (test d ≡ true)) (λ d. P (h d).0) (filter test (enumerate_from 0 cs)) (λ d both. subst P (sym (same d)) (each d.0 d.1 both.0 both.1)) (all_filter (λ d. slice_get cs d.0 ≡ Some d.1) test (enumerate_from 0 cs) (all_enumerated cs)))

pub only-all : (done : ℕ → Bool) (cs : List NumberedAim) → AllByRecursion (λ a. done a.0 ≡ true) cs → only done cs ≡ cs
only-all done [] a = refl
only-all done (d ∷ cs) a = ap₂ (λ b ds. cond b (d ∷ ds) ds) a.0 (only-all done cs a.1)

-- ---- a change that can be the next
module _ (cs : List Change) (done : ℕ → Bool) (n : ℕ) (c : Change) (ready : is_ready cs done (n, c) ≡ true) where
  abbrev halves : (not (is_dropped cs c) && not (done n) ≡ true) × (list_all (λ d. not (comes_first cs d (n, c)) || done d.0) (undropped cs) ≡ true)
  halves = and_parts (not (is_dropped cs c) && not (done n)) (list_all (λ d. not (comes_first cs d (n, c)) || done d.0) (undropped cs)) ready

  pub ready-undropped : is_dropped cs c ≡ false
  ready-undropped = not-true (is_dropped cs c) (and_parts (not (is_dropped cs c)) (not (done n)) halves.0).0

  pub ready-fresh : done n ≡ false
  ready-fresh = not-true (done n) (and_parts (not (is_dropped cs c)) (not (done n)) halves.0).1

  pub ready-before : (i : ℕ) (d : Change) → slice_get cs i ≡ Some d → is_dropped cs d ≡ false → comes_first cs (i, d) (n, c) ≡ true → done i ≡ true
  ready-before i d at stays first =
      elim (or_cases (not (comes_first cs (i, d) (n, c))) (done i) (all-undropped (λ e. not (comes_first cs e (n, c)) || done e.0) cs halves.1 i d at stays)) [
        | inl later ↦ absurd (false≢true (sym (not-true (comes_first cs (i, d) (n, c)) later) ∙ first))
        | inr is_done ↦ is_done
      ]

  -- all that it owns is done
  pub owned-done : (places : ℕ → Path) → only done (dependents cs places n) ≡ dependents cs places n
  owned-done places =
      only-all done (dependents cs places n) (all_grouped (λ i. done i ≡ true) cs (λ d. has_owner cs n d.1) _ (λ d. refl) (λ i d at owns. ready-before i d at (owner_cases cs d n (owner_from cs n d owns)).0 (or_left (owned_first cs (i, d) (n, c) || gap_first (i, d) (n, c)) (token_first (i, d) (n, c)) (or_left (owned_first cs (i, d) (n, c)) (gap_first (i, d) (n, c)) owns))))

-- ---- groups that it is not in
other-number : (cs : List Change) (n i : ℕ) (c d : Change) → slice_get cs n ≡ Some c → slice_get cs i ≡ Some d → i ≡ n → c ≡ d
other-number cs n i c d at_n at_i same = same_Some c d (sym at_n ∙ ap (slice_get cs) (sym same) ∙ at_i)

not-independent : (cs : List Change) (c : Change) (o : ℕ) → owner cs c ≡ Some o → is_independent cs c ≡ true → ⊥
not-independent cs c o by free = true≢false (sym (and_parts (not (is_dropped cs c)) (is_none (owner cs c)) free).1 ∙ ap is_none by)

module _ (cs : List Change) (done : ℕ → Bool) (n : ℕ) (c : Change) (at_n : slice_get cs n ≡ Some c) where
  pub independents-stay : (o : ℕ) → owner cs c ≡ Some o → only (one_more n done) (independents cs) ≡ only done (independents cs)
  independents-stay o by =
      only-other done n (independents cs) (all_grouped (λ i. i ≡ n → ⊥) cs (λ d. is_independent cs d.1) (λ d. (d.0, aim d.1)) (λ d. refl) (λ i d at free same. not-independent cs c o by (ap (is_independent cs) (other-number cs n i c d at_n at same) ∙ free)))

  pub dependents-stay : (places : ℕ → Path) (m : ℕ) → (owner cs c ≡ Some m → ⊥) → only (one_more n done) (dependents cs places m) ≡ only done (dependents cs places m)
  dependents-stay places m not_its =
      only-other done n (dependents cs places m) (all_grouped (λ i. i ≡ n → ⊥) cs (λ d. has_owner cs m d.1) _ (λ d. refl) (λ i d at owns same. not_its (ap (owner cs) (other-number cs n i c d at_n at same) ∙ owner_from cs m d owns)))

-- ---- what it gives
untouched-each : (g : ℕ → List SyntaxTree) (ts : List SyntaxTree) → map (rewritten kind_only g [] []) ts ≡ ts
untouched-each g [] = refl
untouched-each g (t ∷ ts) = ap₂ (λ u us. u ∷ us) (nothing_rewritten g [] t refl) (untouched-each g ts)

no-dependents : (cs : List Change) (places : ℕ → Path) (n : ℕ) (c : Change) → slice_get cs n ≡ Some c → is_keeping c ≡ false → dependents cs places n ≡ []
no-dependents cs places n c at idle = none _ (all_grouped (λ i. ⊥) cs (λ d. has_owner cs n d.1) _ (λ d. refl) (λ i d at_i owns.
    let keeps = owner-keeps cs d n (owner_from cs n d owns) in
    true≢false (sym keeps.2 ∙ ap is_keeping (same_Some keeps.0 c (sym keeps.1 ∙ at)) ∙ idle)))
  where
    none : (ds : List NumberedAim) → AllByRecursion (λ a. ⊥) ds → ds ≡ []
    none [] a = refl
    none (d ∷ ds) a = absurd a.0

stage-keeps : (cs : List Change) (n : ℕ) (c : Change) → slice_get cs n ≡ Some c → has_stage cs n ≡ (is_keeping c && not (is_dropped cs c))
stage-keeps cs n c at = ap (λ o. option_map_or (λ d. is_keeping d && not (is_dropped cs d)) o false) at

module _ (cs : List Change) (places : ℕ → Path) (g : ℕ → List SyntaxTree) (gives : GivesTrees cs places g) (done : ℕ → Bool) (n : ℕ) (c : Change) (at_n : slice_get cs n ≡ Some c) (ready : is_ready cs done (n, c) ≡ true) where
  pub given-now : (x : Option Stage) → IsPayloadStage cs places g done n x → payload_trees c x ≡ g n
  given-now None none =
      let idle : is_keeping c ≡ false = elim (cases_Bool (is_keeping c)) [
        | inl keeps ↦ absurd (true≢false (sym (and_from (is_keeping c) (not (is_dropped cs c)) keeps (not_from_false (is_dropped cs c) (ready-undropped cs done n c ready))) ∙ sym (stage-keeps cs n c at_n) ∙ none))
        | inr other ↦ other
      ] in
      sym (gives n ∙ ap (λ ds. map (rewritten kind_only g ds []) (map subtree (payload_of cs n))) (no-dependents cs places n c at_n idle) ∙ untouched-each g (map subtree (payload_of cs n)) ∙ ap (λ o. map subtree (option_map_or payload o [])) at_n)
  given-now (Some s) p =
      sym (gives n ∙ ap (map (rewritten kind_only g (dependents cs places n) [])) p.brought ∙ ap (λ t. t ∷ []) (ap (λ ds. rewritten kind_only g ds [] (old_tree s)) (sym (owned-done cs done n c ready places)) ∙ sym p.stage.tree))

  -- a node that is brought stays one
  pub one-node : BringsNode c → IsOneNode (g n)
  one-node brings =
      let node = tree-of-node brings.0 brings.2 in
      let tree : map subtree (payload_of cs n) ≡ Node node.0 node.1 ∷ [] = ap (λ o. map subtree (option_map_or payload o [])) at_n ∙ ap (map subtree) brings.1 ∙ ap (λ t. t ∷ []) node.2 in
      (node.0, forest (rewritten_from kind_only g (dependents cs places n) [] 0 node.1), gives n ∙ ap (map (rewritten kind_only g (dependents cs places n) [])) tree)
    where
      shown : (t : SyntaxTree) → is_token t ≡ false → IsNodeTree t
      shown (Token k s) h = absurd (true≢false h)
      shown (Node k f) h = (k, f, refl)

      tree-of-node : (e : Element) → IsNode e → IsNodeTree (subtree e)
      tree-of-node e is_node =
          (elim (at e.root e.path) as (λ o. option_map is_token o ≡ Some false → IsNodeTree (unwrap_or o (Token 0 []))) [
            | None ↦ λ h. absurd (none-some false h)
            | Some t ↦ λ h. shown t (same_Some (is_token t) false h)
          ]) is_node

-- ---- where it aims
module _ (cs : List Change) (root : Element) (fit : All (Fits root) cs) (places : ℕ → Path) (g : ℕ → List SyntaxTree) (done : ℕ → Bool) (s : Stages) (is : IsStages cs places g done (subtree root) s) (n : ℕ) (c : Change) (at_n : slice_get cs n ≡ Some c) (ready : is_ready cs done (n, c) ≡ true) where
  abbrev here : Aim
  here = staged_aim cs places c

  abbrev target_path : ℕ → Path
  target_path o = unwrap_or (first_item (targets_of cs o)) []

  on-the-tree : owner cs c ≡ None → IsSplit (independents cs) done n here
  on-the-tree free =
      let alone : is_independent cs c ≡ true = and_from (not (is_dropped cs c)) (is_none (owner cs c)) (not_from_false (is_dropped cs c) (ready-undropped cs done n c ready)) (ap is_none free) in
      let own : here ≡ aim c = ap (λ o. option_map_or (λ d. moved_aim (target_path d) (places d) (aim c)) o (aim c)) free in
      subst (IsSplit (independents cs) done n) (sym own) (independent-next cs root fit is.apart done s.waiting is.waiting n c at_n ready alone)

  in-payload : (o : ℕ) → owner cs c ≡ Some o → IsSplit (dependents cs places o) done n here
  in-payload o by =
      let moved : here ≡ moved_aim (target_path o) (places o) (aim c) = ap (λ x. option_map_or (λ d. moved_aim (target_path d) (places d) (aim c)) x (aim c)) by in
      subst (IsSplit (dependents cs places o) done n) (sym moved) (owned-next cs root fit is.apart done s.waiting is.waiting n c at_n ready places o by)

  owner-within : (o : ℕ) → owner cs c ≡ Some o → o < length cs
  owner-within o by = let r = owner-keeps cs c o by in slice_get_within cs o r.0 r.1

  abbrev HasIt : ℕ → Option Stage → Type 0
  HasIt o x = (t : Stage) × (x ≡ Some t) × IsPayload cs places g done o t

  owner-payload : (o : ℕ) → owner cs c ≡ Some o → HasIt o (payload_at s.payloads.items o)
  owner-payload o by =
      let r = owner-keeps cs c o by in
      let keeps : has_stage cs o ≡ true = stage-keeps cs o r.0 r.1 ∙ and_from (is_keeping r.0) (not (is_dropped cs r.0)) r.2 (not_from_false (is_dropped cs r.0) (owner-undropped cs c o r.0 by r.1)) in
      found keeps (payload_at s.payloads.items o) (is.trees.payloads o (owner-within o by))
    where
      found : has_stage cs o ≡ true → (x : Option Stage) → IsPayloadStage cs places g done o x → HasIt o x
      found keeps None none = absurd (true≢false (sym keeps ∙ none))
      found keeps (Some t) p = (t, refl, p)

  pub can-splice : CanSplice s (owner cs c) (n, here)
  can-splice = go (owner cs c) refl
    where
      go : (o : Option ℕ) → owner cs c ≡ o → CanSplice s o (n, here)
      go None free =
          let split = on-the-tree free in
          (g, split.front, split.back, subst (λ xs. IsStage g xs s.tree) split.before is.trees.tree, split.next)
      go (Some o) by =
          let split = in-payload o by in
          let p = owner-payload o by in
          (omega (arith, owner-within o by, is.trees.long), (p.0, p.1, (g, split.front, split.back, subst (λ xs. IsStage g xs p.0) split.before p.2.stage, split.next)))

  abbrev After : Stages → Type 0
  After t = HasTrees cs places g (one_more n done) (subtree root) t

  -- a payload that it does not aim into
  other-payload : (m : ℕ) → (owner cs c ≡ Some m → ⊥) → (x : Option Stage) → IsPayloadStage cs places g done m x → IsPayloadStage cs places g (one_more n done) m x
  other-payload m other None none = none
  other-payload m other (Some t) p =
      record { keeps = p.keeps; brought = p.brought; node = p.node; stage = subst (λ xs. IsStage g xs t) (sym (dependents-stay cs done n c at_n places m other)) p.stage }

  pub taken : (t : Stages) → Splices s t (owner cs c) (n, here) (g n) → HasTrees cs places g (one_more n done) (subtree root) t
  taken t splices = go (owner cs c) refl splices
    where
      go : (o : Option ℕ) → owner cs c ≡ o → Splices s t o (n, here) (g n) → After t
      go None free h =
          let split = on-the-tree free in
          let none : (m : ℕ) → owner cs c ≡ Some m → ⊥ = λ m by. none-some m (sym free ∙ by) in
          record {
            root_is = h.1 ∙ is.trees.root_is;
            tree = subst (λ xs. IsStage g xs t.tree) (sym split.after) (h.2 g split.front split.back (subst (λ xs. IsStage g xs s.tree) split.before is.trees.tree) split.next refl);
            long = ap (λ v. length v.items) h.0 ∙ is.trees.long;
            payloads = λ m l. subst (λ v. IsPayloadStage cs places g (one_more n done) m (payload_at v.items m)) (sym h.0) (other-payload m (none m) (payload_at s.payloads.items m) (is.trees.payloads m l));
          }
      go (Some o) by h =
          let split = in-payload o by in
          let p = owner-payload o by in
          let new = h.2 p.0 p.1 in
          record {
            root_is = ap old_tree h.0 ∙ is.trees.root_is;
            tree = subst (λ u. IsStage g (only (one_more n done) (independents cs)) u) (sym h.0) (subst (λ xs. IsStage g xs s.tree) (sym (independents-stay cs done n c at_n o by)) is.trees.tree);
            long = h.1.long ∙ is.trees.long;
            payloads = λ m l. elim (cases_eq m o) [
              | inl same ↦
                  let stage_of : IsPayload cs places g (one_more n done) o new.0 = record {
                    keeps = p.2.keeps;
                    brought = p.2.brought ∙ ap (λ u. u ∷ []) (sym new.2);
                    node = subst IsNodeTree (sym new.2) p.2.node;
                    stage = subst (λ xs. IsStage g xs new.0) (sym split.after) (new.3 g split.front split.back (subst (λ xs. IsStage g xs p.0) split.before p.2.stage) split.next refl);
                  } in
                  subst (λ k. IsPayloadStage cs places g (one_more n done) k (payload_at t.payloads.items k)) (sym same) (subst (IsPayloadStage cs places g (one_more n done) o) (sym new.1) stage_of)
              | inr other ↦
                  let not_its : owner cs c ≡ Some m → ⊥ = λ its. other (same_Some m o (sym its ∙ by)) in
                  subst (IsPayloadStage cs places g (one_more n done) m) (sym (h.1.others m other)) (other-payload m not_its (payload_at s.payloads.items m) (is.trees.payloads m l))
            ];
          }

  pub counts : (t : Stages) → CountsSplice s t (owner cs c) (n, here) → builds_of t ≡ counted (builds_of s) (step_builds (tree_of cs (subtree root) c) here)
  counts t h = go (owner cs c) refl h
    where
      go : (o : Option ℕ) → owner cs c ≡ o → CountsSplice s t o (n, here) → builds_of t ≡ counted (builds_of s) (step_builds (tree_of cs (subtree root) c) here)
      go None free count =
          let same : tree_of cs (subtree root) c ≡ old_tree s.tree = ap (λ o. option_map_or (λ d. unwrap_or (first_item (map subtree (payload_of cs d))) (subtree root)) o (subtree root)) free ∙ sym is.trees.root_is in
          count ∙ ap (λ u. counted (builds_of s) (step_builds u here)) (sym same)
      go (Some o) by count =
          let p = owner-payload o by in
          let same : tree_of cs (subtree root) c ≡ old_tree p.0 = ap (λ x. option_map_or (λ d. unwrap_or (first_item (map subtree (payload_of cs d))) (subtree root)) x (subtree root)) by ∙ ap (λ ts. unwrap_or (first_item ts) (subtree root)) p.2.brought in
          count p.0 p.1 ∙ ap (λ u. counted (builds_of s) (step_builds u here)) (sym same)

-- ---- where it was refused
pub kept : (s t : Stages) (o : Option ℕ) (a : NumberedAim) → CanSplice s o a → SpliceStays s t o → t.new_root ≡ s.new_root → t.waiting ≡ s.waiting → (cs : List Change) (places : ℕ → Path) (g : ℕ → List SyntaxTree) (done : ℕ → Bool) (root : SyntaxTree) → IsStages cs places g done root s → IsStages cs places g done root t
kept s t o a can stays root_stays waits cs places g done root is =
    record {
      apart = is.apart;
      waiting = subst (IsWaiting cs done) (sym waits) is.waiting;
      root_node = is.root_node;
      trees = go o can stays;
      new_root = subst (HasNewRoot cs places g done) (sym root_stays) is.new_root;
    }
  where
    go : (x : Option ℕ) → CanSplice s x a → SpliceStays s t x → HasTrees cs places g done root t
    go None can h = record {
      root_is = h.1 ∙ is.trees.root_is;
      tree = h.2 g (only done (independents cs)) is.trees.tree;
      long = ap (λ v. length v.items) h.0 ∙ is.trees.long;
      payloads = λ m l. subst (λ v. IsPayloadStage cs places g done m (payload_at v.items m)) (sym h.0) (is.trees.payloads m l);
    }
    go (Some d) can h =
        let new = h.2 can.1.0 can.1.1 in
        record {
          root_is = ap old_tree h.0 ∙ is.trees.root_is;
          tree = subst (IsStage g (only done (independents cs))) (sym h.0) is.trees.tree;
          long = h.1.long ∙ is.trees.long;
          payloads = λ m l. elim (cases_eq m d) [
            | inl same ↦
                let old : IsPayload cs places g done d can.1.0 = subst (IsPayloadStage cs places g done d) (ap (payload_at s.payloads.items) (sym same) ∙ ap (payload_at s.payloads.items) same ∙ can.1.1) (subst (λ k. IsPayloadStage cs places g done k (payload_at s.payloads.items k)) same (is.trees.payloads m l)) in
                let stage_of : IsPayload cs places g done d new.0 = record { keeps = old.keeps; brought = old.brought ∙ ap (λ u. u ∷ []) (sym new.2); node = subst IsNodeTree (sym new.2) old.node; stage = new.3 g (only done (dependents cs places d)) old.stage } in
                subst (λ k. IsPayloadStage cs places g done k (payload_at t.payloads.items k)) (sym same) (subst (IsPayloadStage cs places g done d) (sym new.1) stage_of)
            | inr other ↦ subst (IsPayloadStage cs places g done m) (sym (h.1.others m other)) (is.trees.payloads m l)
          ];
        }

-- ---- the new root
module _ (cs : List Change) (places : ℕ → Path) (g : ℕ → List SyntaxTree) (done : ℕ → Bool) (n : ℕ) (c : Change) (at_n : slice_get cs n ≡ Some c) where
  root-stays : has_path (targets c) [] ≡ false → (x : Option Branch) → HasNewRoot cs places g done x → HasNewRoot cs places g (one_more n done) x
  root-stays other None undone = λ m d at root.
      let differ : n ≡ m → ⊥ = λ same. true≢false (sym root ∙ ap (λ e. has_path (targets e) []) (sym (other-number cs n m c d at_n at (sym same))) ∙ other) in
      or_from (nat_eq n m) (done m) (ne_eqb n m differ) (undone m d at root)
  root-stays other (Some node) new =
      record { number = new.number; change = new.change; there = new.there; root = new.root; is_done = or_right (nat_eq n new.number) (done new.number) new.is_done; given = new.given }

  pub rooted : (before after : Option Branch) → HasNewRoot cs places g done before → PutsRoot c (g n) before after → HasNewRoot cs places g (one_more n done) after
  rooted before after old puts = go (has_path (targets c) []) refl puts
    where
      placed : (x : Option Branch) → has_path (targets c) [] ≡ true → IsSomeAnd x (λ node. g n ≡ branch_tree node ∷ []) → HasNewRoot cs places g (one_more n done) x
      placed None root h = absurd h
      placed (Some node) root h = record { number = n; change = c; there = at_n; root = root; is_done = or_left (nat_eq n n) (done n) (eq-eqb n n refl); given = h }

      go : (b : Bool) → has_path (targets c) [] ≡ b → MatchBool b (IsSomeAnd after (λ node. g n ≡ branch_tree node ∷ [])) (after ≡ before) → HasNewRoot cs places g (one_more n done) after
      go true root h = placed after root h
      go false other h = subst (HasNewRoot cs places g (one_more n done)) (sym h) (root-stays other before old)

-- ---- as code asks
on_err-given : {T E : Type 0} (r : Result T E) (P : Type 0) → P → OnErr r P
on_err-given (Ok x) P p = tt
on_err-given (Err e) P p = p

pub payload-read : (cs : List Change) (n : ℕ) (a : NumberedAim) (s : Stages) (places : ℕ → Path) (g : ℕ → List SyntaxTree) (done : ℕ → Bool) (root : Element) (c d : Change) (x : Option Stage) (ts : List SyntaxTree) → Taking cs n a s places g done root c → x ≡ get_or s.payloads.items n x → ts ≡ payload_trees d x → ts ≡ payload_trees d (payload_at s.payloads.items n)
payload-read cs n a s places g done root c d x ts way read given =
    let within : n < length s.payloads.items = omega (arith, way.stages.trees.long, slice_get_within cs n c way.there) in
    given ∙ ap (payload_trees d) (sym (get_or_from_slice_get s.payloads.items n x None (slice_get-get_or s.payloads.items n x within ∙ ap Some (sym read))))

told-owner : (cs : List Change) (n : ℕ) (c : Change) (o : Option ℕ) → slice_get cs n ≡ Some c → o ≡ owner_at cs n → o ≡ owner cs c
told-owner cs n c o at is = is ∙ ap (option_and_then (owner cs)) at

pub splice-can : (cs : List Change) (n : ℕ) (a : NumberedAim) (s : Stages) (places : ℕ → Path) (g : ℕ → List SyntaxTree) (done : ℕ → Bool) (root : Element) (c : Change) (o : Option ℕ) → Taking cs n a s places g done root c → o ≡ owner_at cs n → CanSplice s o a
splice-can cs n a s places g done root c o t is =
    let owner_is = told-owner cs n c o t.there is in
    subst (CanSplice s o) (sym t.aims) (subst (λ x. CanSplice s x (n, staged_aim cs places c)) (sym owner_is) (can-splice cs root t.fit places g done s t.stages n c t.there t.ready))

pub splice-counts : (cs : List Change) (n : ℕ) (a : NumberedAim) (s t : Stages) (o : Option ℕ) → o ≡ owner_at cs n → CountsSplice s t o a → EachTaking cs n a s (λ places g done root c. builds_of t ≡ counted (builds_of s) (step_builds (tree_of cs (subtree root) c) a.1))
splice-counts cs n a s t o is h = λ places g done root c way.
    let owner_is = told-owner cs n c o way.there is in
    let there : CountsSplice s t (owner cs c) (n, staged_aim cs places c) = subst (λ x. CountsSplice s t x (n, staged_aim cs places c)) owner_is (subst (CountsSplice s t o) way.aims h) in
    counts cs root way.fit places g done s way.stages n c way.there way.ready t there ∙ ap (λ b. counted (builds_of s) (step_builds (tree_of cs (subtree root) c) b.1)) (sym way.aims)

-- one change more is done
abbrev WaitsOn : Waiting → Waiting → ℕ → Type 0
WaitsOn before after n =
    (cs : List Change) (done : ℕ → Bool) (c : Change) → IsWaiting cs done before → slice_get cs n ≡ Some c → is_ready cs done (n, c) ≡ true → IsWaiting cs (λ m. nat_eq n m || done m) after

abbrev noted : Stages → Waiting → Stages
noted t w = record { tree = t.tree; new_root = t.new_root; payloads = t.payloads; waiting = w; builds = t.builds }

pub splice-takes : (cs : List Change) (n : ℕ) (a : NumberedAim) (s t : Stages) (w : Waiting) (o : Option ℕ) (d : Change) (ts : List SyntaxTree) → o ≡ owner_at cs n → d ≡ get_or cs n d → ts ≡ payload_trees d (payload_at s.payloads.items n) → Splices s t o a ts → t.waiting ≡ s.waiting → PutsRoot d ts s.new_root t.new_root → WaitsOn t.waiting w n → Takes cs n a s (noted t w)
splice-takes cs n a s t w o d ts is read given h still puts waits = λ places g done root c way.
    let owner_is = told-owner cs n c o way.there is in
    let within = slice_get_within cs n c way.there in
    let same : d ≡ c = same_Some d c (sym (at-index cs n d within read) ∙ way.there) in
    let gives_now : ts ≡ g n = given ∙ ap (λ e. payload_trees e (payload_at s.payloads.items n)) same ∙ given-now cs places g way.gives done n c way.there way.ready (payload_at s.payloads.items n) (way.stages.trees.payloads n within) in
    let there : Splices s t (owner cs c) (n, staged_aim cs places c) (g n) = subst (Splices s t (owner cs c) (n, staged_aim cs places c)) gives_now (subst (λ x. Splices s t x (n, staged_aim cs places c) ts) owner_is (subst (λ b. Splices s t o b ts) way.aims h)) in
    let trees = taken cs root way.fit places g done s way.stages n c way.there way.ready t there in
    record {
      apart = way.stages.apart;
      waiting = waits cs done c (subst (IsWaiting cs done) (sym still) way.stages.waiting) way.there way.ready;
      root_node = way.stages.root_node;
      trees = record { root_is = trees.root_is; tree = trees.tree; long = trees.long; payloads = trees.payloads };
      new_root = rooted cs places g done n c way.there s.new_root t.new_root way.stages.new_root (subst (λ x. PutsRoot c x s.new_root t.new_root) gives_now (subst (λ e. PutsRoot e ts s.new_root t.new_root) same puts));
    }

pub splice-rooted : (cs : List Change) (n : ℕ) (a : NumberedAim) (s : Stages) (places : ℕ → Path) (g : ℕ → List SyntaxTree) (done : ℕ → Bool) (root : Element) (c d : Change) (ts : List SyntaxTree) → Taking cs n a s places g done root c → d ≡ get_or cs n d → ts ≡ payload_trees d (payload_at s.payloads.items n) → (Fits root d) × (BringsNode d → IsOneNode ts)
splice-rooted cs n a s places g done root c d ts way read given =
    let within = slice_get_within cs n c way.there in
    let same : d ≡ c = same_Some d c (sym (at-index cs n d within read) ∙ way.there) in
    let gives_now : ts ≡ g n = given ∙ ap (λ e. payload_trees e (payload_at s.payloads.items n)) same ∙ given-now cs places g way.gives done n c way.there way.ready (payload_at s.payloads.items n) (way.stages.trees.payloads n within) in
    (subst (Fits root) (sym same) (fit_at root cs way.fit n c way.there), λ brings. subst IsOneNode (sym gives_now) (one-node cs places g way.gives done n c way.there way.ready (subst BringsNode same brings)))

-- a change that replaces the root
no-owner : (o : Option ℕ) → is_none o ≡ true → o ≡ None
no-owner None h = refl
no-owner (Some x) h = absurd (false≢true h)

pub splice-top : (cs : List Change) (n : ℕ) (a : NumberedAim) (s : Stages) (places : ℕ → Path) (g : ℕ → List SyntaxTree) (done : ℕ → Bool) (root : Element) (c d : Change) (o : Option ℕ) → Taking cs n a s places g done root c → o ≡ owner_at cs n → d ≡ get_or cs n d → AimsAtTop d o a
splice-top cs n a s places g done root c d o way is read = λ top.
    let same : d ≡ c = same_Some d c (sym (at-index cs n d (slice_get_within cs n c way.there) read) ∙ way.there) in
    let here : has_path (targets c) [] ≡ true = ap (λ e. has_path (targets e) []) (sym same) ∙ top in
    let alone = free-at-root cs c (at-root c here) in
    let free : owner cs c ≡ None = no-owner (owner cs c) (and_parts (not (is_dropped cs c)) (is_none (owner cs c)) alone).1 in
    let own : staged_aim cs places c ≡ aim c = ap (λ x. option_map_or (λ m. moved_aim (unwrap_or (first_item (targets_of cs m)) []) (places m) (aim c)) x (aim c)) free in
    (told-owner cs n c o way.there is ∙ free, ap (λ b. replaces [] b.1) way.aims ∙ ap (replaces []) own ∙ replaces-targets [] c ∙ here)

pub splice-kept : {T E : Type 0} (r : Result T E) (s t : Stages) (o : Option ℕ) (a : NumberedAim) → CanSplice s o a → SpliceStays s t o → t.new_root ≡ s.new_root → t.waiting ≡ s.waiting → OnErr r (StaysAs s t)
splice-kept r s t o a can stays root waiting = on_err-given r (StaysAs s t) (λ cs places g done top gives is. kept s t o a can stays root waiting cs places g done top is)

pub waits-there : (cs : List Change) (n : ℕ) (a : NumberedAim) (s t : Stages) (places : ℕ → Path) (g : ℕ → List SyntaxTree) (done : ℕ → Bool) (root : Element) (c : Change) → Taking cs n a s places g done root c → t.waiting ≡ s.waiting → HasChange t.waiting n
waits-there cs n a s t places g done root c way still =
    (cs, done, subst (IsWaiting cs done) (sym still) way.stages.waiting, slice_get_within cs n c way.there)
