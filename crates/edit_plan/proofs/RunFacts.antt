-- What a run in code tells of its plan.
--     begun-running, begun-both     at the beginning
--     some-number, some-way, ready-told, complete-told, tree-shown, payload-shown      what its stages tell
--     is-run                        what is true of every run
--     ready-within, take-can, take-done, take-kept, take-counts      one change more
--     carry-within, carry-can, carry-running, carry-counts, carry-aims      the same as code asks for it
--     carried-tree                  the tree where all is done
use Rattle.std.specs.Prelude.{◌≡◌, ◌<◌, ℕ, Bool, true, false, cond, List, [], ◌∷◌, map, length, slice_get, Option, Some, None, MatchOption, IsSomeAnd, Result, Ok, Err, IfOk, OnOk, OnErr, Vec, refl}
use Rattle.std.specs.Global.{Global}
use Rattle.std.specs.declared.alloc.AllocError.{AllocError}
use Rattle.std.specs.Borrow.{Bor}
use Rattle.std.proofs.Common.{ap, sym, subst, ◌∙◌, arith, get_or}
use Rattle.std.proofs.Math.ListN.{set, get_or-map}
use Rattle.std.proofs.lemmas.List.{length-map}
use Rattle.std.proofs.lemmas.Option.{same_Some, slice_get_within}
use Rattle.cst_core.specs.Path.{Path}
use Rattle.cst_core.specs.Tree.{SyntaxTree}
use Rattle.cst_core.specs.Green.{Branch, branch_tree}
use Rattle.cst_core.specs.Element.{subtree}
use Rattle.green_tree.specs.Count.{counted}
use Rattle.edit_change.specs.Rewriting.{NumberedAim, rewritten}
use Rattle.edit_change.specs.inner.KindOnly.{kind_only}
use Rattle.edit_steps.specs.StepCount.{step_builds}
use Rattle.edit_change.specs.inner.AimFrom.{aim_from}
use Rattle.edit_change.specs.declared.change.Change.{Change}
use Rattle.edit_change.proofs.Clashes.{at-index}
use Rattle.edit_steps.specs.Schedule.{is_ready, is_complete}
use Rattle.edit_steps.specs.inner.Waiting.{IsWaiting, is_done}
use Rattle.edit_steps.specs.inner.Waits.{standing_of}
use Rattle.edit_steps.specs.declared.order.waiting.Standing.TheVariants.{Dropped, Undone, Done}
use Rattle.edit_steps.proofs.Ordered.{waiting-ordered}
use Rattle.edit_change.specs.Nesting.{is_dropped}
use Rattle.std.proofs.lemmas.Bool.{cases_Bool, false≢true}
use mathlib.Core.Logic.{inl, inr}
use Rattle.edit_change.specs.NewTree.{plain, payload_of, dependents, only, new_tree}
use Rattle.edit_steps.specs.inner.Stages as stages
use Rattle.edit_steps.specs.inner.Stages.{IsStages, Begins, HasNumber, CanTake, Takes, CountsTaken, Taking, builds_of, done_in}
use Rattle.edit_change.specs.StagedChange.{has_stage, staged_aim, tree_of}
use Rattle.edit_steps.specs.declared.stages.Stages.{Stages}
use Rattle.edit_change.specs.Places.{ArePlaces}
use Rattle.edit_plan.specs.Plan.{Plan, IsPlan}
use Rattle.edit_plan.specs.Run as run
use Rattle.edit_plan.specs.Run.{Run}
use Rattle.edit_change.specs.inner.OwnerPlaces.{places_in, AimsFrom}
use Rattle.edit_plan.specs.inner.PlanStages.{given_trees_of, told_done, IsRunning, run_of, AgreeOnPlaces, KeepsShapes}
use Rattle.edit_plan.proofs.WholeWay.{way-whole}
use Rattle.edit_plan.proofs.StagesOfRuns.{staged-agree, gives-trees, shows-tree, shows-payload, all-carried, none-told, one-more-told}

pub begun-running : (p : Plan) (s : Stages) → IsPlan p → Begins p.changes (subtree p.root) s → done_in s ≡ map (λ c. false) p.changes → IsRunning p s
begun-running p s is begins none = record {
  is_plan = is;
  stages = λ places are. subst (λ done. IsStages p.changes places (given_trees_of p places) done (subtree p.root) s) (none-told p.changes ∙ ap told_done (sym none)) (begins places (given_trees_of p places) (gives-trees p.changes places));
}

pub begun-both : (q p : Plan) (r : Result Stages AllocError) → q ≡ p → IsPlan q → IfOk r (Begins q.changes (subtree q.root)) → IfOk r (λ s. done_in s ≡ map (λ c. false) q.changes) → IfOk r (IsRunning p)
begun-both q p (Ok s) same is begins none = subst (λ x. IsRunning x s) same (begun-running q s is begins none)
begun-both q p (Err e) same is begins none = tt

module _ (p : Plan) (s : Stages) (running : IsRunning p s) where
  -- the stages by the places of the plan
  here : IsStages p.changes running.is_plan.places (given_trees_of p running.is_plan.places) (told_done (done_in s)) (subtree p.root) s
  here = running.stages running.is_plan.places running.is_plan.placed

  pub some-number : (n : ℕ) → n < length p.changes → HasNumber s n
  some-number n l =
      (p.changes, running.is_plan.places, given_trees_of p running.is_plan.places, told_done (done_in s), subtree p.root, gives-trees p.changes running.is_plan.places, here, l)

  pub some-way : stages.SomeWay s (λ cs. Unit {0})
  some-way =
      (p.changes, running.is_plan.places, given_trees_of p running.is_plan.places, told_done (done_in s), subtree p.root, gives-trees p.changes running.is_plan.places, here, tt)

  pub ready-told : (n : ℕ) (b : Bool) → stages.TellsReady s n b → run.TellsReady (run_of p s) n b
  ready-told n b tells = λ c at. tells p.changes running.is_plan.places (given_trees_of p running.is_plan.places) (told_done (done_in s)) (subtree p.root) (gives-trees p.changes running.is_plan.places) here c at

  pub complete-told : (b : Bool) → stages.TellsComplete s b → b ≡ is_complete p.changes (run.is_done (run_of p s))
  complete-told b tells = tells p.changes running.is_plan.places (given_trees_of p running.is_plan.places) (told_done (done_in s)) (subtree p.root) (gives-trees p.changes running.is_plan.places) here

  pub tree-shown : (t : SyntaxTree) → stages.ShowsTree s t → run.ShowsTree (run_of p s) t
  tree-shown t shows = λ places are.
      shows-tree p.changes places (told_done (done_in s)) p.root ∙ shows p.changes places (given_trees_of p places) (told_done (done_in s)) (subtree p.root) (gives-trees p.changes places) (running.stages places are)

  abbrev Told : (ℕ → Path) → ℕ → Option (Bor Branch) → Type 0
  Told places n x = MatchOption x (has_stage p.changes n ≡ false) (λ b. (has_stage p.changes n ≡ true) × (map (rewritten kind_only (given_trees_of p places) (only (told_done (done_in s)) (dependents p.changes places n)) []) (map subtree (payload_of p.changes n)) ≡ branch_tree b.now ∷ []))

  pub payload-shown : (n : ℕ) (o : Option (Bor Branch)) → stages.ShowsPayload s n o → run.ShowsPayload (run_of p s) n o
  payload-shown n o shows = go o (λ places are. shows p.changes places (given_trees_of p places) (told_done (done_in s)) (subtree p.root) (gives-trees p.changes places) (running.stages places are))
    where
      go : (x : Option (Bor Branch)) → ((places : ℕ → Path) → ArePlaces p.mapping p.changes places → Told places n x) → run.ShowsPayload (run_of p s) n x
      go None told = record { is_there = sym (told running.is_plan.places running.is_plan.placed); tree = tt }
      go (Some b) told = record {
        is_there = sym (told running.is_plan.places running.is_plan.placed).0;
        tree = λ places are. shows-payload p.changes places (told_done (done_in s)) n ∙ (told places are).1;
      }

  -- ---- what is true of every run
  waits : IsWaiting p.changes (told_done (done_in s)) s.waiting
  waits = here.waiting

  told-standing : (n : ℕ) (c : Change) → slice_get p.changes n ≡ Some c → told_done (done_in s) n ≡ is_done (standing_of p.changes (told_done (done_in s)) n c)
  told-standing n c at = get_or-map is_done s.waiting.standings.items n Dropped ∙ ap is_done (waits.stands n c at)

  done-undropped : (n : ℕ) (c : Change) → slice_get p.changes n ≡ Some c → told_done (done_in s) n ≡ true → is_dropped p.changes c ≡ false
  done-undropped n c at done =
      elim (cases_Bool (is_dropped p.changes c)) [
        | inl dropped ↦ absurd (false≢true (sym (ap (λ b. is_done (cond b Dropped (cond (told_done (done_in s) n) Done Undone))) dropped) ∙ sym (told-standing n c at) ∙ done))
        | inr stays ↦ stays
      ]

  pub is-run : run.IsRun (run_of p s)
  is-run = record {
    planned = running.is_plan;
    long = length-map s.waiting.standings.items is_done ∙ waits.long;
    undropped = done-undropped;
    before = λ m n c d at_m at_n stays comes done. waiting-ordered p.changes (told_done (done_in s)) s.waiting waits m n c d at_m at_n stays (done-undropped n d at_n done) comes done;
  }

  -- ---- one change more
  abbrev Ready : ℕ → Change → Type 0
  Ready n c = (slice_get p.changes n ≡ Some c) × (is_ready p.changes (told_done (done_in s)) (n, c) ≡ true)

  abbrev HasReady : ℕ → Type 0
  HasReady n = (c : Change) × (Ready n c)

  ready-change : (n : ℕ) → run.CanStep (run_of p s) n → HasReady n
  ready-change n can = go (slice_get p.changes n) refl can
    where
      go : (x : Option Change) → slice_get p.changes n ≡ x → IsSomeAnd x (λ c. is_ready p.changes (told_done (done_in s)) (n, c) ≡ true) → HasReady n
      go None is h = absurd h
      go (Some c) is h = (c, (is, h))

  pub ready-within : (n : ℕ) → run.CanStep (run_of p s) n → n < length p.changes
  ready-within n can = let c = ready-change n can in slice_get_within p.changes n c.0 c.1.0

  abbrev Aims : ℕ → NumberedAim → (ℕ → Path) → Type 0
  Aims n a places = (c : Change) → slice_get p.changes n ≡ Some c → a ≡ (n, staged_aim p.changes places c)

  taking : (n : ℕ) (a : NumberedAim) (places : ℕ → Path) (c : Change) → ArePlaces p.mapping p.changes places → Ready n c → Aims n a places → Taking p.changes n a s places (given_trees_of p places) (told_done (done_in s)) p.root c
  taking n a places c are ready aims = record {
    fit = running.is_plan.fit;
    gives = gives-trees p.changes places;
    stages = running.stages places are;
    there = ready.0;
    ready = ready.1;
    aims = aims c ready.0;
  }

  pub take-can : (n : ℕ) (a : NumberedAim) (places : ℕ → Path) → ArePlaces p.mapping p.changes places → run.CanStep (run_of p s) n → Aims n a places → CanTake p.changes n a s
  take-can n a places are can aims =
      let c = ready-change n can in
      (places, given_trees_of p places, told_done (done_in s), p.root, c.0, taking n a places c.0 are c.1 aims)

  aims-by : AgreeOnPlaces p → (n : ℕ) (a : NumberedAim) (places others : ℕ → Path) → ArePlaces p.mapping p.changes places → ArePlaces p.mapping p.changes others → Aims n a places → Aims n a others
  aims-by agree n a places others are are_others aims = λ c at. aims c at ∙ ap (λ x. (n, x)) (staged-agree p.changes places others c (λ o its. agree places others are are_others n o c at its))

  within : (n : ℕ) (c : Change) → slice_get p.changes n ≡ Some c → n < length (done_in s)
  within n c at = omega (arith, slice_get_within p.changes n c at, length-map s.waiting.standings.items is_done, here.waiting.long)

  pub take-done : AgreeOnPlaces p → (t : Stages) (n : ℕ) (a : NumberedAim) (places : ℕ → Path) → ArePlaces p.mapping p.changes places → run.CanStep (run_of p s) n → Aims n a places → Takes p.changes n a s t → done_in t ≡ set (done_in s) n true → IsRunning p t
  take-done agree t n a places are can aims takes list =
      let c = ready-change n can in
      record {
        is_plan = running.is_plan;
        stages = λ others are_others. subst (λ done. IsStages p.changes others (given_trees_of p others) done (subtree p.root) t) (one-more-told (done_in s) n (within n c.0 c.1.0) ∙ ap told_done (sym list)) (takes others (given_trees_of p others) (told_done (done_in s)) p.root c.0 (taking n a others c.0 are_others c.1 (aims-by agree n a places others are are_others aims)));
      }

  pub take-kept : (t : Stages) → stages.StaysAs s t → done_in t ≡ done_in s → IsRunning p t
  take-kept t stays list = record {
    is_plan = running.is_plan;
    stages = λ places are. subst (λ ds. IsStages p.changes places (given_trees_of p places) (told_done ds) (subtree p.root) t) (sym list) (stays p.changes places (given_trees_of p places) (told_done (done_in s)) (subtree p.root) (gives-trees p.changes places) (running.stages places are));
  }

  -- what the count rises by, whether or not numbers tell trees
  abbrev CountsLive : ℕ → ℕ → Type 0
  CountsLive n builds = (places : ℕ → Path) (c : Change) → ArePlaces p.mapping p.changes places → slice_get p.changes n ≡ Some c → builds ≡ counted (builds_of s) (step_builds (tree_of p.changes (subtree p.root) c) (staged_aim p.changes places c))

  live-counts : AgreeOnPlaces p → (t : Stages) (n : ℕ) (a : NumberedAim) (places : ℕ → Path) → ArePlaces p.mapping p.changes places → run.CanStep (run_of p s) n → Aims n a places → CountsTaken p.changes n a s t → CountsLive n (builds_of t)
  live-counts agree t n a places are can aims counts = λ others c are_others at.
      let ready = ready-change n can in
      let same : ready.0 ≡ c = same_Some ready.0 c (sym ready.1.0 ∙ at) in
      let by = aims-by agree n a places others are are_others aims in
      let it : Ready n c = (at, ap (λ d. is_ready p.changes (told_done (done_in s)) (n, d)) (sym same) ∙ ready.1.1) in
      counts others (given_trees_of p others) (told_done (done_in s)) p.root c (taking n a others c are_others it by) ∙ ap (λ x. counted (builds_of s) (step_builds (tree_of p.changes (subtree p.root) c) x.1)) (by c at)

  pub take-counts : KeepsShapes p → (n builds : ℕ) → CountsLive n builds → run.CountsStep (run_of p s) n builds
  take-counts keeps n builds live = λ places c are at. record {
    live = live places c are at;
    whole = λ tell. live places c are at ∙ ap (counted (builds_of s)) (way-whole p running.is_plan keeps tell places are n c at);
  }

-- ---- as code carries a change out: a plan is seen by its fields, and its lists as slices
module _ (q p : Plan) (same : q ≡ p) (s : Stages) (running : IsRunning p s) (n : ℕ) (can : run.CanStep (run_of p s) n) where
  own_running : IsRunning q s
  own_running = subst (λ x. IsRunning x s) (sym same) running

  own_can : run.CanStep (run_of q s) n
  own_can = subst (λ x. run.CanStep (run_of x s) n) (sym same) can

  pub carry-within : n < length q.changes
  carry-within = ready-within q s own_running n own_can

  module _ (table : ℕ → Path) (are : ArePlaces q.mapping q.changes table) (a : NumberedAim) (aims : (c : Change) → slice_get q.changes n ≡ Some c → a ≡ (n, staged_aim q.changes table c)) (cs : List Change) (cs_is : cs ≡ q.changes) where
    pub carry-can : CanTake cs n a s
    carry-can = subst (λ x. CanTake x n a s) (sym cs_is) (take-can q s own_running n a table are own_can aims)

    module _ (agree : AgreeOnPlaces p) (t : Stages) where
      own_agree : AgreeOnPlaces q
      own_agree = subst AgreeOnPlaces (sym same) agree

      pub carry-running : (r : Result (Unit {0}) AllocError) → OnOk r (Takes cs n a s t) → OnOk r (done_in t ≡ set (done_in s) n true) → OnErr r (stages.StaysAs s t) → OnErr r (done_in t ≡ done_in s) → IsRunning p t
      carry-running (Ok x) takes list stays kept =
          subst (λ y. IsRunning y t) same (take-done q s own_running own_agree t n a table are own_can aims (subst (λ x. Takes x n a s t) cs_is takes) list)
      carry-running (Err e) takes list stays kept = take-kept p s running t stays kept

      pub carry-counts : KeepsShapes p → (r : Result (Unit {0}) AllocError) → OnOk r (CountsTaken cs n a s t) → OnOk r (run.CountsStep (run_of p s) n (builds_of t))
      carry-counts keeps (Ok x) counts =
          subst (λ y. run.CountsStep (run_of y s) n (builds_of t)) same (take-counts q s own_running (subst KeepsShapes (sym same) keeps) n (builds_of t) (live-counts q s own_running own_agree t n a table are own_can aims (subst (λ x. CountsTaken x n a s t) cs_is counts)))
      carry-counts keeps (Err e) counts = tt

-- where a change aims, from the path that is told
pub carry-aims : (cs slices : List Change) (table : List (Option (Vec ℕ Global))) (tables : List (Option (Vec ℕ Global))) (n : ℕ) (path told : Path) (d : Change) (a : NumberedAim) → n < length cs → slices ≡ cs → tables ≡ table → AimsFrom slices (places_in tables) n path → d ≡ get_or cs n d → told ≡ path → a ≡ (n, aim_from told d) → (c : Change) → slice_get cs n ≡ Some c → a ≡ (n, staged_aim cs (places_in table) c)
carry-aims cs slices table tables n path told d a within cs_is tables_are aims read path_is is = λ c at.
    let own : AimsFrom cs (places_in table) n path = subst (λ xs. AimsFrom xs (places_in table) n path) cs_is (subst (λ ts. AimsFrom slices (places_in ts) n path) tables_are aims) in
    let same : d ≡ c = same_Some d c (sym (at-index cs n d within read) ∙ at) in
    is ∙ ap (λ p. (n, aim_from p d)) path_is ∙ ap (λ e. (n, aim_from path e)) same ∙ ap (λ x. (n, x)) (own c at)

-- ---- the tree where all is done
pub carried-tree : (p : Plan) (s : Stages) (t : SyntaxTree) → run.ShowsTree (run_of p s) t → is_complete p.changes (run.is_done (run_of p s)) ≡ true → (places : ℕ → Path) → ArePlaces p.mapping p.changes places → map plain (new_tree p.changes places p.root) ≡ t ∷ []
carried-tree p s t shows complete places are = ap (map plain) (sym (all-carried p.changes places (told_done (done_in s)) p.root complete)) ∙ shows places are
