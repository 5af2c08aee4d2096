-- From what the pass answers to what carrying a plan out promises.
--     makes                         the edit that is put together is what the plan makes
--     with-tree                     the same paths in a tree that was made otherwise
--     too-long                      a tree whose text passes the limit is too long for the plan
--     refuses                       the refusals of the new root, as those of the plan
--     of-root, ran-before           none of them says that the text is too long; what a run of an engine came before
--     engine-refuses                the refusal of an engine, as that of the plan
--     drawn-next                    a source that is not spent draws the next number
use Rattle.std.specs.Prelude.{◌≡◌, ℕ, ◌+◌, ◌<◌, ◌≤◌, nat_eq, cond, Bool, true, false, List, [], ◌∷◌, map, filter, length, Option, Some, None, IsSome, All, Result, Ok, Err, IfErr, OnOk, OnErr, refl}
use Rattle.std.specs.Option.{IsNone, OnSome}
use Rattle.std.specs.Result.{IsErrAnd, is_ok}
use Rattle.std.proofs.Common.{ap, sym, subst, ◌∙◌, arith}
use Rattle.std.proofs.lemmas.Option.{same_Some}
use Rattle.cst_core.specs.Path.{Path, first_item}
use Rattle.cst_core.specs.Tree.{at, text_length}
use Rattle.cst_core.specs.TreeIds.{IsSpent}
use Rattle.cst_core.specs.Green.{Branch, branch_tree, length_limit}
use Rattle.cst_core.specs.SyntaxElement.{syntax_at}
use Rattle.cst_core.specs.TreeError.{TreeError}
use Rattle.cst_core.specs.TreeError.TheVariants as tree
use Rattle.edit_plan.specs.Plan.{found_for, Plan, Edit, Makes, MakesTooLong, RunRefuses, is_registered}
use Rattle.edit_plan.specs.Engine.{IsRewritten, HasRewritten, RanBefore, annotated_path, EngineRefuses}
use Rattle.edit_plan.specs.EditRefusal.{of_tree, of_engine}
use Rattle.edit_change.specs.Places.{ArePlaces}
use Rattle.edit_change.specs.Results.{paths_with}
use Rattle.edit_change.specs.NewTree.{plain, new_tree}
use Rattle.edit_plan.specs.declared.rewritten.Rewritten.{Rewritten}
use Rattle.edit_plan.specs.declared.edit_error.EditError.{EditError}
use Rattle.edit_plan.specs.declared.edit_error.EditError.TheVariants.{Intersecting, MissingMapping, TooLong, NoTreeNumber, Memory}
use Rattle.edit_plan.specs.declared.engine_error.EngineError.{EngineError}
use Rattle.edit_plan.specs.declared.engine_error.EngineError.TheVariants as engine
use Rattle.edit_plan.specs.inner.PlanRun.{IsOfRoot}
use Rattle.std.specs.List.{AllByRecursion}
use Rattle.std.proofs.lemmas.Bool.{cases_Bool, eqb-true, false≢true, true≢false}
use mathlib.Core.Logic.{inl, inr}
use Rattle.edit_plan.proofs.ByAnnotation.{annotated-registered}
use Rattle.edit_plan.proofs.Filled.{text-relabelled}

map-none : {X : Type 0} (xs : List X) → map (λ x. Some x) xs ≡ [] → xs ≡ []
map-none [] is = refl
map-none (x ∷ xs) is = absurd (cc)

-- ---- what is put together of it
module _ (p : Plan) (green : Branch) (paths : List Path) (annotations : List (ℕ × Path)) (r : IsRewritten p (branch_tree green) paths annotations) where
  -- of an annotation that nothing is registered with there is no path
  no-paths : (a : ℕ) → is_registered p a ≡ false → (ns : List (ℕ × Path)) → AllByRecursion (λ n. is_registered p n.0 ≡ true) ns → paths_with a ns ≡ []
  no-paths a none [] all = refl
  no-paths a none (n ∷ ns) all =
      elim (cases_Bool (nat_eq n.0 a)) [
        | inl same ↦ absurd (false≢true (sym none ∙ ap (is_registered p) (sym (eqb-true n.0 a same)) ∙ all.0))
        | inr other ↦ ap (λ b. map (λ (m : ℕ × Path). m.1) (cond b (n ∷ filter (λ m. nat_eq m.0 a) ns) (filter (λ m. nat_eq m.0 a) ns))) other ∙ no-paths a none ns all.1
      ]

  pub makes : (number : ℕ) (e : Edit) → e.old_root ≡ p.root → e.new_root ≡ record { number = number; root = branch_tree green; path = [] } → map Some e.changed ≡ map (syntax_at e.new_root) paths → ((a : ℕ) → map Some (found_for e.annotated a) ≡ map (syntax_at e.new_root) (paths_with a annotations)) → Makes p number e
  makes number e old new changed_are annotated_are = record {
    made = r.made;
    would = r.would;
    old_is = old;
    number_is = ap (λ x. x.number) new;
    is_root = ap (λ x. x.path) new;
    tree_is = ap (λ x. x.root) new ∙ r.tree_is;
    changed_are = changed_are ∙ ap (map (syntax_at e.new_root)) r.changed_is;
    annotated_paths = annotations;
    annotated_are = annotated_are;
    annotated_is = r.annotated_is;
    unregistered = λ tell a none. map-none (found_for e.annotated a) (annotated_are a ∙ ap (map (syntax_at e.new_root)) (no-paths a none annotations (subst (AllByRecursion (λ n. is_registered p n.0 ≡ true)) (sym (r.annotated_is tell)) (annotated-registered {P = λ b. is_registered p b ≡ true} p.mapping r.made p.registrations (λ b h. h)))));
  }

  same-length : text_length r.made ≡ text_length (branch_tree green)
  same-length = sym (ap text_length r.tree_is ∙ ap length (text-relabelled (λ o. o.kind) r.made))

  pub too-long : length_limit ≤ text_length (branch_tree green) → MakesTooLong p
  too-long long = (r.made, r.would, omega (arith, same-length, long))

  no-number : (next : ℕ) → IsSpent next → text_length (branch_tree green) < length_limit → RunRefuses p next NoTreeNumber
  no-number next spent short = (r.made, r.would, (λ long. let l : length_limit ≤ text_length r.made = long in omega (arith, same-length, short, l)), spent)

  -- the refusal of the new root, as that of the plan
  pub refuses : (next : ℕ) (error : TreeError) → text_length (branch_tree green) < length_limit → (error ≡ tree.TooLong → length_limit ≤ text_length (branch_tree green)) → (error ≡ tree.NoTreeNumber → IsSpent next × (text_length (branch_tree green) < length_limit)) → RunRefuses p next (of_tree error)
  refuses next tree.TooLong short long spent = let l : length_limit ≤ text_length (branch_tree green) = long refl in absurd (omega (arith, short, l))
  refuses next tree.NoTreeNumber short long spent = let s = spent refl in no-number next s.0 s.1
  refuses next tree.Memory short long spent = tt

-- none of them is that of a text that is too long
pub of-root : (error : TreeError) (length : ℕ) → length < length_limit → (error ≡ tree.TooLong → length_limit ≤ length) → IsOfRoot (of_tree error)
of-root tree.TooLong length short long = let l : length_limit ≤ length = long refl in absurd (omega (arith, short, l))
of-root tree.NoTreeNumber length short long = tt
of-root tree.Memory length short long = tt

-- ---- what an engine did before a refusal
pub ran-without : (ran : Bool → Type 0) (e : EngineError) → ran false → RanBefore ran (of_engine e)
ran-without ran engine.TooLong r = r
ran-without ran engine.Memory r = (false, r)

pub ran-with : (ran : Bool → Type 0) → {T : Type 0} (r : Result T EditError) → IfErr r IsOfRoot → ran true → IfErr r (RanBefore ran)
ran-with ran (Ok t) of r = tt
ran-with ran (Err (Intersecting first second)) of r = absurd of
ran-with ran (Err (MissingMapping change owner)) of r = absurd of
ran-with ran (Err TooLong) of r = absurd of
ran-with ran (Err NoTreeNumber) of r = r
ran-with ran (Err Memory) of r = (true, r)

-- what an engine refuses a plan for
pub engine-refuses : (p : Plan) (next : ℕ) (e : EngineError) → EngineRefuses p e → RunRefuses p next (of_engine e)
engine-refuses p next engine.TooLong long = long
engine-refuses p next engine.Memory h = tt

-- a refusal that stands for another one
pub err-gives : {T E : Type 0} (P : E → Type 0) (r : Result T E) (x : E) → IsErrAnd r (λ e. e ≡ x) → P x → IfErr r P
err-gives P (Ok t) x is holds = tt
err-gives P (Err e) x is holds = subst P (sym is) holds

-- what holds whatever the answer is
pub err-holds : {T E P : Type 0} (r : Result T E) → P → OnErr r P
err-holds (Ok t) h = tt
err-holds (Err e) h = h

pub ok-holds : {T E P : Type 0} (r : Result T E) → P → OnOk r P
ok-holds (Ok t) h = h
ok-holds (Err e) h = tt

-- ---- the next number, where there is one
pub ok-no-err : {T E : Type 0} (x : T) (e : E) → Ok x ≡ Err e → ⊥
ok-no-err x e same = true≢false (ap is_ok same)

pub drawn-next : (o : Option ℕ) (next after : ℕ) → (IsNone o → IsSpent next) → (IsSpent next → ⊥) → OnSome o (after ≡ next + 1) → after ≡ next + 1
drawn-next None next after none unspent some = absurd (unspent (none refl))
drawn-next (Some n) next after none unspent some = some

-- ---- a tree that was made otherwise
pub with-tree : (p : Plan) (old : Rewritten) (green shown : Branch) → HasRewritten p old → green ≡ shown → ((places : ℕ → Path) → ArePlaces p.mapping p.changes places → map plain (new_tree p.changes places p.root) ≡ branch_tree shown ∷ []) → HasRewritten p (record { green = green; changed = old.changed; annotated = old.annotated })
with-tree p old green shown r same made =
    let one : plain r.made ≡ branch_tree green = same_Some (plain r.made) (branch_tree green) (ap first_item (ap (map plain) (sym r.would.is_new) ∙ made r.would.places r.would.are_places ∙ ap (λ b. branch_tree b ∷ []) (sym same))) in
    record { made = r.made; would = r.would; tree_is = sym one; changed_is = r.changed_is; leads = subst (λ t. All (λ n. IsSome (at t n.1)) (map annotated_path old.annotated.items)) (r.tree_is ∙ one) r.leads; annotated_is = r.annotated_is }
