-- The tree and the payloads of changes, of which some are carried out.
--     GivesTrees                     what each change gives, without origins: its payload, rewritten by what it owns
--     IsPayload, IsPayloadStage      what is kept of a payload: it is rewritten by the changes that are done and that it owns
--     IsNewRoot, HasNewRoot          what is kept of the new root: there is one where the change that replaces the root is done
--     HasTrees                       where these are done: the old tree, rewritten by those of them without an owner, and the payloads
--     IsStages                       the same with what waits, and with the new root
--     builds_of, done_in             the count of nodes that were built; of each change, whether it is done
--     Seen, EachWay, SomeWay         what is said in a way of seeing what is done; of each way; of some way
--     StaysAs                        in each way the same is done as before
--     Begins                         nothing is done
--     HasNumber                      there is a change with this number
--     TellsReady, TellsComplete      an answer tells whether a change can be the next; whether all is done
--     ShowsTree, ShowsPayload        the tree, and a payload, as they stand now
--     Taking                         of these changes, some of which are done, this one can be the next
--     CanTake, EachTaking, Takes     there is a way to see it so; in each way of seeing it so; then it is done too
--     CountsTaken                    how a count rises by the nodes that this builds
use Rattle.std.specs.Prelude.{◌≡◌, ◌<◌, ℕ, Bool, true, false, ◌||◌, nat_eq, List, [], ◌∷◌, map, length, slice_get, slice_index_or, Option, Some, None, All, MatchOption}
use Rattle.green_tree.specs.Path.{Path, has_path}
use Rattle.green_tree.specs.Tree.{SyntaxTree}
use Rattle.std.specs.Borrow.{Bor}
use Rattle.green_tree.specs.Green.{Branch, branch_tree}
use Rattle.cst_core.specs.Element.{Element, subtree}
use Rattle.edit_change.specs.Rewriting.{NumberedAim, rewritten, rewritten_whole}
use Rattle.edit_change.specs.inner.KindOnly.{kind_only}
use Rattle.edit_change.specs.Change.{targets}
use Rattle.edit_change.specs.Fits.{Fits}
use Rattle.edit_change.specs.Nesting.{first_clash}
use Rattle.edit_change.specs.declared.change.Change.{Change}
use Rattle.edit_steps.specs.Schedule.{is_ready, is_complete}
use Rattle.edit_steps.specs.inner.Waiting.{IsWaiting, done_list}
use Rattle.green_tree.specs.Count.{counted}
use Rattle.edit_steps.specs.inner.Stage.{old_tree, IsStage}
use Rattle.edit_steps.specs.StepCount.{step_builds}
use Rattle.edit_steps.specs.declared.stage.Stage.{Stage}
use Rattle.edit_change.specs.inner.OneNode.{IsNodeTree}
use Rattle.edit_change.specs.NewTree.{payload_of, independents, dependents, only}
use Rattle.edit_change.specs.StagedChange.{has_stage, staged_aim, tree_of}
use Rattle.edit_steps.specs.declared.stages.Stages.{Stages}

abbrev pub GivesTrees : List Change → (ℕ → Path) → (ℕ → List SyntaxTree) → Type 0
GivesTrees cs places g = (c : ℕ) → g c ≡ map (rewritten kind_only g (dependents cs places c) []) (map subtree (payload_of cs c))

-- ---- the values of code
module _ (cs : List Change) (places : ℕ → Path) (g : ℕ → List SyntaxTree) (done : ℕ → Bool) where
  pub record IsPayload (n : ℕ) (s : Stage) : Type 0 where
    pub keeps : has_stage cs n ≡ true
    pub brought : map subtree (payload_of cs n) ≡ old_tree s ∷ []
    pub node : IsNodeTree (old_tree s)
    pub stage : IsStage g (only done (dependents cs places n)) s

  abbrev pub IsPayloadStage : ℕ → Option Stage → Type 0
  IsPayloadStage n None = has_stage cs n ≡ false
  IsPayloadStage n (Some s) = IsPayload n s

  pub record IsNewRoot (node : Branch) : Type 0 where
    pub number : ℕ
    pub change : Change
    pub there : slice_get cs number ≡ Some change
    pub root : has_path (targets change) [] ≡ true
    pub is_done : done number ≡ true
    pub given : g number ≡ branch_tree node ∷ []

  abbrev pub HasNewRoot : Option Branch → Type 0
  HasNewRoot None = (n : ℕ) (c : Change) → slice_get cs n ≡ Some c → has_path (targets c) [] ≡ true → done n ≡ false
  HasNewRoot (Some node) = IsNewRoot node

  pub record HasTrees (root : SyntaxTree) (s : Stages) : Type 0 where
    pub root_is : old_tree s.tree ≡ root
    pub tree : IsStage g (only done (independents cs)) s.tree
    pub long : length s.payloads.items ≡ length cs
    pub payloads : (n : ℕ) → n < length cs → IsPayloadStage n (slice_index_or s.payloads.items n None)

  pub record IsStages (root : SyntaxTree) (s : Stages) : Type 0 where
    pub apart : first_clash cs ≡ None
    pub waiting : IsWaiting cs done s.waiting
    pub root_node : IsNodeTree root
    pub trees : HasTrees root s
    pub new_root : HasNewRoot s.new_root

abbrev pub builds_of : Stages → ℕ
builds_of s = s.builds

abbrev pub done_in : Stages → List Bool
done_in s = done_list s.waiting

-- ---- ways of seeing them
abbrev pub Seen : Type 1
Seen = List Change → (ℕ → Path) → (ℕ → List SyntaxTree) → (ℕ → Bool) → SyntaxTree → Type 0

abbrev pub EachWay : Stages → Seen → Type 0
EachWay s P =
    (cs : List Change) (places : ℕ → Path) (g : ℕ → List SyntaxTree) (done : ℕ → Bool) (root : SyntaxTree) → GivesTrees cs places g → IsStages cs places g done root s → P cs places g done root

abbrev pub SomeWay : Stages → (List Change → Type 0) → Type 0
SomeWay s P =
    (cs : List Change) × (places : ℕ → Path) × (g : ℕ → List SyntaxTree) × (done : ℕ → Bool) × (root : SyntaxTree) × GivesTrees cs places g × IsStages cs places g done root s × P cs

abbrev pub StaysAs : Stages → Stages → Type 0
StaysAs before after = EachWay before (λ cs places g done root. IsStages cs places g done root after)

abbrev pub Begins : List Change → SyntaxTree → Stages → Type 0
Begins cs root s =
    (places : ℕ → Path) (g : ℕ → List SyntaxTree) → GivesTrees cs places g → IsStages cs places g (λ n. false) root s

abbrev pub HasNumber : Stages → ℕ → Type 0
HasNumber s n = SomeWay s (λ cs. n < length cs)

abbrev pub TellsReady : Stages → ℕ → Bool → Type 0
TellsReady s n answer =
    EachWay s (λ cs places g done root. (c : Change) → slice_get cs n ≡ Some c → answer ≡ is_ready cs done (n, c))

abbrev pub TellsComplete : Stages → Bool → Type 0
TellsComplete s answer = EachWay s (λ cs places g done root. answer ≡ is_complete cs done)

-- the tree as it stands now
abbrev pub ShowsTree : Stages → SyntaxTree → Type 0
ShowsTree s t = EachWay s (λ cs places g done root. rewritten_whole kind_only g (only done (independents cs)) root ≡ t ∷ [])

-- a payload as it stands now, if there is one
abbrev pub ShowsPayload : Stages → ℕ → Option (Bor Branch) → Type 0
ShowsPayload s n shown =
    EachWay s (λ cs places g done root. MatchOption shown (has_stage cs n ≡ false) (λ b. (has_stage cs n ≡ true) × (map (rewritten kind_only g (only done (dependents cs places n)) []) (map subtree (payload_of cs n)) ≡ branch_tree b.now ∷ [])))

-- ---- one change more
pub record Taking (cs : List Change) (n : ℕ) (a : NumberedAim) (s : Stages) (places : ℕ → Path) (g : ℕ → List SyntaxTree) (done : ℕ → Bool) (root : Element) (c : Change) : Type 0 where
  pub fit : All (Fits root) cs
  pub gives : GivesTrees cs places g
  pub stages : IsStages cs places g done (subtree root) s
  pub there : slice_get cs n ≡ Some c
  pub ready : is_ready cs done (n, c) ≡ true
  pub aims : a ≡ (n, staged_aim cs places c)

abbrev pub CanTake : List Change → ℕ → NumberedAim → Stages → Type 0
CanTake cs n a s =
    (places : ℕ → Path) × (g : ℕ → List SyntaxTree) × (done : ℕ → Bool) × (root : Element) × (c : Change) × Taking cs n a s places g done root c

abbrev pub EachTaking : List Change → ℕ → NumberedAim → Stages → ((ℕ → Path) → (ℕ → List SyntaxTree) → (ℕ → Bool) → Element → Change → Type 0) → Type 0
EachTaking cs n a s P =
    (places : ℕ → Path) (g : ℕ → List SyntaxTree) (done : ℕ → Bool) (root : Element) (c : Change) → Taking cs n a s places g done root c → P places g done root c

abbrev pub Takes : List Change → ℕ → NumberedAim → Stages → Stages → Type 0
Takes cs n a before after = EachTaking cs n a before (λ places g done root c. IsStages cs places g (λ m. nat_eq n m || done m) (subtree root) after)

abbrev pub CountsTaken : List Change → ℕ → NumberedAim → Stages → Stages → Type 0
CountsTaken cs n a before after =
    EachTaking cs n a before (λ places g done root c. builds_of after ≡ counted (builds_of before) (step_builds (tree_of cs (subtree root) c) a.1))
