-- Payloads before anything is done.
--     fate-read                      the fate of a change, from a list of all fates
--     begun-more                     one more of them
--     begun                          all stages before anything is done
use Rattle.std.specs.Prelude.{◌≡◌, ◌<◌, ◌+◌, ◌&&◌, ℕ, false, not, refl, List, [], ◌∷◌, ◌++◌, map, length, slice_get, slice_index_or, Option, Some, None, option_map}
use Rattle.std.specs.Option.{option_map_or}
use Rattle.std.proofs.Common.{ap, sym, subst, ◌∙◌, arith, get_or}
use Rattle.std.proofs.lemmas.Bool.{cases_order}
use Rattle.std.proofs.lemmas.List.{get_or_push, get_or_append_left}
use Rattle.std.proofs.lemmas.Option.{same_Some, get_or_from_slice_get, slice_get-map}
use mathlib.Core.Logic.{inl, inr}
use Rattle.edit_change.specs.inner.Fate.{fate}
use Rattle.edit_change.specs.declared.change.Change.{Change}
use Rattle.edit_change.specs.declared.fate.Fate.{Fate}
use Rattle.edit_change.proofs.Clashes.{at-index}
use Rattle.edit_steps.specs.declared.stage.Stage.{Stage}
use Rattle.edit_change.specs.Change.{payload}
use Rattle.edit_change.specs.Nesting.{first_clash, is_keeping, is_dropped}
use Rattle.cst_core.specs.Path.{Path}
use Rattle.cst_core.specs.Tree.{SyntaxTree}
use Rattle.cst_core.specs.Element.{subtree}
use Rattle.edit_change.specs.Rewriting.{NumberedAim}
use Rattle.edit_steps.specs.inner.Waiting.{IsWaiting}
use Rattle.edit_steps.proofs.Tables.{has_at}
use Rattle.edit_steps.proofs.Undropped.{told-dropped}
use Rattle.edit_steps.specs.inner.Stage.{old_tree, IsStage}
use Rattle.edit_change.specs.NewTree.{independents, dependents, only}
use Rattle.edit_steps.specs.inner.Payload.{BeginsPayload, BeginPayloads, keeps_payload}
use Rattle.edit_change.specs.inner.OneNode.{IsNodeTree}
use Rattle.edit_steps.specs.inner.Splicing.{payload_at}
use Rattle.edit_steps.specs.inner.Stages.{IsPayloadStage, HasNewRoot, Begins}
use Rattle.edit_change.specs.StagedChange.{has_stage}
use Rattle.edit_steps.specs.declared.stages.Stages.{Stages}

-- the fate of a change, read from a list of all fates
pub fate-read : (cs : List Change) (fs : List Fate) (n : ℕ) (c : Change) (other : Fate) → fs ≡ map (fate cs) cs → slice_get cs n ≡ Some c → get_or fs n other ≡ fate cs c
fate-read cs fs n c other are at =
    get_or_from_slice_get fs n (fate cs c) other (ap (λ gs. slice_get gs n) are ∙ slice_get-map (fate cs) cs n ∙ ap (λ o. option_map (fate cs) o) at)

pub begun-more : (cs : List Change) (fs : List Fate) (n : ℕ) (c : Change) (other : Fate) (before after : List (Option Stage)) (o : Option Stage) → fs ≡ map (fate cs) cs → length before ≡ n → ((k : ℕ) (d : Change) → k < n → slice_get cs k ≡ Some d → BeginsPayload d (fate cs d) (slice_index_or before k None)) → after ≡ before ++ o ∷ [] → c ≡ get_or cs n c → n < length cs → BeginsPayload c (get_or fs n other) o → (k : ℕ) (d : Change) → k < n + 1 → slice_get cs k ≡ Some d → BeginsPayload d (fate cs d) (slice_index_or after k None)
begun-more cs fs n c other before after o are long so_far more is less begins k d l at =
    elim (cases_order k n) [
      | inl same ↦
          let here = at-index cs n c less is in
          let change : c ≡ d = same_Some c d (sym here ∙ ap (slice_get cs) (sym same) ∙ at) in
          let there : o ≡ slice_index_or after k None = sym (ap (λ ss. get_or ss k None) more ∙ get_or_push before o None k (long ∙ sym same)) in
          subst (BeginsPayload d (fate cs d)) there (subst (λ e. BeginsPayload e (fate cs e) o) change (subst (λ f. BeginsPayload c f o) (fate-read cs fs n c other are here) begins))
      | inr (inl earlier) ↦
          let there : slice_index_or before k None ≡ slice_index_or after k None = sym (ap (λ ss. get_or ss k None) more ∙ get_or_append_left before (o ∷ []) None k (omega (arith, long, earlier))) in
          subst (BeginsPayload d (fate cs d)) there (so_far k d earlier at)
      | inr (inr later) ↦ absurd (omega (arith, l, later))
    ]

-- ---- nothing is done
only-none : (cs : List NumberedAim) → only (λ n. false) cs ≡ []
only-none [] = refl
only-none (c ∷ cs) = only-none cs

begun-stage : (cs : List Change) (places : ℕ → Path) (g : ℕ → List SyntaxTree) (n : ℕ) (c : Change) (x : Option Stage) → slice_get cs n ≡ Some c → BeginsPayload c (fate cs c) x → IsPayloadStage cs places g (λ m. false) n x
begun-stage cs places g n c x at begins = go x begins
  where
    keeps : has_stage cs n ≡ keeps_payload c (fate cs c)
    keeps = ap (λ o. option_map_or (λ d. is_keeping d && not (is_dropped cs d)) o false) at ∙ ap (λ b. is_keeping c && not b) (sym (told-dropped cs c))

    go : (y : Option Stage) → BeginsPayload c (fate cs c) y → IsPayloadStage cs places g (λ m. false) n y
    go None none = keeps ∙ none
    go (Some s) h = record {
      keeps = keeps ∙ h.keeps;
      brought = ap (λ o. map subtree (option_map_or payload o [])) at ∙ h.brought;
      node = h.node;
      stage = subst (λ xs. IsStage g xs s) (sym (only-none (dependents cs places n))) (h.stage g);
    }

pub begun : (cs : List Change) (s : Stages) (root : SyntaxTree) → first_clash cs ≡ None → IsWaiting cs (λ n. false) s.waiting → IsNodeTree root → old_tree s.tree ≡ root → ((given : ℕ → List SyntaxTree) → IsStage given [] s.tree) → BeginPayloads cs s.payloads.items → s.new_root ≡ None → Begins cs root s
begun cs s root apart waiting node old tree payloads none = λ places g gives. record {
  apart = apart;
  waiting = waiting;
  root_node = node;
  trees = record {
    root_is = old;
    tree = subst (λ xs. IsStage g xs s.tree) (sym (only-none (independents cs))) (tree g);
    long = payloads.long;
    payloads = λ n l. let c = has_at cs n l in begun-stage cs places g n c.0 (payload_at s.payloads.items n) c.1 (payloads.each n c.0 c.1);
  };
  new_root = subst (HasNewRoot cs places g (λ n. false)) (sym none) (λ n c at root. refl);
}
