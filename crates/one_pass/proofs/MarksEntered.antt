-- The marks of what changes give, entered into a table, those of the last in document order first.
--     AreEntered                    a table has the marks of what changes give, as far as they are entered
--     marks-begin, marks-entered, marks-end      before the first; one change more; all of them
use Rattle.std.specs.Prelude.{◌≡◌, ℕ, suc, ◌<◌, ◌≤◌, cond, nat_eq, List, [], map, length, slice_get, get_or, Some, None, Vec, All, refl}
use Rattle.std.specs.Global.{Global}
use Rattle.std.specs.Option.{option_map_or}
use Rattle.std.proofs.Common.{ap, ap₂, sym, subst, ◌∙◌, arith}
use Rattle.std.proofs.Math.ListN.{set}
use Rattle.std.proofs.lemmas.Bool.{cases_eq, cases_lt, eq-eqb, ne_eqb}
use Rattle.std.proofs.lemmas.Option.{slice_get_past}
use mathlib.Core.Logic.{inl, inr}
use mathlib.Core.Path.{fun_ext}
use Rattle.cst_core.specs.Path.{Path}
use Rattle.cst_core.specs.Element.{Address, Element, address, subtree}
use Rattle.edit_change.specs.Fits.{Fits}
use Rattle.edit_change.specs.inner.DocumentOrder.{IsDocumentOrder}
use Rattle.edit_change.specs.Rewriting.{NumberedAim, rewritten}
use Rattle.one_pass.specs.inner.Marked.{MarkTree, wanted}
use Rattle.one_pass.specs.inner.Pass.{marks_there, entry_in, AreMarked, AreMarkedIn}
use Rattle.one_pass.specs.declared.marked_element.GivenTable.{GivenTable}
use Rattle.one_pass.specs.declared.marked_element.MarkedElement.{MarkedElement}
use Rattle.edit_change.specs.Change.{payload}
use Rattle.edit_change.specs.Nesting.{owner}
use Rattle.edit_change.specs.NewTree.{origin, payload_of, dependents}
use Rattle.one_pass.specs.inner.Sought.{sought_at, registered_at, IsTableOf}
use Rattle.one_pass.specs.inner.Marks.{marks_given, payload_sought}
use Rattle.edit_change.specs.declared.change.Change.{Change}
use Rattle.one_pass.specs.declared.sought.Registered.{Registered}
use Rattle.edit_change.proofs.BroughtTops.{given-labelled}
use Rattle.edit_change.proofs.GivenTrees.{all_owned, rewritten-agree}
use Rattle.one_pass.proofs.EnteredBack.{EnteredFrom, begins, entered, ends}
use Rattle.one_pass.proofs.GivenEntered.{entry_of, entry-here, entry-elsewhere}

-- another answer for one change
abbrev with_answer : (ℕ → List MarkTree) → ℕ → List MarkTree → ℕ → List MarkTree
with_answer trees c ts n = cond (nat_eq n c) ts (trees n)

module _ (rs : List Address) (cs : List Change) (places : ℕ → Path) where
  abbrev has_given : (ℕ → List MarkTree) → ℕ → Type 0
  has_given trees c = trees c ≡ marks_given rs cs places c

  -- the payload of a change, rewritten by what those that it owns give
  payload-given : (c : ℕ) (index : List Registered) → IsTableOf rs index → payload_sought index (marks_given rs cs places) (dependents cs places c) (payload_of cs c) ≡ marks_given rs cs places c
  payload-given c index table =
      let labels : (e : Element) → wanted (sought_at index (address e)) ≡ (λ q k. registered_at rs (origin (address e) (Some c) q k).address) = λ e. fun_ext (λ q. fun_ext (λ k. table (address e) q)) in
      ap (λ f. map f (payload_of cs c)) (fun_ext (λ e. ap (λ l. rewritten l (marks_given rs cs places) (dependents cs places c) [] (subtree e)) (labels e))) ∙ sym (given-labelled cs places (λ o. registered_at rs o.address) c)

  agreed : (c : ℕ) (index : List Registered) (trees : ℕ → List MarkTree) → ((n : ℕ) (d : Change) → slice_get cs n ≡ Some d → owner cs d ≡ Some c → has_given trees n) → payload_sought index trees (dependents cs places c) (payload_of cs c) ≡ payload_sought index (marks_given rs cs places) (dependents cs places c) (payload_of cs c)
  agreed c index trees holds =
      ap (λ f. map f (payload_of cs c)) (fun_ext (λ e. rewritten-agree (wanted (sought_at index (address e))) trees (marks_given rs cs places) (dependents cs places c) (all_owned cs places (has_given trees) c holds) (subtree e)))

  pub record AreEntered (order : List ℕ) (k : ℕ) (table : GivenTable) : Type 0 where
    pub trees : ℕ → List MarkTree
    pub are : AreMarkedIn table trees
    pub by : EnteredFrom (has_given trees) order k
    pub past : (c : ℕ) → length cs ≤ c → trees c ≡ []

  pub marks-begin : (order : List ℕ) (k : ℕ) (table : GivenTable) → length order ≤ k → ((c : ℕ) → entry_in table c ≡ []) → AreEntered order k table
  marks-begin order k table past empty = record {
    trees = λ c. [];
    are = λ c. sym (ap (map (marks_there table.top)) (empty c));
    by = begins (has_given (λ c. [])) order k past;
    past = λ c l. refl;
  }

  pub marks-entered : (root : Element) → All (Fits root) cs → (order : List ℕ) (k o : ℕ) (index : List Registered) (table after : GivenTable) (v : Vec MarkedElement Global) (owned : List NumberedAim) → IsTableOf rs index → IsDocumentOrder cs order → k < length order → get_or order k 0 ≡ o → o < length cs → after.entries.items ≡ set table.entries.items o v → o < length table.entries.items → table.top ≡ None → after.top ≡ table.top → owned ≡ dependents cs places o → ((trees : ℕ → List MarkTree) → AreMarkedIn table trees → AreMarked None v.items (payload_sought index trees owned (payload_of cs o))) → AreEntered order (suc k) table → AreEntered order k after
  marks-entered root fit order k o index table after v owned sought by within stands inside is there none same_top own marks a =
      let ts : List MarkTree = payload_sought index a.trees owned (payload_of cs o) in
      let now = with_answer a.trees o ts in
      let of_entry : AreMarked None v.items ts = marks a.trees a.are in
      let here : AreMarked after.top (entry_in after o) ts = of_entry ∙ ap₂ (λ top es. map (marks_there top) es) (sym (same_top ∙ none)) (sym (ap (λ es. entry_of es o) is ∙ entry-here table.entries.items o v there)) in
      record {
        trees = now;
        are = λ c. elim (cases_eq c o) [
          | inl same ↦ subst (λ b. AreMarked after.top (entry_in after c) (cond b ts (a.trees c))) (sym (eq-eqb c o same)) (subst (λ n. AreMarked after.top (entry_in after n) ts) (sym same) here)
          | inr differs ↦ subst (λ b. AreMarked after.top (entry_in after c) (cond b ts (a.trees c))) (sym (ne_eqb c o differs)) (a.are c ∙ ap₂ (λ top es. map (marks_there top) es) (sym same_top) (sym (ap (λ es. entry_of es c) is ∙ entry-elsewhere table.entries.items o v c differs)))
        ];
        by = entered cs order by root fit (has_given a.trees) (has_given now) k o within stands a.by (λ all. ap (λ b. cond b ts (a.trees o)) (eq-eqb o o refl) ∙ ap (λ ds. payload_sought index a.trees ds (payload_of cs o)) own ∙ agreed o index a.trees all ∙ payload-given o index sought) (λ c differs h. ap (λ b. cond b ts (a.trees c)) (ne_eqb c o differs) ∙ h);
        past = λ c l. ap (λ b. cond b ts (a.trees c)) (ne_eqb c o (λ same. omega (arith, same, l, inside))) ∙ a.past c l;
      }

  pub marks-end : (order : List ℕ) (k : ℕ) (index : List Registered) (table : GivenTable) → IsTableOf rs index → IsDocumentOrder cs order → k ≤ 0 → AreEntered order k table → AreMarkedIn table (marks_given rs cs places)
  marks-end order k index table sought by none a c =
      subst (AreMarked table.top (entry_in table c)) (elim (cases_lt c (length cs)) [
        | inl there ↦ ends cs order by (has_given a.trees) k none a.by c there
        | inr past ↦ a.past c past ∙ sym (ap (λ o. payload_sought index (marks_given rs cs places) (dependents cs places c) (option_map_or payload o [])) (slice_get_past cs c past)) ∙ payload-given c index sought
      ]) (a.are c)
