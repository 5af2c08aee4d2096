-- What changes give, entered into a table, the last in document order first.
--     entry_of                      what a list of entries has for a change
--     entry-here, entry-elsewhere   an entry exchanged
--     given-entered                 one change more
--     given-past                    behind the last change there is none
--     owned-at                      what a change owns
use Rattle.std.specs.Prelude.{◌≡◌, ◌≢◌, ℕ, suc, ◌<◌, ◌≤◌, List, [], map, length, slice_get, Vec, Some, get_or}
use Rattle.std.specs.Global.{Global}
use Rattle.std.specs.Option.{option_map_or}
use Rattle.std.proofs.Common.{ap, sym, ◌∙◌, arith}
use Rattle.std.proofs.Math.ListN.{set}
use Rattle.std.proofs.lemmas.Option.{slice_get-get_or, slice_get_past}
use mathlib.Core.List.{map-map}
use mathlib.Core.Path.{fun_ext}
use Rattle.cst_core.specs.Path.{Path}
use Rattle.cst_core.specs.Element.{Element, subtree}
use Rattle.std.specs.Prelude.{All}
use Rattle.edit_change.specs.Fits.{Fits}
use Rattle.edit_change.specs.inner.DocumentOrder.{IsDocumentOrder}
use Rattle.one_pass.specs.declared.marked_element.GivenTable.{GivenTable}
use Rattle.one_pass.specs.declared.marked_element.MarkedElement.{MarkedElement}
use Rattle.edit_change.specs.inner.KindOnly.{kind_only}
use Rattle.one_pass.specs.inner.Pass.{given_trees, given_in}
use Rattle.one_pass.specs.inner.GivenTables.{each_rewritten}
use Rattle.edit_change.specs.Rewriting.{NumberedAim, rewritten}
use Rattle.edit_change.specs.Change.{payload}
use Rattle.one_pass.specs.inner.OwnerTables.{moved_dependent, dependents_in, IsGiven}
use Rattle.edit_change.specs.NewTree.{plain, payload_of, dependents, given}
use Rattle.edit_change.specs.declared.change.Change.{Change}
use Rattle.one_pass.specs.declared.dependent.Dependent.{Dependent}
use Rattle.edit_change.proofs.BroughtTops.{given-labelled}
use Rattle.edit_change.proofs.GivenTrees.{all_owned, rewritten-agree}
use Rattle.one_pass.proofs.EnteredBack.{EnteredFrom, entered}
use Rattle.edit_change.proofs.Lists.{slice_get-set_same, slice_get-set_other}

abbrev pub entry_of : List (Vec MarkedElement Global) → ℕ → List MarkedElement
entry_of es n = option_map_or (λ w. w.items) (slice_get es n) []

pub entry-here : (es : List (Vec MarkedElement Global)) (c : ℕ) (v : Vec MarkedElement Global) → c < length es → entry_of (set es c v) c ≡ v.items
entry-here es c v there = ap (λ o. option_map_or (λ w. w.items) o []) (slice_get-set_same es c v there)

pub entry-elsewhere : (es : List (Vec MarkedElement Global)) (c : ℕ) (v : Vec MarkedElement Global) (n : ℕ) → n ≢ c → entry_of (set es c v) n ≡ entry_of es n
entry-elsewhere es c v n other = ap (λ o. option_map_or (λ w. w.items) o []) (slice_get-set_other es c n v other)

-- ---- what a change gives, from what those that it owns give
module _ (cs : List Change) (places : ℕ → Path) where
  plain-given-is : (c : ℕ) → map plain (given cs places c) ≡ map (rewritten kind_only (λ n. map plain (given cs places n)) (dependents cs places c) []) (map subtree (payload_of cs c))
  plain-given-is c =
      given-labelled cs places (λ o. o.kind) c ∙ sym (map-map (rewritten kind_only (λ n. map plain (given cs places n)) (dependents cs places c) []) subtree (payload_of cs c))

  pub given-entered : (root : Element) → All (Fits root) cs → (order : List ℕ) (k o : ℕ) (table : GivenTable) (v : Vec MarkedElement Global) (owned : List NumberedAim) → IsDocumentOrder cs order → k < length order → get_or order k 0 ≡ o → o < length table.entries.items → owned ≡ dependents cs places o → given_trees v.items ≡ each_rewritten table owned (payload_of cs o) → EnteredFrom (IsGiven cs places table) order (suc k) → EnteredFrom (λ n. given_trees (entry_of (set table.entries.items o v) n) ≡ map plain (given cs places n)) order k
  given-entered root fit order k o table v owned by within stands there own trees a =
      let es = table.entries.items in
      entered cs order by root fit (IsGiven cs places table) (λ n. given_trees (entry_of (set es o v) n) ≡ map plain (given cs places n)) k o within stands a (λ holds. ap given_trees (entry-here es o v there) ∙ trees ∙ ap (λ ds. each_rewritten table ds (payload_of cs o)) own ∙ ap (λ h. map h (map subtree (payload_of cs o))) (fun_ext (λ t. rewritten-agree kind_only (given_in table) (λ n. map plain (given cs places n)) (dependents cs places o) (all_owned cs places (IsGiven cs places table) o holds) t)) ∙ sym (plain-given-is o)) (λ c differs h. ap given_trees (entry-elsewhere es o v c differs) ∙ h)

  pub given-past : (table : GivenTable) (c : ℕ) → length table.entries.items ≡ length cs → length cs ≤ c → IsGiven cs places table c
  given-past table c long past =
      ap (λ o. given_trees (option_map_or (λ w. w.items) o [])) (slice_get_past table.entries.items c (omega (arith, long, past))) ∙ sym (plain-given-is c ∙ ap (λ o. map (rewritten kind_only (λ n. map plain (given cs places n)) (dependents cs places c) []) (map subtree (option_map_or payload o []))) (slice_get_past cs c past))

-- ---- what stands at a number
pub owned-at : (table : List (Vec Dependent Global)) (i : ℕ) (v : Vec Dependent Global) → i < length table → v ≡ get_or table i v → dependents_in table i ≡ map moved_dependent v.items
owned-at table i v l is = ap (λ o. option_map_or (λ w. map moved_dependent w.items) o []) (slice_get-get_or table i v l ∙ ap (λ x. Some x) (sym is))
