-- A change that can be the next to be carried out is the next aim: in the tree, or in its owner's payload.
--     one_more, IsSplit             as in GroupNext
--     independent-next, owned-next  of a change without an owner; of a change that is owned
use Rattle.std.specs.Prelude.{◌≡◌, ℕ, Bool, true, false, nat_eq, List, [], slice_get, unwrap_or, Some, None, All, refl}
use Rattle.std.specs.Option.{option_map_or}
use Rattle.std.proofs.Common.{ap, subst, ◌∙◌}
use Rattle.std.proofs.lemmas.Bool.{eq-eqb}
use Rattle.cst_core.specs.Path.{Path, first_item}
use Rattle.cst_core.specs.Element.{Element}
use Rattle.edit_change.specs.ChangeAim.{aim}
use Rattle.edit_change.specs.Fits.{Fits}
use Rattle.edit_change.specs.Nesting.{first_clash, is_independent, owner, has_owner}
use Rattle.edit_change.specs.declared.change.Change.{Change}
use Rattle.edit_steps.specs.Schedule.{is_ready}
use Rattle.edit_steps.specs.inner.Waiting.{IsWaiting}
use Rattle.edit_steps.specs.declared.order.waiting.Waiting.{Waiting}
use Rattle.edit_change.specs.NewTree.{targets_of, moved_aim, independents, dependents}
use Rattle.edit_steps.proofs.NextInGroup.{group-next}
use Rattle.edit_steps.proofs.Groups.{free_group, owned_group, moved-nowhere, independents-moved}
pub use Rattle.edit_steps.proofs.NextInGroup.{one_more, IsSplit}

module _ (cs : List Change) (root : Element) (fit : All (Fits root) cs) (apart : first_clash cs ≡ None) (done : ℕ → Bool) (w : Waiting) (waiting : IsWaiting cs done w) (n : ℕ) (c : Change) (there : slice_get cs n ≡ Some c) (ready : is_ready cs done (n, c) ≡ true) where
  pub independent-next : is_independent cs c ≡ true → IsSplit (independents cs) done n (aim c)
  independent-next free =
      let moved : IsSplit (independents cs) done n (moved_aim [] [] (aim c)) = subst (λ ds. IsSplit ds done n (moved_aim [] [] (aim c))) (independents-moved cs) (group-next cs root fit apart done w waiting n c there ready (is_independent cs) [] [] (free_group cs) free) in
      subst (IsSplit (independents cs) done n) (moved-nowhere (aim c)) moved

  pub owned-next : (places : ℕ → Path) (o : ℕ) → owner cs c ≡ Some o → IsSplit (dependents cs places o) done n (moved_aim (unwrap_or (first_item (targets_of cs o)) []) (places o) (aim c))
  owned-next places o owned =
      let has : has_owner cs o c ≡ true = ap (λ x. option_map_or (nat_eq o) x false) owned ∙ eq-eqb o o refl in
      group-next cs root fit apart done w waiting n c there ready (has_owner cs o) (unwrap_or (first_item (targets_of cs o)) []) (places o) (owned_group cs o (places o)) has
