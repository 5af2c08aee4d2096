use Rattle.std.specs.Prelude.{ℕ, ◌<◌, List, [], length, Option, unwrap_or, option_and_then, Vec}
use Rattle.std.specs.Global.{Global}
use Rattle.std.proofs.Common.{◌≡◌, ◌∙◌, None, Some, ap, ap₂, sym, arith, get_or}
use Rattle.std.proofs.lemmas.Option.{slice_get-get_or}
use Rattle.edit_map.specs.Mapping.{path_in}
use Rattle.std.proofs.lemmas.Grind.{common_steps}
use Rattle.edit_change.specs.ChangeAim.{aim_path}
use Rattle.edit_change.specs.NewTree.{moved_path}
use Rattle.edit_change.specs.inner.OwnerPlaces.{places_in, AimsFrom}
use Rattle.edit_change.proofs.Lists.{if-ok-weaker}
use Rattle.edit_change.proofs.MovedAims.{change-at, owner-is, owner-within, aims-free, aims-owned}
use Rattle.edit_change.proofs.staged.staged_path.Goals as goal
use Rattle.edit_change.proofs.staged.staged_path.Goals.{in-Some-places, in-None}

-- the place of an owner, from a table
place-at : (table : List (Option (Vec ℕ Global))) (o : ℕ) (x : Option (Vec ℕ Global)) → o < length table → x ≡ get_or table o x → unwrap_or (path_in x) [] ≡ places_in table o
place-at table o x l is =
    ap (λ y. unwrap_or (option_and_then path_in y) []) (sym (slice_get-get_or table o x l ∙ ap Some (sym is)))

pub offset_bounds-changes-owner : goal.offset_bounds-changes-owner
offset_bounds-changes-owner c =
    let cs = c.args.changes.now in
    let n = c.args.number in
    let d = c.index-changes-number.result in
    let at = change-at cs n d c.requires.there c.index-changes-number.is in
    let within = owner-within cs n d c.in-Some.owner at (sym c.in-Some.is ∙ c.requires.owner) in
    omega (arith, within, c.well_formed.1.0.1)

pub bounds-changes-owner : goal.bounds-changes-owner
bounds-changes-owner c =
    let cs = c.args.changes.now in
    let n = c.args.number in
    let d = c.index-changes-number.result in
    let at = change-at cs n d c.requires.there c.index-changes-number.is in
    let within = owner-within cs n d c.in-Some.owner at (sym c.in-Some.is ∙ c.requires.owner) in
    within

pub offset_bounds-places-owner : goal.offset_bounds-places-owner
offset_bounds-places-owner c =
    let cs = c.args.changes.now in
    let n = c.args.number in
    let d = c.index-changes-number.result in
    let at = change-at cs n d c.requires.there c.index-changes-number.is in
    let within = owner-within cs n d c.in-Some.owner at (sym c.in-Some.is ∙ c.requires.owner) in
    omega (arith, within, c.requires.places, c.well_formed.1.1.0.1)

pub bounds-places-owner : goal.bounds-places-owner
bounds-places-owner c =
    let cs = c.args.changes.now in
    let n = c.args.number in
    let d = c.index-changes-number.result in
    let at = change-at cs n d c.requires.there c.index-changes-number.is in
    let within = owner-within cs n d c.in-Some.owner at (sym c.in-Some.is ∙ c.requires.owner) in
    omega (arith, within, c.requires.places)

pub returns : goal.returns
returns c =
    let cs = c.args.changes.now in
    let places = places_in c.args.places.now in
    let n = c.args.number in
    let d = c.index-changes-number.result in
    let at = change-at cs n d c.requires.there c.index-changes-number.is in
    let o = c.in-Some.owner in
    let by = sym c.in-Some.is ∙ c.requires.owner in
    let r = c.index-changes-owner.result in
    let at_o = change-at cs o r (owner-within cs n d o at by) c.index-changes-owner.is in
    let its = owner-is cs n d (Some o) at by in
    let within = owner-within cs n d o at by in
    let there : o < length c.args.places.now = omega (arith, within, c.requires.places) in
    let kept = place-at c.args.places.now o c.index-places-owner.result there c.index-places-owner.is in
    let place : c.match-places-owner.place.now ≡ places o = elim c.match-places-owner.branch [
      | in-Some-places w ↦ ap (λ p. p.now) w.place-is ∙ w.as_slice-place.ensures.value ∙ ap (λ x. unwrap_or (path_in x) []) (sym w.in-Some-places.is) ∙ kept
      | in-None w ↦ ap (λ p. p.now) w.place-is ∙ ap (λ x. unwrap_or (path_in x) []) (sym w.in-None.is) ∙ kept
    ] in
    let moved : c.match-get.moved.items ≡ moved_path c.aim_path-target.result.now c.match-places-owner.place.now c.aim_path-path.result.now = grind (arith, common_steps) in
    aims-owned cs places c.requires.fit.0 n o d r c.match-get.moved.items c.requires.fit.1 at its at_o (moved ∙ ap₂ (λ t p. moved_path t p c.aim_path-path.result.now) c.aim_path-target.ensures place ∙ ap (λ p. moved_path (aim_path r) (places o) p) c.aim_path-path.ensures)

pub returns-in_default : goal.returns-in_default
returns-in_default c =
    let cs = c.args.changes.now in
    let n = c.args.number in
    let d = c.index-changes-number.result in
    let at = change-at cs n d c.requires.there c.index-changes-number.is in
    let its = owner-is cs n d None at (sym c.in_default.is ∙ c.requires.owner) in
    if-ok-weaker _ (λ v. AimsFrom cs (places_in c.args.places.now) n v.items) (λ v is. aims-free cs (places_in c.args.places.now) c.requires.fit.0 n d v.items c.requires.fit.1 at its (is ∙ c.aim_path-path.ensures)) c.from_slice.result c.from_slice.ensures.items
