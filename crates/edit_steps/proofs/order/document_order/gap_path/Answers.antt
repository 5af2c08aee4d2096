use Rattle.std.proofs.Common.{◌≡◌, ◌∙◌, ap, ap₂, sym, ◌++◌, ◌∷◌, [], length, ◌-◌, ℕ}
use Rattle.std.specs.Prelude.{option_map, Some, None}
use Rattle.cst_core.specs.Path.{Path, parent_path}
use Rattle.edit_change.specs.Position.{anchor, after_of}
use Rattle.edit_steps.proofs.Turns.{front-parent, gap-first, gap-after}
use Rattle.edit_steps.proofs.order.document_order.gap_path.Goals as goal
use Rattle.edit_steps.proofs.order.document_order.gap_path.Goals.{in-Some, in-None}

pub returns : goal.returns
returns c =
    let at = c.args.position.now in
    let path = c.in_ok-path.path in
    let own : path.items ≡ (anchor at).path = c.in_ok-path.ensures.items ∙ c.anchor.ensures in
    let long : c.in_ok-path.path.items ≡ c.anchor.result.now = c.in_ok-path.ensures.items in
    c.in_ok-push.ensures.items ∙ (elim c.match-after_of.branch [
      | in-Some w ↦
          let front = ap (λ v. v.items) w.path-is ∙ w.pop.ensures.rest ∙ front-parent path.items _ (ap (λ n. n - 1) (c.in_ok-path.ensures.len ∙ ap length (sym long))) ∙ ap parent_path own in
          let after : after_of at ≡ Some w.in-Some.element.now = sym c.after_of.ensures ∙ ap (λ o. option_map (λ e. e.now) o) w.in-Some.is in
          ap₂ {A = Path} {B = ℕ} {C = Path} (λ p i. p ++ i ∷ []) front w.slot-is ∙ gap-after at w.in-Some.element.now w.slot_after-slot.result after w.slot_after-slot.ensures
      | in-None w ↦
          let first : after_of at ≡ None = sym c.after_of.ensures ∙ ap (λ o. option_map (λ e. e.now) o) w.in-None.is in
          ap₂ {A = Path} {B = ℕ} {C = Path} (λ p i. p ++ i ∷ []) (ap (λ v. v.items) w.path-is ∙ own) w.slot-is ∙ gap-first at first
    ])
