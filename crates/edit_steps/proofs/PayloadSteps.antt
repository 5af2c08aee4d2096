-- A step in the payload of an owner.
--     on-err-weaker                  what follows where a call is refused
--     becomes                        one payload exchanged for another one of the same old tree
use Rattle.std.specs.Prelude.{◌≡◌, ◌<◌, ℕ, List, length, slice_set, Option, Some, None, Result, Ok, Err, OnErr}
use Rattle.std.proofs.Common.{sym, subst, ◌∙◌, get_or}
use Rattle.std.proofs.lemmas.List.{get_or-set_same}
use Rattle.std.proofs.lemmas.Option.{same_Some, slice_get-get_or}
use Rattle.edit_steps.specs.declared.stage.Stage.{Stage}
use Rattle.edit_steps.specs.inner.Stage.{old_tree}
use Rattle.edit_steps.specs.inner.Splicing.{payload_at}

pub on-err-weaker : {T E : Type 0} {A B : Type 0} (r : Result T E) → (A → B) → OnErr r A → OnErr r B
on-err-weaker (Ok x) f h = tt
on-err-weaker (Err x) f h = f h

module _ (stages : List (Option Stage)) (n : ℕ) (within : n < length stages) (o : Option Stage) (here : o ≡ get_or stages n o) (s t : Stage) (is : o ≡ Some s) (old : old_tree t ≡ old_tree s) (R : Stage → Stage → Type 0) where
  pub becomes : R s t → (u : Stage) → payload_at stages n ≡ Some u → (v : Stage) × (payload_at (slice_set stages n (Some t)) n ≡ Some v) × (old_tree v ≡ old_tree u) × R u v
  becomes changed u there =
      let one : get_or stages n o ≡ get_or stages n None = same_Some (get_or stages n o) (get_or stages n None) (sym (slice_get-get_or stages n o within) ∙ slice_get-get_or stages n None within) in
      let same : s ≡ u = same_Some s u (sym is ∙ here ∙ one ∙ there) in
      (t, get_or-set_same stages n (Some t) None within, subst (λ w. old_tree t ≡ old_tree w) same old, subst (λ w. R w t) same changed)
