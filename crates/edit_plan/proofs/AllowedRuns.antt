-- A run along an allowed order.
--     IsAlong                       what stands in the order before a place is done
--     order-refused                 why an order is not carried out
--     along-new, along-step, along-more, along-end      at the beginning; the next change; after it; where all is done
use Rattle.std.specs.Prelude.{◌≡◌, ◌<◌, ◌≤◌, ◌+◌, ℕ, true, false, List, length, slice_get, slice_index_or, Some, IsSomeAnd}
use Rattle.std.proofs.Common.{ap, sym, subst, ◌∙◌, arith}
use Rattle.std.proofs.Math.ListN.{set}
use Rattle.std.proofs.lemmas.Bool.{le-ltb}
use Rattle.std.proofs.lemmas.List.{length-map, length-set}
use Rattle.std.proofs.lemmas.Option.{slice_get-get_or, slice_get_within}
use Rattle.edit_change.specs.declared.change.Change.{Change}
use Rattle.edit_steps.specs.Schedule.{IsAllowed, index_in, is_ready}
use Rattle.edit_steps.proofs.AllowedSteps.{OnTheWay, allowed-step, next-done, allowed-complete}
use Rattle.edit_steps.specs.OrderRefusal.{OrderRefuses}
use Rattle.edit_steps.specs.declared.order.order_error.OrderError.{OrderError}
use Rattle.edit_steps.specs.declared.order.order_error.OrderError.TheVariants.{NotEachOnce, OwnerTooEarly, GapOutOfOrder, TokenTooEarly, Memory}
use Rattle.edit_plan.specs.ExecuteRefusal.{of_order, ExecuteRefuses}
use Rattle.edit_plan.specs.Plan.{Plan}
use Rattle.edit_plan.specs.Run.{Run, new_run, is_done, CanStep}
use Rattle.edit_plan.specs.inner.PlanStages.{IsCarriedOut}
use Rattle.edit_plan.proofs.StagesOfRuns.{told-false, one-more-told}

pub record IsAlong (p : Plan) (order : List ℕ) (i : ℕ) (r : Run) : Type 0 where
  pub plan_is : r.plan ≡ p
  pub long : length r.done ≡ length p.changes
  pub way : OnTheWay order i (is_done r)

pub along-new : (p : Plan) (order : List ℕ) (r : Run) → r ≡ new_run p → IsAlong p order 0 r
along-new p order r is = record {
  plan_is = ap (λ x. x.plan) is;
  long = ap (λ x. length x.done) is ∙ length-map p.changes (λ c. false);
  way = λ k. ap (λ x. is_done x k) is ∙ told-false p.changes k ∙ sym (le-ltb (index_in order k) 0 (omega arith));
}

module _ (p : Plan) (order : List ℕ) (allowed : IsAllowed p.changes order) (i : ℕ) (r : Run) (along : IsAlong p order i r) where
  module _ (less : i < length order) where
    abbrev number : ℕ
    number = slice_index_or order i 0

    abbrev IsReady : Type 0
    IsReady = (c : Change) × (slice_get p.changes number ≡ Some c) × (is_ready p.changes (is_done r) (number, c) ≡ true)

    next : IsReady
    next = allowed-step p.changes order allowed (is_done r) i number along.way (slice_get-get_or order i 0 less)

    pub along-step : CanStep r (slice_index_or order i 0)
    along-step =
        subst (λ cs. IsSomeAnd (slice_get cs number) (λ c. is_ready cs (is_done r) (number, c) ≡ true)) (ap (λ x. x.changes) (sym along.plan_is)) (subst (λ o. IsSomeAnd o (λ c. is_ready p.changes (is_done r) (number, c) ≡ true)) (sym next.1) next.2)

    pub along-more : (t : Run) → t.plan ≡ r.plan → t.done ≡ set r.done (slice_index_or order i 0) true → IsAlong p order (i + 1) t
    along-more t same list =
        let within : number < length r.done = omega (arith, along.long, slice_get_within p.changes number next.0 next.1) in
        record {
          plan_is = same ∙ along.plan_is;
          long = ap length list ∙ length-set r.done number true ∙ along.long;
          way = λ k. ap (λ ds. slice_index_or ds k false) list ∙ sym (ap (λ f. f k) (one-more-told r.done number within)) ∙ next-done p.changes order allowed (is_done r) i number along.way (slice_get-get_or order i 0 less) k;
        }

  pub along-end : length order ≤ i → IsCarriedOut p r
  along-end end = record { plan_is = along.plan_is; complete = allowed-complete p.changes order allowed (is_done r) i end along.way }

-- ---- where the order is refused
pub order-refused : (q p : Plan) → q ≡ p → (cs : List Change) → cs ≡ q.changes → (listed : List ℕ) (number : ℕ) (e : OrderError) → OrderRefuses cs listed e → ExecuteRefuses p listed number (of_order e)
order-refused q p same cs cs_is listed number e h = go e (subst (λ x. OrderRefuses x listed e) (cs_is ∙ ap (λ x. x.changes) same) h)
  where
    go : (x : OrderError) → OrderRefuses p.changes listed x → ExecuteRefuses p listed number (of_order x)
    go NotEachOnce k = k
    go OwnerTooEarly k = k
    go GapOutOfOrder k = k
    go TokenTooEarly k = k
    go Memory k = tt
