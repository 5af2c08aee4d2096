-- Nothing is asked of registrations: what holds of a plan without them holds of one with any.
--     is-plan-with, planned-with    what is true of every plan; what it keeps
--     refused-with                  why it is not built
use Rattle.std.specs.Prelude.{ℕ, List, Option, Vec}
use Rattle.std.specs.Global.{Global}
use Rattle.cst_core.specs.declared.element.SyntaxElement.{SyntaxElement}
use Rattle.edit_change.specs.declared.fate.Fate.{Fate}
use Rattle.edit_plan.specs.Plan.{Plan, IsPlan, BuildRefuses}
use Rattle.edit_plan.specs.declared.edit_error.EditError.{EditError}
use Rattle.edit_plan.specs.declared.edit_error.EditError.TheVariants.{Intersecting, MissingMapping, TooLong, NoTreeNumber, Memory}
use Rattle.edit_plan.specs.inner.PlanRun.{IsPlanned}

pub is-plan-with : (p : Plan) (rs : List (SyntaxElement × ℕ)) → IsPlan p → IsPlan (record p { registrations = rs })
is-plan-with p rs is = record {
  is_root = is.is_root;
  is_node = is.is_node;
  fit = is.fit;
  apart = is.apart;
  mapping_is = is.mapping_is;
  places = is.places;
  placed = is.placed;
}

pub planned-with : (p : Plan) (rs : List (SyntaxElement × ℕ)) (order : List ℕ) (fates : List Fate) (places : List (Option (Vec ℕ Global))) → IsPlanned p order fates places → IsPlanned (record p { registrations = rs }) order fates places
planned-with p rs order fates places is = record {
  is_plan = is-plan-with p rs is.is_plan;
  order_is = is.order_is;
  fates_are = is.fates_are;
  long = is.long;
  placed = is.placed;
}

pub refused-with : (p : Plan) (rs : List (SyntaxElement × ℕ)) (e : EditError) → BuildRefuses p e → BuildRefuses (record p { registrations = rs }) e
refused-with p rs (Intersecting first second) refused = refused
refused-with p rs (MissingMapping change owner) refused = refused
refused-with p rs TooLong refused = refused
refused-with p rs NoTreeNumber refused = refused
refused-with p rs Memory refused = refused
