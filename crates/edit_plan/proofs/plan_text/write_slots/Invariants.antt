use Rattle.std.specs.Prelude.{flat_map}
use Rattle.std.specs.Fmt.{IsPlainFormatter}
use Rattle.green_tree.proofs.Written.{IsWrittenUpTo}
use Rattle.edit_plan.specs.PlanText.{slot_text}
use Rattle.edit_plan.proofs.plan_text.write_slots.Given as goal

abbrev pub invariant-loop-slot : goal.invariant-loop-slot
invariant-loop-slot g l =
    IsPlainFormatter l.initial.f
    → IsWrittenUpTo g.W.Write.write_str_gives slot_text (flat_map slot_text) l.slots l.slot-index l.initial.f l.f
