use Rattle.std.specs.Prelude.{flat_map}
use Rattle.std.specs.List.{enumerate_from}
use Rattle.std.specs.Fmt.{IsPlainFormatter}
use Rattle.green_tree.proofs.Written.{IsWrittenUpTo}
use Rattle.edit_plan.specs.PlanText.{line_text}
use Rattle.edit_plan.proofs.plan_text.write_plan.Given as goal

abbrev pub invariant-loop-number : goal.invariant-loop-number
invariant-loop-number g l =
    IsPlainFormatter l.initial.f
    → IsWrittenUpTo g.W.Write.write_str_gives (line_text l.plan.changes) (flat_map (line_text l.plan.changes)) (enumerate_from 0 l.plan.changes) l.number l.initial.f l.f
