use Rattle.std.specs.Prelude.{◌≡◌, [], true}
use Rattle.std.proofs.lemmas.List.Elements.{All-nil}
use Rattle.edit_change.specs.RewritingLaws.{is_at_depth}
use Rattle.syntax_editor.specs.RecordCall.{all_recorded}
use Rattle.syntax_editor.proofs.OneDepth.{calls_at}
use Rattle.syntax_editor.proofs.laws.calls_at_one_depth_own_nothing.Goals as goal

pub returns : goal.returns
returns c depth calls targets =
    c.changes_of_one_depth_own_nothing.ensures depth (all_recorded calls) (calls_at depth calls [] targets (All-nil (λ d. is_at_depth depth d ≡ true)))
