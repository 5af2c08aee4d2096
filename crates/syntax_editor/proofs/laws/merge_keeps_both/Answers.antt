use Rattle.std.specs.Prelude.{[], unwrap_or}
use Rattle.std.proofs.Common.{ap, ◌∙◌}
use Rattle.std.proofs.lemmas.List.Elements.{filter_map-append}
use Rattle.edit_map.specs.Mapping.{copy}
use Rattle.change_list.specs.Recording.{replacement_of, replacements_of}
use Rattle.syntax_editor.proofs.laws.merge_keeps_both.Goals as goal

pub returns-clause-none_taken_up : goal.returns-clause-none_taken_up
returns-clause-none_taken_up c own other new e is = ap (replacements_of e) is.changes ∙ filter_map-append (replacement_of e) own.changes other.changes

pub returns-clause-copies : goal.returns-clause-copies
returns-clause-copies c own other new x is =
    ap (λ f. copy (unwrap_or f []) x) is.factory ∙ c.newer_copies_stand.ensures (unwrap_or other.factory []) (unwrap_or own.factory []) is.mapping x is.copies
