use Rattle.std.proofs.Common.{◌∙◌}
use Rattle.edit_map.proofs.Making.{copy-append}
use Rattle.edit_map.proofs.laws.newer_copies_stand.Goals as goal

pub returns : goal.returns
returns c newer older m x made = made.copies x ∙ copy-append newer older x
