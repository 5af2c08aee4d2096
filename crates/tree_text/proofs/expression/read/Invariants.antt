use Rattle.std.proofs.Common.{length}
use denote.Text.{Utf8}
use denote.Shadow.{shadow}
use Rattle.tree_text.specs.inner.Reading.{reading}
use Rattle.tree_text.proofs.WholeTexts.{HasRead}
use Rattle.tree_text.proofs.expression.read.Given as goal

abbrev pub invariant-loop-c : goal.invariant-loop-c
invariant-loop-c l = record { is_text : shadow (Utf8 l.rest); read : HasRead l.names l.fn.gaps l.fn.limit l.expression l.rest (reading l.reader) }

abbrev pub decreases-loop-c : goal.decreases-loop-c
decreases-loop-c l = length l.rest
