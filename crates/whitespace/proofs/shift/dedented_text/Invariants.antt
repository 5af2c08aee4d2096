use Rattle.std.specs.Prelude.{◌≡◌, ◌++◌, ◌∷◌, length, string_bytes}
use Rattle.whitespace.specs.Level.{newline}
use Rattle.whitespace.specs.Indentation.{dedented_text}
use Rattle.whitespace.proofs.Dedented.{after}
use denote.Shadow.{shadow}
use denote.Text.{Utf8}
use Rattle.whitespace.proofs.shift.dedented_text.Given as goal

-- What is left is text, and stands after a newline.
abbrev pub invariant-lines : goal.invariant-lines
invariant-lines l = record { text : shadow (Utf8 l.rest); whole : string_bytes l.out ++ newline ∷ after l.level.0 l.rest ≡ dedented_text l.level.0 l.fn.text }

abbrev pub decreases-lines : goal.decreases-lines
decreases-lines l = length l.rest
