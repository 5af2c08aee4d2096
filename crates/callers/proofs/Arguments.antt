-- A list of three items, taken from it one by one.
--     three_items        it has these and no others
--     rearranges         with its items as the arguments, an editor is another one after the calls on them
use Rattle.std.specs.Prelude.{◌≡◌, ◌≤◌, ◌<◌, List, [], ◌∷◌, length, slice_index_or}
use Rattle.std.proofs.Common.{arith}
use Rattle.syntax_editor.specs.Element.{Element}
use Rattle.syntax_editor.specs.SyntaxElement.{child_nodes}
use Rattle.syntax_editor.specs.Editor.{Editor}
use Rattle.callers.specs.Rearranged.{calls, after_calls, Rearranges}

pub three_items : {A : Type 0} (xs : List A) (a b c : A) → 3 ≤ length xs → length xs < 4 → a ≡ slice_index_or xs 0 a → b ≡ slice_index_or xs 1 b → c ≡ slice_index_or xs 2 c → xs ≡ a ∷ b ∷ c ∷ []
three_items [] a b c low high first second third = absurd (omega arith)
three_items (x ∷ []) a b c low high first second third = absurd (omega arith)
three_items (x ∷ y ∷ []) a b c low high first second third = absurd (omega arith)
three_items (x ∷ y ∷ z ∷ []) a b c low high first second third = cc
three_items (x ∷ y ∷ z ∷ u ∷ xs) a b c low high first second third = absurd (omega arith)

pub rearranges : (root : Element) (before after : Editor) (a b c : Element) → child_nodes root ≡ a ∷ b ∷ c ∷ [] → after ≡ after_calls (calls a b c) before → Rearranges root before after
rearranges root before after a b c arguments recorded = record { first = a; second = b; third = c; arguments = arguments; recorded = recorded }
