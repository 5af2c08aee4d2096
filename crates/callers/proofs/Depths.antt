-- The calls on the child nodes of a root aim one level below it.
--     calls_depth        the calls on three child nodes of a root replace or delete at depth 1
use Rattle.std.specs.Prelude.{◌≡◌, ◌+◌, List, [], ◌∷◌, length, Some, All}
use Rattle.std.proofs.Common.{ap, subst, ◌∙◌}
use Rattle.std.proofs.lemmas.List.Elements.{All-head, All-tail, All-cons, All-nil}
use Rattle.syntax_editor.specs.Kinds.{COMMA}
use Rattle.syntax_editor.specs.Element.{Element}
use Rattle.syntax_editor.specs.SyntaxElement.{child_nodes}
use Rattle.syntax_editor.specs.ElementForms.TheVariants.{Node}
use Rattle.syntax_editor.specs.RecordCall.{RecordCall, Replacing}
use Rattle.syntax_editor.specs.EditorLaws.{target_depth}
use Rattle.list_removal.specs.Removal.{removal}
use Rattle.callers.specs.Rearranged.{calls}

abbrev IsBelow : Element → Element → Type 0
IsBelow e n = length n.path ≡ length e.path + 1

abbrev AtOne : RecordCall → Type 0
AtOne call = target_depth call ≡ Some 1

pub calls_depth : (root a b c : Element) → root.path ≡ [] → child_nodes root ≡ a ∷ b ∷ c ∷ [] → All (λ n. length n.path ≡ length root.path + 1) (child_nodes root) → (target_depth (removal COMMA (Node c)) ≡ Some (length c.path)) → All (λ call. target_depth call ≡ Some 1) (calls a b c)
calls_depth root a b c top nodes below removed =
    let all : All (IsBelow root) (a ∷ b ∷ c ∷ []) = subst (All (IsBelow root)) nodes below in
    let others : All (IsBelow root) (b ∷ c ∷ []) = All-tail (IsBelow root) a (b ∷ c ∷ []) all in
    let last : All (IsBelow root) (c ∷ []) = All-tail (IsBelow root) b (c ∷ []) others in
    let one : (n : Element) → IsBelow root n → Some (length n.path) ≡ Some 1 = λ n below. ap Some (below ∙ ap (λ p. length p + 1) top) in
    let swap = Replacing (Node a) (Node b) in
    let back = Replacing (Node b) (Node a) in
    let cut = removal COMMA (Node c) in
    All-cons AtOne swap (back ∷ cut ∷ []) (one a (All-head (IsBelow root) a (b ∷ c ∷ []) all)) (All-cons AtOne back (cut ∷ []) (one b (All-head (IsBelow root) b (c ∷ []) others)) (All-cons AtOne cut [] (removed ∙ one c (All-head (IsBelow root) c [] last)) (All-nil AtOne)))
