-- The word comes last in the list, and the table has its number.
use Rattle.std.proofs.Common.{◌≡◌, ℕ, suc, ◌∷◌, ◌++◌, [], length, List, Some, None, IfSome, sym, ◌∙◌, ap, subst, is_ok, if◌then◌else◌}
use Rattle.std.specs.Map.{update}
use Rattle.std.specs.Str.{bytes_eq}
use Rattle.std.specs.String.{string_bytes}
use Rattle.std.specs.HashMap.{get_by_text}
use Rattle.std.proofs.lemmas.Map.Text.{hash_map_updates_text}
use Rattle.syned_script.specs.WordValue.{texts_of}
use Rattle.syned_script.specs.State.{annotation_of}
use Rattle.syned_script.specs.inner.Numbered.{number_from, AreNumbered}
use Rattle.syned_script.specs.declared.words.Word.{Word}
use Rattle.syned_script.proofs.WordNumbers.{more-numbered}
use Rattle.syned_script.proofs.words.Words.draw.Goals as goal

drawn : (c : goal.After-unwrap) → AreNumbered c.insert.new.self c.push.new.self.items × (texts_of c.push.new.self.items ≡ texts_of c.self.inside.in_order.items ++ c.args.word.text.now ∷ []) × (c.in_ok-annotation.annotation ≡ annotation_of (texts_of c.push.new.self.items) c.args.word.text.now)
drawn c =
    let old = c.self.inside.annotations in
    let new = c.insert.new.self in
    let ws = c.self.inside.in_order.items in
    let word = c.args.word.text.now in
    let a = c.in_ok-annotation.annotation in
    let w : Word = record { text = c.in_ok-text.text; annotation = a } in
    let number : a ≡ suc (length c.as_slice.result.now) = subst (λ o. IfSome o (λ a. a ≡ suc (length c.as_slice.result.now))) c.in_ok-annotation.ensures.ok_part c.annotation_after.ensures in
    let text : string_bytes c.in_ok-text.text ≡ word = c.in_ok-text.ensures.ok ∙ c.as_str.ensures in
    let key : string_bytes c.in_ok-key.key ≡ word = c.in_ok-key.ensures.cases ∙ text in
    let none : number_from 1 (texts_of ws) word ≡ None = subst (λ ts. number_from 1 ts word ≡ None) (sym c.self.view_is) c.requires in
    let put = hash_map_updates_text (string_bytes c.in_ok-key.key) old new (Some a) c.in_ok-insert.ensures.updates in
    let pushed : c.push.new.self.items ≡ ws ++ w ∷ [] = subst (λ r. c.push.new.self.items ≡ (if is_ok r then c.reserve.new.self.items ++ w ∷ [] else c.reserve.new.self.items)) c.unwrap.ensures c.push.ensures.items ∙ ap (λ l. l ++ w ∷ []) c.reserve.ensures.items in
    more-numbered old new ws c.push.new.self.items w word c.self.invariant none text (number ∙ ap suc (ap length c.as_slice.ensures.value)) pushed
    (subst (λ b. (q : List ℕ) → get_by_text new q ≡ update bytes_eq (get_by_text old) b (Some a) q) key put)

pub invariant_of-self-2 : goal.invariant_of-self-2
invariant_of-self-2 c = (drawn c).0

pub returns-clause-annotation : goal.returns-clause-annotation
returns-clause-annotation c = (drawn c).2

pub returns-clause-words : goal.returns-clause-words
returns-clause-words c = (drawn c).1 ∙ ap (λ l. l ++ c.args.word.text.now ∷ []) c.self.view_is
