use Rattle.std.specs.Prelude.{◌≡◌, ℕ, ◌+◌, true, false, cond, ◌==◌, [], ◌∷◌, length, Option, Some, None, IsNone, OnSome, ◌↔◌, Ok, Err, refl}
use Rattle.std.proofs.Common.{ap, sym, ◌∙◌}
use Rattle.std.proofs.lemmas.Bool.{eqb-true, true≢false}
use Rattle.std.proofs.lemmas.List.{nil_from_length}
use Rattle.std.proofs.lemmas.List.Elements.{All-nil}
use Rattle.cst_core.specs.Element.{Element}
use Rattle.cst_core.specs.Path.{Path, same_path}
use Rattle.cst_core.specs.TreeIds.{IsSpent}
use Rattle.edit_change.specs.Fits.{Fits}
use Rattle.syntax_editor.specs.Editor.{has_parent, edited_root}
use Rattle.syntax_editor.proofs.editor.SyntaxEditor.new.Goals as goal

number-drawn : (o : Option ℕ) (n m : ℕ) → (IsNone o ↔ IsSpent n) → (IsSpent n → ⊥) → OnSome o (m ≡ n + 1) → m ≡ n + 1
number-drawn None n m spent left given = absurd (left (spent.0 refl))
number-drawn (Some k) n m spent left given = given

no-error : {T E : Type 0} (x : T) (e : E) → Ok x ≡ Err e → ⊥
no-error x e same = cc

empty-path : (p : Path) → (length p == 0) ≡ true → p ≡ []
empty-path p is = nil_from_length p (eqb-true (length p) 0 is)

no-parent : (p : Path) → p ≡ [] → cond (same_path p []) false true ≡ true → ⊥
no-parent p is has = true≢false (sym has ∙ ap (λ q. cond (same_path q []) false true) is)

parent-by-path : (p : Path) → (length p == 0) ≡ false → cond (same_path p []) false true ≡ true
parent-by-path [] h = absurd (true≢false h)
parent-by-path (i ∷ p) h = refl

pub returns-clause-root : goal.returns-clause-root
returns-clause-root c =
    let parent : has_parent c.args.root ≡ true = parent-by-path c.args.root.path (rw (← c.slots.ensures) (sym c.is_empty.ensures ∙ c.if-is_empty.false)) in
    let number : c.trial_source-drawn.result ≡ c.args.ids.now = c.trial_source-drawn.ensures in
    rw (c.in_ok-edited.ensures, c.in_ok-own-2.ensures.ok, number, parent) refl

pub returns-clause-drawn : goal.returns-clause-drawn
returns-clause-drawn c =
    let parent : has_parent c.args.root ≡ true = parent-by-path c.args.root.path (rw (← c.slots.ensures) (sym c.is_empty.ensures ∙ c.if-is_empty.false)) in
    let number : c.trial_source-drawn.result ≡ c.args.ids.now = c.trial_source-drawn.ensures in
    rw parent (number-drawn c.next.result c.args.ids.now c.next.new.self c.next.ensures.spent (λ spent. no-error _ _ (c.in_ok-own-2.ensures.no_number.1 (number ∙ spent))) c.next.ensures.given)

pub returns-clause-editor : goal.returns-clause-editor
returns-clause-editor c =
    let same : c.in_ok-own-2.own ≡ edited_root c.args.ids.now c.args.root = sym c.in_ok-edited.ensures ∙ returns-clause-root c in
    rw (c.of_root-2.ensures, same) refl

pub of_root-requires : goal.of_root-requires
of_root-requires c =
    ap (λ (e : Element). e.path) c.in_ok-own.ensures ∙ empty-path c.args.root.path (rw (← c.slots.ensures) (sym c.is_empty.ensures ∙ c.if-is_empty.true))

pub of_root-requires-2 : goal.of_root-requires-2
of_root-requires-2 c = ap (λ (e : Element). e.path) c.in_ok-own-2.ensures.ok

pub returns-then-is_empty-clause-editor : goal.returns-then-is_empty-clause-editor
returns-then-is_empty-clause-editor c =
    let root : c.args.root.path ≡ [] = empty-path c.args.root.path (rw (← c.slots.ensures) (sym c.is_empty.ensures ∙ c.if-is_empty.true)) in
    rw (c.of_root.ensures, c.in_ok-own.ensures, root) refl

pub returns-then-is_empty-clause-root : goal.returns-then-is_empty-clause-root
returns-then-is_empty-clause-root c =
    let root : c.args.root.path ≡ [] = empty-path c.args.root.path (rw (← c.slots.ensures) (sym c.is_empty.ensures ∙ c.if-is_empty.true)) in
    rw root refl

pub returns-then-is_empty-clause-drawn : goal.returns-then-is_empty-clause-drawn
returns-then-is_empty-clause-drawn c =
    let root : c.args.root.path ≡ [] = empty-path c.args.root.path (rw (← c.slots.ensures) (sym c.is_empty.ensures ∙ c.if-is_empty.true)) in
    rw root refl

pub returns-then-is_empty-clause-no_number : goal.returns-then-is_empty-clause-no_number
returns-then-is_empty-clause-no_number c =
    let root : c.args.root.path ≡ [] = empty-path c.args.root.path (rw (← c.slots.ensures) (sym c.is_empty.ensures ∙ c.if-is_empty.true)) in
    ((λ same. absurd (no-error _ _ same)), (λ lacks. absurd (no-parent c.args.root.path root lacks.0)))

pub returns-clause-no_number : goal.returns-clause-no_number
returns-clause-no_number c =
    let number : c.trial_source-drawn.result ≡ c.args.ids.now = c.trial_source-drawn.ensures in
    ((λ same. absurd (no-error _ _ same)), (λ lacks. absurd (no-error _ _ (c.in_ok-own-2.ensures.no_number.1 (number ∙ lacks.1)))))

pub returns-then-is_empty-clause-is_editor : goal.returns-then-is_empty-clause-is_editor
returns-then-is_empty-clause-is_editor c =
    let root = ap (λ (e : Element). e.path) c.in_ok-own.ensures ∙ empty-path c.args.root.path (rw (← c.slots.ensures) (sym c.is_empty.ensures ∙ c.if-is_empty.true)) in
    rw c.of_root.ensures (record { is_root = root; fit = All-nil (Fits c.in_ok-own.own) })

pub returns-clause-is_editor : goal.returns-clause-is_editor
returns-clause-is_editor c =
    rw c.of_root-2.ensures (record { is_root = ap (λ (e : Element). e.path) c.in_ok-own-2.ensures.ok; fit = All-nil (Fits c.in_ok-own-2.own) })
