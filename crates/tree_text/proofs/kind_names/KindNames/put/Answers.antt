use Rattle.std.proofs.Common.{◌≡◌, ◌≢◌, ℕ, List, [], ◌∷◌, ◌++◌, true, Some, is_ok, if◌then◌else◌, sym, ◌∙◌, ap, ap₂, subst, string_bytes}
use Rattle.std.specs.HashMap.{get_by_text}
use Rattle.std.specs.Map.{update}
use Rattle.std.specs.Str.{bytes_eq}
use Rattle.std.proofs.lemmas.List.{map_push}
use Rattle.std.proofs.lemmas.Map.Text.{hash_map_updates_text}
use Rattle.std.proofs.lemmas.Result.{IfOk-from_err, MatchResult-from_err}
use Rattle.tree_text.specs.KindNames.{name_in, is_name}
use Rattle.tree_text.specs.declared.kind_names.GivenName.{GivenName}
use Rattle.tree_text.specs.inner.NamedKinds.{AreKept}
use Rattle.tree_text.proofs.Names.{entry, entries}
use Rattle.tree_text.proofs.KeptNames.{kept_after, kept_unchanged}
use Rattle.tree_text.proofs.kind_names.KindNames.put.Goals as goal

pub invariant_of-self-2 : goal.invariant_of-self-2
invariant_of-self-2 c =
    let old = c.self.inside.kinds in
    let new = c.insert.new.self in
    let gs = c.self.inside.given.items in
    let given : GivenName = record { kind = c.args.kind; name = c.in_ok-name.name } in
    let text = c.in_ok-name.ensures.ok in
    let spelled : is_name (string_bytes c.in_ok-name.name) ≡ true = rw text c.requires.spelled in
    let free : (k : ℕ) → name_in c.args.self.now k ≢ Some (string_bytes c.in_ok-name.name) = rw text c.requires.free in
    let put = hash_map_updates_text (string_bytes c.in_ok-key.key) old new (Some c.args.kind) c.in_ok-insert.ensures.updates in
    let pushed : c.push.new.self.items ≡ gs ++ given ∷ [] = subst (λ r. c.push.new.self.items ≡ (if is_ok r then c.reserve.new.self.items ++ given ∷ [] else c.reserve.new.self.items)) c.unwrap.ensures c.push.ensures.items ∙ ap (λ l. l ++ given ∷ []) c.reserve.ensures.items in
    kept_after old new gs c.push.new.self.items given c.self.invariant (rw c.self.view_is c.requires.unnamed) spelled (rw c.self.view_is free) pushed
    (subst (λ b. (q : List ℕ) → get_by_text new q ≡ update bytes_eq (get_by_text old) b (Some c.args.kind) q) (c.in_ok-key.ensures.ok ∙ sym text) put)

pub invariant_of-self : goal.invariant_of-self
invariant_of-self c = subst (λ gs. AreKept c.self.inside.kinds (entries gs)) (sym c.reserve.ensures.items) c.self.invariant

pub invariant_of-self-in_err-insert : goal.invariant_of-self-in_err-insert
invariant_of-self-in_err-insert c =
    let kept : AreKept c.self.inside.kinds (entries c.reserve.new.self.items) = subst (λ gs. AreKept c.self.inside.kinds (entries gs)) (sym c.reserve.ensures.items) c.self.invariant in
    kept_unchanged c.self.inside.kinds c.insert.new.self (entries c.reserve.new.self.items) kept c.in_err-insert.ensures.err

pub invariant_of-self-in_err-key : goal.invariant_of-self-in_err-key
invariant_of-self-in_err-key c = subst (λ gs. AreKept c.self.inside.kinds (entries gs)) (sym c.reserve.ensures.items) c.self.invariant

pub invariant_of-self-in_err-name : goal.invariant_of-self-in_err-name
invariant_of-self-in_err-name c = subst (λ gs. AreKept c.self.inside.kinds (entries gs)) (sym c.reserve.ensures.items) c.self.invariant

pub returns-in_err-reserve-clause-err : goal.returns-in_err-reserve-clause-err
returns-in_err-reserve-clause-err c =
    MatchResult-from_err c.from_residual.result _ _ c.from_residual.ensures.0 (λ e. ap entries c.reserve.ensures.items ∙ c.self.view_is)

pub returns-in_err-key-clause-err : goal.returns-in_err-key-clause-err
returns-in_err-key-clause-err c =
    MatchResult-from_err c.from_residual-in_err-key.result _ _ c.from_residual-in_err-key.ensures.0 (λ e. ap entries c.reserve.ensures.items ∙ c.self.view_is)

pub returns-in_err-name-clause-err : goal.returns-in_err-name-clause-err
returns-in_err-name-clause-err c =
    MatchResult-from_err c.from_residual-in_err-name.result _ _ c.from_residual-in_err-name.ensures.0 (λ e. ap entries c.reserve.ensures.items ∙ c.self.view_is)

pub returns-in_err-insert-clause-err : goal.returns-in_err-insert-clause-err
returns-in_err-insert-clause-err c =
    MatchResult-from_err c.from_residual-in_err-insert.result _ _ c.from_residual-in_err-insert.ensures.0 (λ e. ap entries c.reserve.ensures.items ∙ c.self.view_is)

pub returns-in_err-insert-clause-ok : goal.returns-in_err-insert-clause-ok
returns-in_err-insert-clause-ok c = IfOk-from_err c.from_residual-in_err-insert.result _ c.from_residual-in_err-insert.ensures.0

pub returns-clause-ok : goal.returns-clause-ok
returns-clause-ok c =
    let gs = c.self.inside.given.items in
    let given : GivenName = record { kind = c.args.kind; name = c.in_ok-name.name } in
    let pushed : c.push.new.self.items ≡ gs ++ given ∷ [] = subst (λ r. c.push.new.self.items ≡ (if is_ok r then c.reserve.new.self.items ++ given ∷ [] else c.reserve.new.self.items)) c.unwrap.ensures c.push.ensures.items ∙ ap (λ l. l ++ given ∷ []) c.reserve.ensures.items in
    ap entries pushed ∙ map_push entry gs given ∙ ap₂ (λ l n. l ++ (c.args.kind.0, n) ∷ []) c.self.view_is c.in_ok-name.ensures.ok
