use Rattle.std.proofs.Common.{◌≡◌, List, ℕ, Some, ◌∙◌, subst}
use Rattle.std.proofs.Math.Path.{fun_ext}
use Rattle.std.specs.Map.{update}
use Rattle.std.specs.Str.{bytes_eq}
use Rattle.std.specs.String.{string_bytes}
use Rattle.std.specs.HashMap.{get_by_text}
use Rattle.std.proofs.lemmas.Map.Text.{hash_map_updates_text}
use Rattle.syned_script.proofs.roots.Roots.add.Goals as goal

pub returns-clause-added : goal.returns-clause-added
returns-clause-added c =
    let old = c.args.self.now.roots in
    let new = c.insert.new.self in
    let key : string_bytes c.in_ok-name.name ≡ c.args.name.text.now = c.in_ok-name.ensures.ok ∙ c.as_str.ensures in
    let put = hash_map_updates_text (string_bytes c.in_ok-name.name) old new (Some c.args.root) c.in_ok-insert.ensures.updates in
    fun_ext (subst (λ b. (q : List ℕ) → get_by_text new q ≡ update bytes_eq (get_by_text old) b (Some c.args.root) q) key put)
