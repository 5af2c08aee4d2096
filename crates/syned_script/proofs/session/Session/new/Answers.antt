use Rattle.std.proofs.Common.{◌≡◌, ℕ, List, None, ap, ◌∙◌}
use Rattle.std.proofs.Math.Path.{fun_ext}
use Rattle.script_lines.specs.Dialect.{Language}
use Rattle.script_lines.specs.LineValue.{language_of}
use Rattle.syned_script.specs.State.{State, Roots}
use Rattle.syned_script.specs.inner.SessionState.{roots_of}
use Rattle.syned_script.proofs.session.Session.new.Goals as goal

abbrev begun : Language → ℕ → Roots → List (List ℕ) → State
begun language next roots words =
    record { language = language; next = next; roots = roots; words = words; editing = None }

same : (l m : Language) (n k : ℕ) (r q : Roots) (v w : List (List ℕ)) → l ≡ m → n ≡ k → r ≡ q → v ≡ w → begun l n r v ≡ begun m k q w
same l m n k r q v w language next roots words =
    ap (λ x. begun x n r v) language ∙ ap (λ x. begun m x r v) next ∙ ap (λ x. begun m k x v) roots ∙ ap (begun m k q) words

pub returns : goal.returns
returns c =
    let no_roots : roots_of c.new-3.result ≡ (λ name. None) = fun_ext c.new-3.ensures in
    same (language_of c.new.result) _ c.new-2.result _ (roots_of c.new-3.result) _ c.new-4.result _ c.new.ensures c.new-2.ensures no_roots c.new-4.ensures
