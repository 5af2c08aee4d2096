use Rattle.std.proofs.Common.{rules, ◌≡◌, ◌≤◌, ℕ, List, Result, Ok, Err, IfOk, IfErr, IsErrAnd, MatchResult, sym, subst}
use Rattle.cst_core.specs.Green.{Branch, branch_tree}
use Rattle.cst_core.specs.Tree.{SyntaxTree}
use Rattle.tree_text.specs.Depth.{depth}
use Rattle.tree_text.specs.Grammar.{IsExpression, is_gap_space}
use Rattle.tree_text.specs.KindNames.{AreNames, name_in}
use Rattle.tree_text.specs.Refusals.{ReadRefusesFor}
use Rattle.tree_text.specs.declared.error.ExpressionError.{ExpressionError}
use Rattle.tree_text.specs.declared.error.ExpressionError.TheVariants as Expressions
use Rattle.tree_text.proofs.Excluding.{malformed-never, lacking-never, deep-never}
use Rattle.script_lines.specs.Dialect.{Language, depth_in}
use Rattle.script_lines.specs.Line.{IsLineTree}
use Rattle.script_lines.specs.LineValue.{language_of}
use Rattle.script_lines.specs.Refusals.{Refuses}
use Rattle.script_lines.specs.inner.Expressions.{IsOfExpression}
use Rattle.script_lines.specs.declared.error.LineError.{LineError}
use Rattle.script_lines.specs.declared.error.LineError.TheVariants.{Bad, Memory}
use Rattle.script_lines.proofs.line.tree_of.Goals as goal

module _ (lang : Language) (w : List ℕ) where
  -- an error of a line that has no such tree, and one where memory ran out
  none-there : (f : LineError) → ((t : SyntaxTree) → IsLineTree lang w t → ⊥) → Refuses (IsLineTree lang w) f
  none-there (Bad fault) none = none
  none-there Memory none = tt

  memory : (f : LineError) → IsOfExpression Expressions.Memory f → Refuses (IsLineTree lang w) f
  memory (Bad fault) is = absurd is
  memory Memory is = tt

  abbrev Read : ExpressionError → Type 0
  Read e = ReadRefusesFor (depth_in lang.dialect) lang.kinds is_gap_space w e

  by-error : AreNames (name_in lang.kinds) → (e : ExpressionError) (f : LineError) → Read e → IsOfExpression e f → Refuses (IsLineTree lang w) f
  by-error names (Expressions.Malformed at x) f refused is = none-there f (λ t said. malformed-never lang.kinds is_gap_space w at refused lang.kinds (record { names = names; keeps = λ k n same. same }) t said.0)
  by-error names (Expressions.UnknownKind at) f refused is = none-there f (λ t said. lacking-never lang.kinds is_gap_space w at refused t said.0)
  by-error names (Expressions.TooDeep at) f refused is = none-there f (λ t said. deep-never lang.kinds is_gap_space (depth_in lang.dialect) w at refused t said.0 said.1)
  by-error names (Expressions.Tree e) f refused is = memory f is
  by-error names Expressions.Memory f refused is = memory f is

  exchanged : {A B : Type 0} (r : Result A ExpressionError) (m : Result B LineError) (P : A → Type 0) (Q : ExpressionError → LineError → Type 0)
      → AreNames (name_in lang.kinds) → MatchResult r P (λ e. IsErrAnd m (Q e)) → ((x : A) → P x → IfErr m (Refuses (IsLineTree lang w))) → ((e : ExpressionError) (f : LineError) → Q e f → IsOfExpression e f)
      → IfErr r Read → IfErr m (Refuses (IsLineTree lang w))
  exchanged (Ok x) m P Q names is ok told refused = ok x is
  exchanged (Err e) (Err f) P Q names is ok told refused = by-error names e f refused (told e f is)
  exchanged (Err e) (Ok x) P Q names is ok told refused = absurd is

  drawn : (r : Result Branch ExpressionError) (limit : ℕ) → limit ≡ depth_in lang.dialect → IfOk r (λ n. IsExpression (name_in lang.kinds) is_gap_space (branch_tree n) w) → IfOk r (λ n. depth (branch_tree n) ≤ limit) → IfOk r (λ n. IsLineTree lang w (branch_tree n))
  drawn (Ok n) limit is found limited = (found, subst (λ l. depth (branch_tree n) ≤ l) is limited)
  drawn (Err e) limit is found limited = tt

-- a value that stands in another result too
kept : {A E F : Type 0} (r : Result A E) (m : Result A F) (P : A → Type 0) (Q : E → F → Type 0) → MatchResult r (λ x. m ≡ Ok x) (λ e. IsErrAnd m (Q e)) → IfOk r P → IfOk m P
kept (Ok x) m P Q is ok = subst (λ v. IfOk v P) (sym is) ok
kept (Err e) (Err f) P Q is ok = tt
kept (Err e) (Ok x) P Q is ok = absurd is

pub returns-clause-ok : goal.returns-clause-ok
returns-clause-ok c =
    let lang = language_of c.args.language.now in
    let w = c.args.expression.text.now in
    let r = c.read_line_tree_with.result in
    let ok = drawn lang w r c.depth_limit-limit.result c.depth_limit-limit.ensures.limit c.read_line_tree_with.ensures.found c.read_line_tree_with.ensures.limited in
    kept r c.map_err.result (λ n. IsLineTree lang w (branch_tree n)) _ c.map_err.ensures.cases ok

pub returns-clause-bad : goal.returns-clause-bad
returns-clause-bad c =
    let lang = language_of c.args.language.now in
    let w = c.args.expression.text.now in
    let refused = subst (λ n. IfErr c.read_line_tree_with.result (ReadRefusesFor n lang.kinds is_gap_space w)) c.depth_limit-limit.ensures.limit c.read_line_tree_with.ensures.refused in
    exchanged lang w c.read_line_tree_with.result c.map_err.result _ _ c.are_names.ensures c.map_err.ensures.cases (λ x is. subst (λ v. IfErr v (Refuses (IsLineTree lang w))) (sym is) tt) (λ e f told. search rules) refused
