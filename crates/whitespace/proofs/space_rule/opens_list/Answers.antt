use Rattle.std.specs.Prelude.{◌≡◌, ℕ, Bool}
use Rattle.std.proofs.Common.{subst, sym, ◌∙◌}
use Rattle.std.proofs.lemmas.Bool.{eqb-true}
use Rattle.cst_core.specs.Kinds.{L_CURLY, STMT_LIST}
use Rattle.whitespace.specs.Spacing.{Neighbor, is_statement, opens_list}
use Rattle.whitespace.proofs.space_rule.opens_list.Goals as goal

-- of a statement that comes first in the braces of a statement list
in_braces : (parent anchor : ℕ) (p a : ℕ) (first : Neighbor) (r : Bool) → parent ≡ STMT_LIST.0 → anchor ≡ L_CURLY.0 → r ≡ is_statement first → r ≡ opens_list (record { kind = parent; level = p }) (record { kind = anchor; level = a }) first
in_braces parent anchor p a first r is_list is_brace is =
    subst (λ k. r ≡ opens_list (record { kind = k; level = p }) (record { kind = anchor; level = a }) first) (sym is_list)
    (subst (λ k. r ≡ opens_list (record { kind = STMT_LIST.0; level = p }) (record { kind = k; level = a }) first) (sym is_brace) is)

pub returns-then-eq-4 : goal.returns-then-eq-4
returns-then-eq-4 c p a f =
    in_braces _ _ p a (record { kind = c.args.first.0; level = f }) _ (eqb-true _ _ (sym c.eq-else-eq-3.ensures ∙ c.if-eq-4.true)) (eqb-true _ _ (sym c.eq.ensures ∙ c.if-eq.true)) (c.is_statement.ensures f)
