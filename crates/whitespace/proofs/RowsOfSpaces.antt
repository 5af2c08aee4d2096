-- Worked examples of the whitespace between two elements.
use Rattle.std.specs.Prelude.{◌≡◌, List, [], ◌∷◌, codes, map, refl}
use Rattle.std.specs.Str.{chars}
use Rattle.cst_core.specs.SyntaxElement.{syntax_of}
use Rattle.cst_core.specs.SyntaxKind.{SyntaxKind}
use Rattle.cst_core.specs.Kinds.{AMP, ATTR, BLOCK_EXPR, COMMA, EXPR_STMT, FN, GENERIC_ARG_LIST, ITEM_LIST, LIFETIME, LITERAL, L_ANGLE, L_CURLY, NAME, R_ANGLE, SEMICOLON, STMT_LIST, USE, WHITESPACE}
use Rattle.edit_change.specs.PositionForm.{After}
use Rattle.edit_map.proofs.RowTrees.{token, branch}
use Rattle.edit_map.proofs.Rows.{element_of_tree}
use Rattle.whitespace.specs.Spacing.{Space, OneSpace, NoSpace, NewLine, between, space_before}

-- ---- each line of the table, the left one at level 1 and the right one at level 2
abbrev between_kinds : List (SyntaxKind × SyntaxKind) → List Space
between_kinds ks = map (λ k. between (record { kind = k.0.0; level = 1 }) (record { kind = k.1.0; level = 2 })) ks

no_space_between : between_kinds ((WHITESPACE, USE) ∷ (ATTR, WHITESPACE) ∷ (NAME, SEMICOLON) ∷ (NAME, COMMA) ∷ (L_ANGLE, NAME) ∷ (NAME, R_ANGLE) ∷ (AMP, LIFETIME) ∷ (NAME, GENERIC_ARG_LIST) ∷ (ATTR, COMMA) ∷ [])
    ≡ NoSpace ∷ NoSpace ∷ NoSpace ∷ NoSpace ∷ NoSpace ∷ NoSpace ∷ NoSpace ∷ NoSpace ∷ NoSpace ∷ []
no_space_between = refl

new_line_between : between_kinds ((NAME, USE) ∷ (USE, USE) ∷ (ATTR, USE) ∷ (ATTR, NAME) ∷ (ATTR, ATTR) ∷ []) ≡ NewLine 1 ∷ NewLine 2 ∷ NewLine 1 ∷ NewLine 2 ∷ NewLine 2 ∷ []
new_line_between = refl

one_space_between : between_kinds ((NAME, NAME) ∷ (AMP, NAME) ∷ (NAME, LIFETIME) ∷ (USE, NAME) ∷ (NAME, ATTR) ∷ (L_CURLY, FN) ∷ []) ≡ OneSpace ∷ OneSpace ∷ OneSpace ∷ OneSpace ∷ OneSpace ∷ OneSpace ∷ []
one_space_between = refl

-- ---- after an opening brace
abbrev opened : SyntaxKind → SyntaxKind → Space
opened parent first = space_before (After (syntax_of (element_of_tree 1 (branch parent (token L_CURLY (codes "{") ∷ [])) (0 ∷ [])))) (element_of_tree 2 (branch first []) [])

new_line_after_an_opening_brace : ◌≡◌ {A = List Space} (opened ITEM_LIST USE ∷ opened STMT_LIST USE ∷ opened STMT_LIST FN ∷ opened STMT_LIST EXPR_STMT ∷ []) (NewLine 1 ∷ NewLine 1 ∷ NewLine 1 ∷ NewLine 1 ∷ [])
unfolding chars
new_line_after_an_opening_brace = refl

-- an item in the braces of items, a literal, an import in another node's braces
as_between_after_other_braces : ◌≡◌ {A = List Space} (opened ITEM_LIST FN ∷ opened STMT_LIST LITERAL ∷ opened BLOCK_EXPR USE ∷ []) (OneSpace ∷ OneSpace ∷ NewLine 0 ∷ [])
unfolding chars
as_between_after_other_braces = refl
