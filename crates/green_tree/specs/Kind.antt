-- The kinds and their names.
--     named_kinds                   Each kind that has a name, as its constant, with that name.
--     kind_names, name_of           The names in the order of the kinds' numbers; the name of a number, if it has one.
--     kind_text                     What `{:?}` writes of a kind: its name, or `SyntaxKind(65)` if it has none.
--
-- Kind 28 is `SyntaxKind::ARG_LIST` and has that name. Kind 65 has no name, and nodes and tokens may have it. Two laws
-- of `cst_core::laws` say that the names in code are `kind_names` (`names_stand_at_their_numbers`), and that each
-- constant has the number of its name (`constants_have_their_names`).
use Rattle.std.specs.Prelude.{ℕ, List, [], ◌∷◌, ◌++◌, Option, map, slice_get, unwrap_or, codes, decimal}
use Rattle.green_tree.specs.declared.kind.SyntaxKind.{SyntaxKind}
use Rattle.green_tree.specs.declared.kind.TheConstants.SyntaxKind as Kinds

-- each kind that has a name, beside that name
abbrev pub named_kinds : List (SyntaxKind × List ℕ)
named_kinds =
    (Kinds.WHITESPACE, codes "WHITESPACE") ∷
    (Kinds.COMMENT, codes "COMMENT") ∷
    (Kinds.DOC_COMMENT, codes "DOC_COMMENT") ∷
    (Kinds.SEMICOLON, codes "SEMICOLON") ∷
    (Kinds.COMMA, codes "COMMA") ∷
    (Kinds.L_PAREN, codes "L_PAREN") ∷
    (Kinds.R_PAREN, codes "R_PAREN") ∷
    (Kinds.L_CURLY, codes "L_CURLY") ∷
    (Kinds.R_CURLY, codes "R_CURLY") ∷
    (Kinds.L_BRACK, codes "L_BRACK") ∷
    (Kinds.R_BRACK, codes "R_BRACK") ∷
    (Kinds.L_ANGLE, codes "L_ANGLE") ∷
    (Kinds.R_ANGLE, codes "R_ANGLE") ∷
    (Kinds.AMP, codes "AMP") ∷
    (Kinds.POUND, codes "POUND") ∷
    (Kinds.UNDERSCORE, codes "UNDERSCORE") ∷
    (Kinds.EQ, codes "EQ") ∷
    (Kinds.FAT_ARROW, codes "FAT_ARROW") ∷
    (Kinds.THIN_ARROW, codes "THIN_ARROW") ∷
    (Kinds.PLUS, codes "PLUS") ∷
    (Kinds.IDENT, codes "IDENT") ∷
    (Kinds.INT_NUMBER, codes "INT_NUMBER") ∷
    (Kinds.LIFETIME_IDENT, codes "LIFETIME_IDENT") ∷
    (Kinds.TRUE_KW, codes "TRUE_KW") ∷
    (Kinds.LET_KW, codes "LET_KW") ∷
    (Kinds.FN_KW, codes "FN_KW") ∷
    (Kinds.USE_KW, codes "USE_KW") ∷
    (Kinds.SOURCE_FILE, codes "SOURCE_FILE") ∷
    (Kinds.ARG_LIST, codes "ARG_LIST") ∷
    (Kinds.LITERAL, codes "LITERAL") ∷
    (Kinds.TUPLE_EXPR, codes "TUPLE_EXPR") ∷
    (Kinds.BIN_EXPR, codes "BIN_EXPR") ∷
    (Kinds.BLOCK_EXPR, codes "BLOCK_EXPR") ∷
    (Kinds.STMT_LIST, codes "STMT_LIST") ∷
    (Kinds.ITEM_LIST, codes "ITEM_LIST") ∷
    (Kinds.LET_STMT, codes "LET_STMT") ∷
    (Kinds.EXPR_STMT, codes "EXPR_STMT") ∷
    (Kinds.IDENT_PAT, codes "IDENT_PAT") ∷
    (Kinds.WILDCARD_PAT, codes "WILDCARD_PAT") ∷
    (Kinds.NAME, codes "NAME") ∷
    (Kinds.NAME_REF, codes "NAME_REF") ∷
    (Kinds.MATCH_ARM, codes "MATCH_ARM") ∷
    (Kinds.MATCH_ARM_LIST, codes "MATCH_ARM_LIST") ∷
    (Kinds.PARAM_LIST, codes "PARAM_LIST") ∷
    (Kinds.RET_TYPE, codes "RET_TYPE") ∷
    (Kinds.TUPLE_TYPE, codes "TUPLE_TYPE") ∷
    (Kinds.ATTR, codes "ATTR") ∷
    (Kinds.LIFETIME, codes "LIFETIME") ∷
    (Kinds.GENERIC_ARG_LIST, codes "GENERIC_ARG_LIST") ∷
    (Kinds.USE, codes "USE") ∷
    (Kinds.CONST, codes "CONST") ∷
    (Kinds.ENUM, codes "ENUM") ∷
    (Kinds.EXTERN_BLOCK, codes "EXTERN_BLOCK") ∷
    (Kinds.EXTERN_CRATE, codes "EXTERN_CRATE") ∷
    (Kinds.FN, codes "FN") ∷
    (Kinds.IMPL, codes "IMPL") ∷
    (Kinds.MACRO_CALL, codes "MACRO_CALL") ∷
    (Kinds.MACRO_DEF, codes "MACRO_DEF") ∷
    (Kinds.MACRO_RULES, codes "MACRO_RULES") ∷
    (Kinds.MODULE, codes "MODULE") ∷
    (Kinds.STATIC, codes "STATIC") ∷
    (Kinds.STRUCT, codes "STRUCT") ∷
    (Kinds.TRAIT, codes "TRAIT") ∷
    (Kinds.TYPE_ALIAS, codes "TYPE_ALIAS") ∷
    (Kinds.UNION, codes "UNION") ∷
    []

-- the names, in the order of the kinds' numbers
abbrev pub kind_names : List (List ℕ)
kind_names = map (λ (kind, name). name) named_kinds

-- the name at a number, if there is one
abbrev pub name_of : ℕ → Option (List ℕ)
name_of k = slice_get kind_names k

-- the name, or how a kind without one is shown
abbrev pub kind_text : ℕ → List ℕ
kind_text k = unwrap_or (name_of k) (codes "SyntaxKind(" ++ decimal k ++ codes ")")
