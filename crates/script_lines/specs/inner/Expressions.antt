-- Why a line's expression is not read.
--     IsBad, IsMemory   what is read is bad; memory ran out
--     IsOfExpression    what an error of an expression makes of its line
use Rattle.tree_text.specs.declared.ExpressionError.{ExpressionError}
use Rattle.tree_text.specs.declared.ExpressionError.TheVariants as Expressions
use Rattle.script_lines.specs.declared.error.LineError.{LineError}
use Rattle.script_lines.specs.declared.error.LineError.TheVariants.{Bad, Memory}

abbrev pub IsBad : LineError → Type 0
IsBad (Bad fault) = Unit {0}
IsBad Memory = ⊥

abbrev pub IsMemory : LineError → Type 0
IsMemory (Bad fault) = ⊥
IsMemory Memory = Unit {0}

abbrev pub IsOfExpression : ExpressionError → LineError → Type 0
IsOfExpression (Expressions.Malformed at expected) e = IsBad e
IsOfExpression (Expressions.UnknownKind at) e = IsBad e
IsOfExpression (Expressions.TooDeep at) e = IsBad e
IsOfExpression (Expressions.Tree error) e = IsMemory e
IsOfExpression Expressions.Memory e = IsMemory e
