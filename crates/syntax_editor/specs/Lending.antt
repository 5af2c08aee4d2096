-- What an editor and its factory become, once what they lend is given back.
--     LendsFactory, LendsMappings   An editor that lends its factory has afterwards what the borrower left there; the same of a factory
--                                   that lends its mapping, if it keeps one.
use Rattle.std.specs.Prelude.{Option, Some, None}
use Rattle.std.specs.Borrow.{Lends, LendsIf, MutBor, Fml}
use Rattle.edit_map.specs.Mapping.{Mapping}
use Rattle.edit_map.specs.contracts.mapping.SyntaxMapping as mapping
use Rattle.syntax_editor.specs.contracts.factory.SyntaxFactory as factory
use Rattle.syntax_editor.specs.contracts.editor.SyntaxEditor as editor
use Rattle.syntax_editor.specs.Editor.{Editor}

abbrev pub LendsMappings : MutBor (Option Mapping) → Option (MutBor Mapping) → Fml
LendsMappings f r = LendsIf factory.the_row mapping.the_row f r (λ m. Some m) None

abbrev pub LendsFactory : MutBor Editor → MutBor (Option Mapping) → Fml
LendsFactory e r = Lends editor.the_row factory.the_row e r (λ f. record e.now { factory = f })
