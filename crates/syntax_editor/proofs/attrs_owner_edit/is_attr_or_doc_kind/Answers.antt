use Rattle.std.proofs.Common.{rules}
use Rattle.syntax_editor.proofs.attrs_owner_edit.is_attr_or_doc_kind.Goals as goal

pub returns-in_default : goal.returns-in_default
returns-in_default c = search rules
