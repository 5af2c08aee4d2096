use Rattle.std.proofs.Common.{sym, subst}
use Rattle.edit_map.specs.Mapping.{IsFollowed}
use Rattle.edit_map.proofs.Followed.{followed-is_followed, followed_unique}
use Rattle.edit_map.proofs.laws.following_ends.Goals as goal

pub returns : goal.returns
returns c m e f rising = (followed_unique m rising e f, λ same. subst (IsFollowed m e) (sym same) (followed-is_followed m rising e))
