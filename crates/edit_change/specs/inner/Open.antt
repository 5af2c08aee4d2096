-- What is open in a sweep over aims in document order: replacements that lie one in another, the innermost last.
--     replaced                      the paths that an aim replaces
--     surrounds                     one of these paths is replaced
--     Closes                        from the end on, what does not surround is taken off
--     inside                        the fate of what lies in the region of this change and in no deeper one, where the change has this fate
--     inside_last                   the same of an aim's change, if there is one
use Rattle.std.specs.Prelude.{◌≡◌, ℕ, Bool, true, false, cond, List, [], ◌++◌, slice_get, Option, Some, None}
use Rattle.std.specs.List.{AllByRecursion, list_any}
use Rattle.std.specs.Option.{option_map_or}
use Rattle.cst_core.specs.Path.{Path, has_path, last_item}
use Rattle.edit_change.specs.Aim.{Aim, FirstIn, AfterElement, Over}
use Rattle.edit_change.specs.Nesting.{is_keeping}
use Rattle.edit_change.specs.Rewriting.{NumberedAim}
use Rattle.edit_change.specs.inner.Fate.{is_dropped_in}
use Rattle.edit_change.specs.declared.change.Change.{Change}
use Rattle.edit_change.specs.declared.fate.Fate.{Fate}
use Rattle.edit_change.specs.declared.fate.Fate.TheVariants.{Independent, Dropped, Owned}

abbrev pub replaced : Aim → List Path
replaced (FirstIn p) = []
replaced (AfterElement p) = []
replaced (Over ps) = ps

abbrev pub surrounds : List Path → Aim → Bool
surrounds ps a = list_any (has_path ps) (replaced a)

pub record Closes (ps : List Path) (before after : List NumberedAim) : Type 0 where
  pub gone : List NumberedAim
  pub is : before ≡ after ++ gone
  pub past : AllByRecursion (λ g. surrounds ps g.1 ≡ false) gone
  pub last : (o : NumberedAim) → last_item after ≡ Some o → surrounds ps o.1 ≡ true

abbrev pub inside : Change → ℕ → Fate → Fate
inside c n f = cond (is_keeping c) (cond (is_dropped_in f) Dropped (Owned n)) Dropped

abbrev pub inside_last : List Change → List Fate → Option NumberedAim → Fate
inside_last cs fates None = Independent
inside_last cs fates (Some a) = option_map_or (λ c. option_map_or (inside c a.0) (slice_get fates a.0) Independent) (slice_get cs a.0) Independent
