-- Annotations as their numbers, and sources of annotations, each as the number that it gives next.
--     last_annotation, annotation_after  4,294,967,295, the greatest number of an annotation; the number after one, if it is not the last.
--
-- A source of annotations that begins at 4,294,967,294 returns that number and the next, and then none. One that begins
-- at 0 returns 1 first.
use Rattle.std.specs.Prelude.{ℕ, suc, cond, nat_eq, Option, Some, None}

abbrev pub last_annotation : ℕ
last_annotation = 4294967295

abbrev pub annotation_after : ℕ → Option ℕ
annotation_after n = cond (nat_eq n last_annotation) None (Some (suc n))
