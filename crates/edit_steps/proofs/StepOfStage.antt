-- A step of a live aim, of a stage where nothing is done, and what a step builds.
--     made-live                      what a live aim makes
--     none_done                      where nothing is done, that is told
--     builds-live, builds-dead       a step of a live aim builds the nodes on the way, and one of a dead aim none
use Rattle.std.specs.Prelude.{◌≡◌, ℕ, ◌+◌, true, false, cond, List, [], ◌∷◌, ◌++◌, length, sum_by, refl}
use Rattle.std.proofs.Common.{ap, ap₂, sym, subst, ◌∙◌, arith}
use Rattle.green_tree.specs.Path.{Path}
use Rattle.green_tree.specs.Tree.{SyntaxTree}
use Rattle.edit_change.specs.Aim.{Aim, parents}
use Rattle.edit_change.specs.Rewriting.{NumberedAim}
use Rattle.edit_steps.specs.inner.Stage.{IsNext}
use Rattle.edit_steps.specs.StepCount.{is_live, step_builds}
use Rattle.edit_steps.specs.declared.stage.among.Among.{Among}
use Rattle.edit_steps.specs.declared.stage.among.Among.TheVariants.{Gap, Slots}
use Rattle.edit_steps.specs.inner.Widths.{Held, nothing_put}
use Rattle.edit_steps.specs.inner.Counts.{IsCounted}
use Rattle.edit_steps.proofs.Aims.{IsLive}
use Rattle.edit_steps.proofs.Stepping.{AllCounted, StepMade, insert-made, replace-made}

pub made-live : (t : SyntaxTree) (given : ℕ → List SyntaxTree) (xs : List NumberedAim) (c : NumberedAim) (ys : List NumberedAim) (held : Path → Held) (p : Path) (a : Among) → AllCounted t given (xs ++ ys) held → IsLive t c.1 p a → IsNext xs c ys → StepMade t given xs c ys held p a
made-live t given xs c ys held p (Gap g) counted h next =
    insert-made t given xs c ys held counted p h.kind h.children h.there next h.parent g h.reaches.1 h.reaches.0
made-live t given xs c ys held p (Slots i n) counted h next =
    let r = h.reaches in
    subst (λ m. StepMade t given xs c ys held p (Slots i m)) (sym r.so_many) (replace-made t given xs c ys held counted p h.kind h.children h.there next h.parent i r.more r.wanted r.within r.most r.all r.over)

-- ---- nothing done
pub none_done : (given : ℕ → List SyntaxTree) (p : Path) (count : ℕ) → IsCounted given [] p count nothing_put
none_done given p count = record { widths = λ i l. refl; last = refl; gaps = λ i l. refl }

-- ---- how many nodes
pub builds-live : (t : SyntaxTree) (a : Aim) (p : Path) → is_live t a ≡ true → parents a ≡ p ∷ [] → step_builds t a ≡ length p + 1
builds-live t a p live parent =
    let n : 0 + (length p + 1) ≡ length p + 1 = omega arith in
    ap₂ (λ b ps. cond b (sum_by (λ q. length q + 1) ps) 0) live parent ∙ n

pub builds-dead : (t : SyntaxTree) (a : Aim) → is_live t a ≡ false → step_builds t a ≡ 0
builds-dead t a dead = ap (λ b. cond b (sum_by (λ q. length q + 1) (parents a)) 0) dead
