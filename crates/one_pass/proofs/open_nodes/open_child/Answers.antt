use Rattle.std.specs.Prelude.{OnOk}
use Rattle.std.proofs.Common.{◌≡◌, ◌+◌, ℕ, ◌++◌, [], ◌∷◌, map, take, drop, suc, refl, ap, ap₂, sym, subst, ◌∙◌, arith}
use Rattle.std.specs.List.{AllByRecursion}
use Rattle.std.proofs.lemmas.List.{take-append-drop}
use Rattle.edit_change.proofs.AlteredNodes.{if_ok-map}
use Rattle.one_pass.specs.inner.Marked.{marks_of, marks_seen, marks_at, sought_below, InPathOrder, BeforeChild, FromChild}
use Rattle.one_pass.specs.inner.Sweep.{seen_at, From, IsBelow}
use Rattle.one_pass.specs.inner.OpenNodes.{sought_in}
use Rattle.one_pass.proofs.MarksInOrder.{parted-order, parted-below}
use Rattle.one_pass.proofs.NextAim.{no_aim, first_aim, part-rest}
use Rattle.one_pass.proofs.SweepStart.{below-run, cut-behind, deep-path}
use Rattle.one_pass.proofs.open_nodes.open_child.Goals as goal

pub one_deeper-depth-requires : goal.one_deeper-depth-requires
one_deeper-depth-requires c =
    let top = c.args.above.now in
    let inside = c.requires.inside no_aim in
    deep-path top.depth (first_aim top).path.now inside.0 top.slot inside.1

pub open_node-requires : goal.open_node-requires
open_node-requires c =
    let f = c.args.above.now in
    let last : ℕ = c.marks_before-last.result in
    let one : f.slot + 1 ≡ suc f.slot = omega arith in
    let here = subst (λ n. BeforeChild n (marks_seen f.depth (take last f.sought.now))) one c.marks_before-last.ensures.before in
    let behind = subst (λ n. FromChild n (marks_seen f.depth (drop last f.sought.now))) one c.marks_before-last.ensures.behind in
    let deep : c.one_deeper-depth.result ≡ suc f.depth = omega (arith, c.one_deeper-depth.ensures) in
    subst (λ d. InPathOrder (marks_seen d (take last f.sought.now))) (sym deep) (parted-order f.slot f.depth last f.sought.now c.requires.order.ascending c.requires.order.from here behind)

pub returns-clause-entered : goal.returns-clause-entered
returns-clause-entered c =
    let f = c.args.above.now in
    let end : ℕ = c.run_inside-end.result in
    let run = c.run_inside-end.ensures in
    let xs = f.aims.now in
    let rest = part-rest xs end in
    let last : ℕ = c.marks_before-last.result in
    let ms = f.sought.now in
    let one : f.slot + 1 ≡ suc f.slot = omega arith in
    let here = subst (λ n. BeforeChild n (marks_seen f.depth (take last ms))) one c.marks_before-last.ensures.before in
    let behind = subst (λ n. FromChild n (marks_seen f.depth (drop last ms))) one c.marks_before-last.ensures.behind in
    let left_over = part-rest ms last in
    let parts = parted-below f.slot f.depth last ms c.requires.order.ascending c.requires.order.from here behind in
    let deep : c.one_deeper-depth.result ≡ suc f.depth = omega (arith, c.one_deeper-depth.ensures) in
    let seen : marks_seen c.one_deeper-depth.result (take last ms) ≡ sought_below f.slot (sought_in f) = ap (λ d. marks_seen d (take last ms)) deep ∙ parts.inside in
    if_ok-map _ _ c.open_node.result (λ inner h.
    let own : inner.aims.now ≡ take end xs = h.aims in
    record {
      same = record { kind = refl; elements = refl; depth = refl };
      slot = refl;
      passed = refl;
      out = refl;
      parts = sym (take-append-drop end xs) ∙ ap₂ (λ ys zs. ys ++ zs) (sym own) (sym rest);
      inside = subst (λ ys. AllByRecursion (IsBelow f.slot) (seen_at f.depth ys)) (sym own) (below-run f.depth f.slot end xs run.within run.inside);
      behind = subst (λ ys. From (suc f.slot + suc f.slot) (seen_at f.depth ys)) (sym rest) (cut-behind f.depth f.slot end xs run.within c.requires.some c.requires.inside run.inside run.end c.requires.order.rising);
      ascending = subst (λ ys. InPathOrder (marks_seen f.depth ys)) (sym left_over) parts.ascending;
      from = subst (λ ys. FromChild (suc f.slot) (marks_seen f.depth ys)) (sym left_over) behind;
      sought_are = λ i l. ap (λ ys. sought_below i (marks_seen f.depth ys)) left_over ∙ parts.others i l;
      opened = record {
        kind = h.kind;
        elements = h.elements;
        depth = h.depth ∙ c.one_deeper-depth.ensures;
        aims = refl;
        ascending = subst (λ d. InPathOrder (marks_seen d inner.sought.now)) c.one_deeper-depth.ensures h.ascending;
        from = subst (λ d. FromChild 0 (marks_seen d inner.sought.now)) c.one_deeper-depth.ensures h.from;
        sought_are = λ i. ap (λ d. sought_below i (marks_seen d inner.sought.now)) (sym c.one_deeper-depth.ensures) ∙ h.sought_are i ∙ ap (sought_below i) seen;
        out = h.out;
        slot = h.slot;
        passed = h.passed;
        found = h.found ∙ ap (λ ms. marks_of c.args.walk.now.found.items ++ map (λ n. (n, c.open_node.new.walk.path.items)) (marks_at ms [])) seen;
      };
    }) c.open_node.ensures.opened

pub returns-clause-path : goal.returns-clause-path
returns-clause-path c =
    let path = c.args.walk.now.path.items in
    let next = c.len.ensures ∙ c.args.above.now.out.ok.0 in
    subst (λ p. OnOk c.open_node.result (c.open_node.new.walk.path.items ≡ p)) (c.in_ok-push.ensures.items ∙ ap (λ n. path ++ n ∷ []) next) c.open_node.ensures.path

pub run_inside-end-requires : goal.run_inside-end-requires
run_inside-end-requires c = c.requires.within

pub marks_before-last-requires : goal.marks_before-last-requires
marks_before-last-requires c = c.requires.order.ascending

pub returns-clause-count : goal.returns-clause-count
returns-clause-count c = c.open_node.ensures.count
