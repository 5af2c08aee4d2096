use Rattle.std.proofs.Common.{◌≢◌, ◌<◌, ◌++◌, append-nil, sym, ap, ◌∙◌, arith, string_bytes}
use Rattle.tree_text.proofs.EncodedBytes.{escaped-ascii, escaped-itself, escaped-more}
use Rattle.tree_text.proofs.escape.push_escaped.Goals as goal

-- these characters are ASCII
below-9 : 9 < 128
below-9 = omega arith

below-10 : 10 < 128
below-10 = omega arith

below-13 : 13 < 128
below-13 = omega arith

below-34 : 34 < 128
below-34 = omega arith

below-92 : 92 < 128
below-92 = omega arith

pub loop-c-init : goal.loop-c-init
loop-c-init c = sym (append-nil (string_bytes c.args.out.now))

pub loop-c-preserved-in-Continue-1 : goal.loop-c-preserved-in-Continue-1
loop-c-preserved-in-Continue-1 c =
    escaped-more c.loop-c.yielded c.in-Some.c (string_bytes c.loop-c.out) _ _ c.loop-c.invariant (c.in_ok-push_str-in-10.ensures.bytes ∙ ap (λ l. string_bytes c.loop-c.out ++ l) (escaped-ascii c.in-Some.c 10 c.in-10.is below-10))

pub loop-c-preserved-in-Continue-branch-2 : goal.loop-c-preserved-in-Continue-branch-2
loop-c-preserved-in-Continue-branch-2 c =
    escaped-more c.loop-c.yielded c.in-Some.c (string_bytes c.loop-c.out) _ _ c.loop-c.invariant (c.in_ok-push_str-in-13.ensures.bytes ∙ ap (λ l. string_bytes c.loop-c.out ++ l) (escaped-ascii c.in-Some.c 13 c.in-13.is below-13))

pub loop-c-preserved-in-Continue-branch-3 : goal.loop-c-preserved-in-Continue-branch-3
loop-c-preserved-in-Continue-branch-3 c =
    escaped-more c.loop-c.yielded c.in-Some.c (string_bytes c.loop-c.out) _ _ c.loop-c.invariant (c.in_ok-push_str-in-9.ensures.bytes ∙ ap (λ l. string_bytes c.loop-c.out ++ l) (escaped-ascii c.in-Some.c 9 c.in-9.is below-9))

pub loop-c-preserved-in-Continue-branch-4 : goal.loop-c-preserved-in-Continue-branch-4
loop-c-preserved-in-Continue-branch-4 c =
    escaped-more c.loop-c.yielded c.in-Some.c (string_bytes c.loop-c.out) _ _ c.loop-c.invariant (c.in_ok-push_str-in-34.ensures.bytes ∙ ap (λ l. string_bytes c.loop-c.out ++ l) (escaped-ascii c.in-Some.c 34 c.in-34.is below-34))

pub loop-c-preserved-in-Continue-branch-5 : goal.loop-c-preserved-in-Continue-branch-5
loop-c-preserved-in-Continue-branch-5 c =
    escaped-more c.loop-c.yielded c.in-Some.c (string_bytes c.loop-c.out) _ _ c.loop-c.invariant (c.in_ok-push_str-in-92.ensures.bytes ∙ ap (λ l. string_bytes c.loop-c.out ++ l) (escaped-ascii c.in-Some.c 92 c.in-92.is below-92))

pub loop-c-preserved : goal.loop-c-preserved
loop-c-preserved c =
    let n : c.in-Some.c ≢ 10 = omega arith in
    let d : c.in-Some.c ≢ 13 = omega arith in
    let r : c.in-Some.c ≢ 9 = omega arith in
    let q : c.in-Some.c ≢ 34 = omega arith in
    let s : c.in-Some.c ≢ 92 = omega arith in
    escaped-more c.loop-c.yielded c.in-Some.c (string_bytes c.loop-c.out) _ _ c.loop-c.invariant (c.in_ok-push-in_default.ensures.bytes ∙ ap (λ l. string_bytes c.loop-c.out ++ l) (sym (escaped-itself c.in-Some.c n d r q s)))
