use Rattle.std.proofs.Common.{arith, ◌≡◌, ◌-◌, length, refl, sym, ap, ◌∙◌}
use Rattle.std.proofs.lemmas.Grind.{common_steps}
use Rattle.std.proofs.lemmas.Option.{slice_get_read, same_Some}
use Rattle.stab_hull.specs.declared.chain.Kept.{Kept}
use Rattle.stab_hull.proofs.Chains.{same_ends, steps_longer}
use Rattle.stab_hull.proofs.chain.mend.Goals as goal

pub returns-then-is_between-clause-steps : goal.returns-then-is_between-clause-steps
returns-then-is_between-clause-steps c =
    let ks = c.args.kept.now.items in
    let many : c.len-last.result ≡ length ks = (let e = c.len-last.ensures in grind (arith, common_steps)) in
    let two = c.requires.many in
    let low = c.if-step-under.true in
    let step = c.index.result.now.step in
    let stepped = slice_get_read ks c.len-last.result (c.len-last.result - 1 - 1) c.index.result.now many (omega (arith, many, two)) c.index.ensures in
    let last = slice_get_read ks c.len-last.result (c.len-last.result - 1) c.index-then-step-under.result.now many (omega (arith, many, two)) c.index-then-step-under.ensures in
    let before = slice_get_read ks c.len-last.result (c.len-last.result - 1 - 1 - step) c.index-then-step-under-2.result.now many (omega (arith, many, two)) c.index-then-step-under-2.ensures in
    let under = slice_get_read ks c.len-last.result (c.len-last.result - 1 - 1) c.index-then-step-under-3.result.now many (omega (arith, many, two)) c.index-then-step-under-3.ensures in
    let written = slice_get_read ks c.len-last.result (c.len-last.result - 1) c.index_mut.result.now many (omega (arith, many, two)) c.index_mut.ensures.value in
    steps_longer ks (c.len-last.result - 1 - 1 - step) (c.len-last.result - 1 - 1) (c.len-last.result - 1) step c.index-then-step-under-2.result.now c.index-then-step-under-3.result.now c.index-then-step-under.result.now _ c.requires.steps
    (omega (arith, many, two)) (omega (arith, many, two)) (omega (arith, many, two, low)) before under last
    (ap (λ (k : Kept). k.step) (same_Some c.index-then-step-under-3.result.now c.index.result.now (sym under ∙ stepped)))
    (c.if-is_between.ensures refl)
    (ap (λ (k : Kept). k.end) (same_Some c.index_mut.result.now c.index-then-step-under.result.now (sym written ∙ last))) refl

pub returns-then-is_between-clause-ends : goal.returns-then-is_between-clause-ends
returns-then-is_between-clause-ends c =
    let ks = c.args.kept.now.items in
    let many : c.len-last.result ≡ length ks = (let e = c.len-last.ensures in grind (arith, common_steps)) in
    let two = c.requires.many in
    same_ends ks (c.len-last.result - 1) c.index_mut.result.now _ (slice_get_read ks c.len-last.result (c.len-last.result - 1) c.index_mut.result.now many (omega (arith, many, two)) c.index_mut.ensures.value) refl
