use Rattle.std.proofs.Common.{length, refl, arith}
use Rattle.std.proofs.lemmas.Grind.{common_steps}
use Rattle.udmf_text.proofs.TextNumbers.Bounds.{some_power, within_step, below_all}
use Rattle.udmf_text.proofs.text_numbers.digits.digits_in.Goals as goal

pub loop-rest-init : goal.loop-rest-init
loop-rest-init c = record { value = refl; digits = refl; short = c.requires.short; within = some_power _ }

pub overflow_mul-value : goal.overflow_mul-value
overflow_mul-value c =
    let i = c.loop-rest.invariant in
    let below = below_all c.args.base c.loop-rest.value c.from-digit.result (length c.loop-rest.rest.now) c.requires.base i.short c.in-len1-up.len_at_least i.within c.if-digit-base.false in
    omega (arith, below)

pub overflow_add-value : goal.overflow_add-value
overflow_add-value c =
    let i = c.loop-rest.invariant in
    let below = below_all c.args.base c.loop-rest.value c.from-digit.result (length c.loop-rest.rest.now) c.requires.base i.short c.in-len1-up.len_at_least i.within c.if-digit-base.false in
    omega (arith, below)

pub loop-rest-preserved : goal.loop-rest-preserved
loop-rest-preserved c =
    let i = c.loop-rest.invariant in
    record {
      value = grind (arith, common_steps);
      digits = grind (arith, common_steps);
      short = grind (arith, common_steps);
      within = within_step c.args.base c.loop-rest.value c.from-digit.result (length c.loop-rest.rest.now) _ c.requires.base i.short c.in-len1-up.len_at_least (grind (arith, common_steps)) i.within c.if-digit-base.false;
    }
