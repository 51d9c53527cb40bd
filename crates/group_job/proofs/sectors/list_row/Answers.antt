use Rattle.std.proofs.Common.{◌≡◌, ◌<◌, ◌≤◌, ℕ, ◌+◌, refl, subst, arith}
use Rattle.math_base.proofs.Bools.{not_both_values}
use Rattle.reject_bits.specs.Parts.{Rejects}
use Rattle.group_job.specs.Rows.{ListedBefore}
use Rattle.group_job.proofs.Rows.{list_push, list_row_end, list_row_start, list_skip}
use Rattle.group_job.proofs.sectors.list_row.Goals.{then-not-rejects+in_ok-push, else-not-rejects}
use Rattle.group_job.proofs.sectors.list_row.Goals as goal

pub loop-b-init : goal.loop-b-init
loop-b-init c =
    let next = c.next_set-b.ensures in
    let from = next.range.0 in record {
      above = omega (arith, from);
      within = next.range.1;
      set = next.set;
      list = list_skip c.args.these.now c.args.others.now c.args.a (c.args.a + 1) c.next_set-b.result c.args.listed.now.items from
          (list_row_start c.args.these.now c.args.others.now c.args.a c.args.listed.now.items c.requires.before) (λ d le lt l. next.clear d le lt l.2);
    }

this_one : (b d : ℕ) → b ≤ d → d < b + 1 → b ≡ d
this_one b d le lt = omega arith

pub loop-b-preserved : goal.loop-b-preserved
loop-b-preserved c =
    let these = c.args.these.now in
    let others = c.args.others.now in
    let a = c.args.a in
    let b = c.loop-b.b in
    let before = c.loop-b.invariant in
    let lt : b < these.n = omega arith in
    let next = c.next_set-b-in-loop-b.ensures in
    let from = next.range.0 in
    let one : ListedBefore these others a (b + 1) c.if-not-rejects.listed.items = elim c.if-not-rejects.branch [
      | then-not-rejects+in_ok-push w ↦ rw (w.listed-is, w.in_ok-push.ensures.items) (list_push these others a b c.loop-b.listed.items before.list
          (before.above, lt, before.set lt, λ r. not_both_values c.rejects.result (c.rejects.ensures.1 r) w.if-not-rejects.true))
      | else-not-rejects w ↦ rw w.listed-is (list_skip these others a b (b + 1) c.loop-b.listed.items (omega arith) before.list
          (λ d le less l. l.3 (subst (λ (u : ℕ). Rejects others a u) (this_one b d le less) (c.rejects.ensures.0 w.if-not-rejects.false))))
    ] in record {
      above = let h = before.above in omega (arith, from, h);
      within = next.range.1;
      set = next.set;
      list = list_skip these others a (b + 1) c.next_set-b-in-loop-b.result c.if-not-rejects.listed.items from one (λ d le less l. next.clear d le less l.2);
    }

pub returns : goal.returns
returns c =
    let w = c.loop-b.invariant.within in
    let e : c.loop-b.b ≡ c.args.these.now.n = omega arith in
    list_row_end c.args.these.now c.args.others.now c.args.a c.args.these.now.n c.loop-b.listed.items refl (subst (λ (n : ℕ). ListedBefore c.args.these.now c.args.others.now c.args.a n c.loop-b.listed.items) e c.loop-b.invariant.list)
