use Rattle.std.proofs.Common.{◌≡◌, ◌<◌, ◌∙◌, ℕ, ◌+◌, List, length, slice_get, Some, Contains, sym, ap, subst, arith}
use Rattle.std.proofs.lemmas.Option.{slice_get_read}
use Rattle.group_job.proofs.Marks.{sets_next, sets_none, sets_past}
use Rattle.group_job.proofs.Steps.{ClearStep, clear_row_set, clear_step}
use Rattle.group_job.proofs.sectors.set_clear_row.Goals as goal

pub loop-k-init : goal.loop-k-init
loop-k-init c =
    let next = c.next_clear-k.ensures in
    let step = ClearStep c.args.groups.now c.args.table.now c.args.f in record {
      within = next.range.1;
      clear = next.clear;
      sets = sets_past step 0 c.next_clear-k.result c.args.marks.now c.args.marks.now next.range.0 (sets_none step c.args.marks.now) (λ i le lt a b s. s.2 (next.set i le lt));
    }

pub set_block-requires-clause-from : goal.set_block-requires-clause-from
set_block-requires-clause-from c = λ s h.
    let at = slice_get_read c.args.groups.now c.args.table.now.n c.args.f c.index-groups-f.result c.requires.groups c.requires.row c.index-groups-f.is in
    subst (λ (n : ℕ). s < n) (sym c.loop-k.invariant.sets.sectors) (c.requires.below c.args.f s (c.index-groups-f.result, at, subst (λ (xs : List ℕ). Contains xs s) c.as_slice.ensures h))

pub set_block-requires-clause-to : goal.set_block-requires-clause-to
set_block-requires-clause-to c = λ s h.
    let lt : c.loop-k.k < c.args.table.now.n = omega arith in
    let at = slice_get_read c.args.groups.now c.args.table.now.n c.loop-k.k c.index-groups-k.result c.requires.groups lt c.index-groups-k.is in
    subst (λ (n : ℕ). s < n) (sym c.loop-k.invariant.sets.sectors) (c.requires.below c.loop-k.k s (c.index-groups-k.result, at, subst (λ (xs : List ℕ). Contains xs s) c.as_slice-in-loop-k.ensures h))

pub loop-k-preserved : goal.loop-k-preserved
loop-k-preserved c =
    let lt : c.loop-k.k < c.args.table.now.n = omega arith in
    let at_f : slice_get c.args.groups.now c.args.f ≡ Some c.as_slice.result.now = slice_get_read c.args.groups.now c.args.table.now.n c.args.f c.index-groups-f.result c.requires.groups c.requires.row c.index-groups-f.is ∙ ap (λ (xs : List ℕ). Some xs) (sym c.as_slice.ensures) in
    let at_k : slice_get c.args.groups.now c.loop-k.k ≡ Some c.as_slice-in-loop-k.result.now = slice_get_read c.args.groups.now c.args.table.now.n c.loop-k.k c.index-groups-k.result c.requires.groups lt c.index-groups-k.is ∙ ap (λ (xs : List ℕ). Some xs) (sym c.as_slice-in-loop-k.ensures) in
    let next = c.next_clear-k-in-loop-k.ensures in
    let step = ClearStep c.args.groups.now c.args.table.now c.args.f in record {
      within = next.range.1;
      clear = next.clear;
      sets = sets_past step (c.loop-k.k + 1) c.next_clear-k-in-loop-k.result c.args.marks.now c.set_block.new.table next.range.0
          (sets_next step c.loop-k.k c.args.marks.now c.loop-k.marks c.set_block.new.table c.loop-k.invariant.sets
          (clear_step c.args.groups.now c.args.table.now c.args.f c.loop-k.k c.as_slice.result.now c.as_slice-in-loop-k.result.now c.loop-k.marks c.set_block.new.table at_f at_k (c.loop-k.invariant.clear lt) c.set_block.ensures))
          (λ i le less a b s. s.2 (next.set i le less));
    }

pub returns : goal.returns
returns c =
    let q = c.requires.groups in
    let w = c.loop-k.invariant.within in
    let e : c.loop-k.k ≡ length c.args.groups.now = omega arith in
    clear_row_set c.args.groups.now c.args.table.now c.args.f c.loop-k.k c.args.marks.now c.loop-k.marks e c.loop-k.invariant.sets
