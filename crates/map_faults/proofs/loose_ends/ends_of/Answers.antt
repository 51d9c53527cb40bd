use Rattle.std.proofs.Common.{◌≡◌, ◌∙◌, length, sym, subst}
use Rattle.map_faults.specs.LooseEnds.{AreEndsBelow}
use Rattle.map_faults.proofs.Loose.{record_noted, put_back}
use Rattle.map_faults.proofs.loose_ends.ends_of.Goals as goal

pub loop-number-preserved : goal.loop-number-preserved
loop-number-preserved c = rw (put_back c.note_record.new.ends _ c.loop-number.ends.len (let h : length c.note_record.new.ends ≡ length c.as_mut_slice.result.now = c.note_record.auto.ends in h ∙ c.as_mut_slice.ensures.len))
    (record_noted c.args.plan.now c.loop-number.number c.as_mut_slice.result.now c.note_record.new.ends (subst (AreEndsBelow c.args.plan.now c.loop-number.number) (sym c.as_mut_slice.ensures.value) c.loop-number.invariant) c.note_record.ensures)
