use Rattle.std.proofs.Common.{◌∙◌, List, arith, length, sym, subst}
use Rattle.map_faults.specs.declared.clashes.LinePair.{LinePair}
use Rattle.doomsight_c.specs.Audited.{AreClashing}
use Rattle.doomsight_c.proofs.Auditing.{audit_made, kept_clash, same_counts, told_of}
use Rattle.doomsight_c.proofs.audit.audit_of.Goals as goal

pub tell_all-requires : goal.tell_all-requires
tell_all-requires c =
    subst (λ (ps : List LinePair). AreClashing c.args.plan.now ps) (sym c.as_slice.ensures) (kept_clash c.args.plan.now c.in_ok-clashes.clashes.first c.in_ok-clashes.clashes.count c.in_ok-clashes.ensures.clashes)

pub returns : goal.returns
returns c =
    let p = c.args.plan.now in let found = c.in_ok-clashes.clashes in let ends = c.in_ok-loose.loose.items in let b = c.in_ok-faces.faces in let all = c.in_ok-all.all.items in
    audit_made p found.first found.count c.in_ok-clashes.ensures.clashes c.in_ok-clashes.ensures.none ends c.in_ok-loose.ensures b.sides.items b.tears.items b.gaps.items c.in_ok-faces.ensures all
    (told_of p c.as_slice.result.now found.first c.as_slice-2.result.now ends c.as_slice-3.result.now b.sides.items c.as_slice-4.result.now b.tears.items c.as_slice-5.result.now b.gaps.items all
    c.as_slice.ensures c.as_slice-2.ensures.value c.as_slice-3.ensures.value c.as_slice-4.ensures.value c.as_slice-5.ensures.value c.in_ok-all.ensures)
    c.counts_of-counts.result
    (c.counts_of-counts.ensures ∙ same_counts found.count c.len.result c.len-2.result c.len-3.result c.len-4.result c.len-5.result (length ends) (length b.sides.items) (length b.tears.items) (length b.gaps.items) (length all)
    (let e = c.len.ensures in let ok = c.in_ok-loose.loose.ok in omega arith) (let e = c.len-2.ensures in let ok = b.sides.ok in omega arith) (let e = c.len-3.ensures in let ok = b.tears.ok in omega arith) (let e = c.len-4.ensures in let ok = b.gaps.ok in omega arith) (let e = c.len-5.ensures in let ok = c.in_ok-all.all.ok in omega arith))
