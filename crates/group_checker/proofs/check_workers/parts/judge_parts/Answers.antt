use Rattle.std.proofs.Common.{◌≡◌, ◌∙◌, max, ap, sym, subst, arith}
use Rattle.rayon.specs.Lists.{chunks_of}
use Rattle.group_checker.specs.CheckWorkers.Joined.{TellParts}
use Rattle.group_checker.proofs.CheckWorkers.InParts.{match_then, parts_told}
use Rattle.group_checker.proofs.check_workers.parts.judge_parts.Goals as goal

pub returns : goal.returns
returns g c = λ m ts same are low.
    let h = c.in_ok-collect.ensures in
    let chain = rw (c.map.ensures.base, c.map.ensures.f) at h.1 in
    let size : c.with_min_len.result.base.size ≡ c.part_len.result = ap (λ it. it.size) c.with_min_len.ensures.base ∙ c.par_chunks.ensures.size in
    let slice : c.with_min_len.result.base.slice.now ≡ c.args.trees.now = ap (λ it. it.slice.now) c.with_min_len.ensures.base ∙ c.par_chunks.ensures.slice in
    match_then c.in_ok-collect.field-0 _ _ _ h.2 (λ v k.
    subst (TellParts m ts c.args.terrain.now.edges.now c.args.trees.now) (sym k.2)
    (parts_told m ts c.args.terrain.now.edges.now m.sectors _ (max c.part_len.result 1) c.args.trees.now chain.0 h.0 k.0 (omega arith) (chain.1 ∙ (λ i. chunks_of (max (size i) 1) (slice i))) chain.2 k.1 low
    (λ z w found few. found m ts same are few)))
