use Rattle.std.proofs.Common.{rules, ◌≡◌, ℕ, ◌+◌, ◌*◌, List, [], ◌∷◌, ◌++◌, take, get_or, ap, ◌∙◌}
use Rattle.block_evidence.proofs.SightTree.ReadBack.{put_together}
use Rattle.block_evidence.proofs.sight_tree.nodes.put_few.Goals as goal

pub returns-clause-ok : goal.returns-clause-ok
returns-clause-ok c =
    let k = c.args.evidence.count in
    let a = c.to_le_bytes.result in
    let b = c.to_le_bytes-2.result in
    let d = c.to_le_bytes-3.result in
    let e = c.to_le_bytes-4.result in
    let added : c.extend_from_slice.new.self.items ≡ c.args.bytes.now.items ++ take (1 + 2 * k) (k ∷ get_or a 0 0 ∷ get_or a 1 0 ∷ get_or b 0 0 ∷ get_or b 1 0 ∷ get_or d 0 0 ∷ get_or d 1 0 ∷ get_or e 0 0 ∷ get_or e 1 0 ∷ []) =
    search rules in
    added ∙ ap (λ (t : List ℕ). c.args.bytes.now.items ++ t) (put_together k c.args.evidence.ends a b d e c.requires (search rules) c.to_le_bytes.ensures c.to_le_bytes-2.ensures c.to_le_bytes-3.ensures c.to_le_bytes-4.ensures)
