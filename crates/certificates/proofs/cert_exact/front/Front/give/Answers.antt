use Rattle.std.proofs.Common.{◌∙◌, sym, ap, take, ◌++◌, List, ℕ}
use Rattle.std.specs.List.{flat_map}
use Rattle.block_evidence.specs.SightTree.Spelling.{u16}
use Rattle.cert_format.specs.Grammar.{triangle_bytes, ray_bytes}
use Rattle.cert_format.proofs.PieceLaws.{gave_first}
use Rattle.cert_format.specs.CertGroups.Grammar.{group_bytes}
use Rattle.certificates.specs.CertExact.Grammar.{length_bytes}
use Rattle.certificates.specs.CertExact.Pieces.{FrontParts, front_left}
use Rattle.certificates.proofs.cert_exact.front.Front.give.Goals as goal

pub returns-clause-given : goal.returns-clause-given
returns-clause-given c =
    let f = c.self.inside in
    let n = c.copy_front-count.result in
    ap (λ (p : FrontParts). take c.args.at c.args.buf.now ++ front_left p) (sym c.self.view_is)
    ∙ gave_first c.args.at n c.args.buf.now c.copy_front-count.new.buf f.begun c.skip.new.self
    (flat_map u16 f.sectors.now) (flat_map group_bytes f.groups.now) (flat_map triangle_bytes f.triangles.now) (flat_map ray_bytes f.rays.now) (flat_map length_bytes f.lengths.now)
    (c.copy_front-count.ensures.front ∙ ap (λ (t : List ℕ). take c.args.at c.args.buf.now ++ take n t) c.as_slice-begun.ensures) c.skip.ensures
