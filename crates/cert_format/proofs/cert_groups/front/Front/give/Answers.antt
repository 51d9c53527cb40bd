use Rattle.std.proofs.Common.{◌∙◌, sym, ap, take, ◌++◌, List, ℕ}
use Rattle.std.specs.List.{flat_map}
use Rattle.block_evidence.specs.SightTree.Spelling.{u16}
use Rattle.cert_format.specs.CertGroups.Grammar.{group_bytes}
use Rattle.cert_format.specs.CertGroups.Pieces.{FrontParts, front_left}
use Rattle.cert_format.proofs.CertGroups.PieceLaws.{gave}
use Rattle.cert_format.proofs.cert_groups.front.Front.give.Goals as goal

pub returns-clause-given : goal.returns-clause-given
returns-clause-given c =
    let f = c.self.inside in
    let n = c.copy_front-count.result in
    ap (λ (p : FrontParts). take c.args.at c.args.buf.now ++ front_left p) (sym c.self.view_is)
    ∙ gave c.args.at n c.args.buf.now c.copy_front-count.new.buf f.begun c.skip.new.self (flat_map u16 f.sectors.now) (flat_map group_bytes f.groups.now)
    (c.copy_front-count.ensures.front ∙ ap (λ (t : List ℕ). take c.args.at c.args.buf.now ++ take n t) c.as_slice-begun.ensures) c.skip.ensures
