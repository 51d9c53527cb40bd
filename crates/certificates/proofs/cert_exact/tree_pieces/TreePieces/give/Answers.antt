use Rattle.std.proofs.Common.{◌∙◌, sym, ap, take, ◌++◌}
use Rattle.std.specs.List.{flat_map}
use Rattle.certificates.specs.CertExact.Grammar.{nodes_bytes}
use Rattle.certificates.specs.CertExact.Pieces.{TreesParts, trees_left}
use Rattle.certificates.proofs.CertExact.PieceLaws.{gave}
use Rattle.certificates.proofs.cert_exact.tree_pieces.TreePieces.give.Goals as goal

pub returns-clause-given : goal.returns-clause-given
returns-clause-given c =
    let t = c.self.inside in
    ap (λ (p : TreesParts). take c.args.at c.args.buf.now ++ trees_left p) (sym c.self.view_is)
    ∙ gave c.args.at c.copy_front-count.result c.args.buf.now c.copy_front-count.new.buf t.nodes.now c.split_at.result.1.now (flat_map nodes_bytes t.trees.now) c.copy_front-count.ensures.front c.split_at.ensures.back
