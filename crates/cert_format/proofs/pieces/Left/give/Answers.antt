use Rattle.std.proofs.Common.{◌≡◌, [], ◌∙◌, sym, ap, take, ◌++◌, List, ℕ}
use Rattle.std.specs.List.{flat_map}
use Rattle.std.proofs.lemmas.Bool.{eqb-true}
use Rattle.std.proofs.lemmas.List.{nil_from_length}
use Rattle.cert_format.specs.Grammar.{triangle_bytes, ray_bytes, pair_bytes, tree_bytes}
use Rattle.cert_format.specs.Pieces.{LeftParts, left_bytes}
use Rattle.cert_format.proofs.PieceLaws.{gave_first, gave_second}
use Rattle.cert_format.proofs.pieces.Left.give.Goals as goal

pub returns-then-is_empty-clause-given : goal.returns-then-is_empty-clause-given
returns-then-is_empty-clause-given c =
    let l = c.self.inside in
    let none : l.begun ≡ [] = sym c.as_slice-begun.ensures ∙ nil_from_length _ (eqb-true _ _ (sym c.is_empty.ensures ∙ c.if-is_empty.true)) in
    ap (λ (p : LeftParts). take c.args.at c.args.buf.now ++ left_bytes p) (sym c.self.view_is)
    ∙ gave_second c.args.at c.copy_front-count.result c.args.buf.now c.copy_front-count.new.buf l.begun l.nodes.now c.split_at.result.1.now
    (flat_map triangle_bytes l.triangles.now) (flat_map ray_bytes l.rays.now) (flat_map pair_bytes l.listed.now) (flat_map tree_bytes l.trees.now)
    none c.copy_front-count.ensures.front c.split_at.ensures.back

pub returns-else-is_empty-clause-given : goal.returns-else-is_empty-clause-given
returns-else-is_empty-clause-given c =
    let l = c.self.inside in
    let n = c.copy_front-count-else-is_empty.result in
    ap (λ (p : LeftParts). take c.args.at c.args.buf.now ++ left_bytes p) (sym c.self.view_is)
    ∙ gave_first c.args.at n c.args.buf.now c.copy_front-count-else-is_empty.new.buf l.begun c.skip.new.self
    l.nodes.now (flat_map triangle_bytes l.triangles.now) (flat_map ray_bytes l.rays.now) (flat_map pair_bytes l.listed.now) (flat_map tree_bytes l.trees.now)
    (c.copy_front-count-else-is_empty.ensures.front ∙ ap (λ (t : List ℕ). take c.args.at c.args.buf.now ++ take n t) c.as_slice-begun.ensures) c.skip.ensures
