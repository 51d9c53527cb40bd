use Rattle.std.proofs.Common.{◌<◌, length, arith}
use Rattle.triangulate.proofs.GreedySegments.Searches.{triangle_kept}
use Rattle.triangulate.proofs.greedy_segments.searched.Searched.keep_triangle.Goals as goal

pub returns-then-place-len : goal.returns-then-place-len
returns-then-place-len c = λ m are new.
    let within : c.place_of-place.result < length c.args.self.now.triangles.items = omega (arith, c.if-place-len.true, c.len.ensures, c.args.self.now.triangles.ok.0) in
    triangle_kept m c.args.self.now.triangles.items c.place_of-place.result c.args.corners within are new
