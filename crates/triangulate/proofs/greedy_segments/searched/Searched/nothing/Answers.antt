use Rattle.std.proofs.Common.{◌≡◌, List, Option, None, sym, subst}
use Rattle.std.specs.Prelude.{replicate}
use Rattle.triangulate.specs.declared.greedy_segments.searched.Corners.{Corners}
use Rattle.triangulate.specs.GreedySegments.Searched.{AreSearched}
use Rattle.triangulate.proofs.GreedySegments.Searches.{nothing_kept, only_none}
use Rattle.triangulate.proofs.greedy_segments.searched.Searched.nothing.Goals as goal

pub returns : goal.returns
returns c = λ m.
    let h : c.in_ok-vec.field-0.items ≡ replicate {A = Option Corners} 16384 None = c.in_ok-vec.ensures.items_if_clones_equal (only_none Corners _ (λ x h. h)) in
    subst (λ (ts : List (Option Corners)). AreSearched m ts) (sym h) (nothing_kept m 16384)
