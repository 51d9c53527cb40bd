-- Points with other coordinates are others.
use Rattle.std.proofs.Common.{ap, arith}
use Rattle.std.proofs.lemmas.Int.{ints}
use Rattle.sight_names.specs.declared.names.Pt.{Pt}
use Rattle.walk_tests.proofs.calls.crossed.Goals as goal

pub behind_two-requires : goal.behind_two-requires
behind_two-requires c = record {
  first = λ e. let y = ap (λ (p : Pt). p.y) e in omega (arith, ints, y);
  second = λ e. let x = ap (λ (p : Pt). p.x) e in omega (arith, ints, x);
  last = λ e. let y = ap (λ (p : Pt). p.y) e in omega (arith, ints, y);
}
