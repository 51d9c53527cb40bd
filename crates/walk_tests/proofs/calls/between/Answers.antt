-- Points with other first coordinates are others.
use Rattle.std.proofs.Common.{ap, arith}
use Rattle.std.proofs.lemmas.Int.{ints}
use Rattle.sight_names.specs.declared.names.Pt.{Pt}
use Rattle.walk_tests.proofs.calls.between.Goals as goal

pub behind_one-requires : goal.behind_one-requires
behind_one-requires c = record {
  first = λ e. let x = ap (λ (p : Pt). p.x) e in omega (arith, ints, x);
  last = λ e. let x = ap (λ (p : Pt). p.x) e in omega (arith, ints, x);
}
