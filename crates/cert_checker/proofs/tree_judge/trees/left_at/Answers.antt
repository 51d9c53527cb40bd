use Rattle.std.proofs.Common.{◌≡◌, ℕ, ◌<◌, ◌%◌, Option, Some, get_or, sym, subst, arith}
use Rattle.std.proofs.lemmas.Option.{slice_get-get_or}
use Rattle.sight_names.specs.declared.limits.TheConstants.{RIGHT_END}
use Rattle.sight_names.specs.declared.names.EndAt.{EndAt}
use Rattle.sight_names.specs.declared.names.Pt.{Pt}
use Rattle.sight_names.specs.Splitting.{end_of}
use Rattle.cert_checker.specs.TreeJudge.Path.{path_ends}
use Rattle.cert_checker.proofs.TreeJudge.Ends.{left_there}
use Rattle.cert_checker.proofs.tree_judge.trees.left_at.Goals as goal

pub returns : goal.returns
returns c =
    let path = c.args.path.now in
    let place = c.args.place in
    let read = c.index-path-place.result in
    let few : place < RIGHT_END = omega (arith, c.requires.within, c.requires.few) in
    let same : place % RIGHT_END ≡ place = omega (arith, few) in
    subst (λ (at : Pt). ◌≡◌ {A = Option EndAt} (end_of (path_ends path) place) (Some (record { code = place % RIGHT_END; at = at }))) (sym c.point_of.ensures)
    (subst (λ (k : ℕ). ◌≡◌ {A = Option EndAt} (end_of (path_ends path) place) (Some (record { code = k; at = (get_or path place read).left }))) (sym same)
    (left_there path place (get_or path place read) few (slice_get-get_or path place read c.requires.within)))
