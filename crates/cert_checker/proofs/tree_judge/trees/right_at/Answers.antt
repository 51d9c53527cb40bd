use Rattle.std.proofs.Common.{◌≡◌, ℕ, ◌+◌, ◌-◌, ◌<◌, ◌%◌, Option, Some, get_or, sym, subst, arith}
use Rattle.std.proofs.lemmas.Option.{slice_get-get_or}
use Rattle.sight_names.specs.declared.limits.TheConstants.{RIGHT_END}
use Rattle.sight_names.specs.declared.names.EndAt.{EndAt}
use Rattle.sight_names.specs.declared.names.Pt.{Pt}
use Rattle.sight_names.specs.Splitting.{end_of}
use Rattle.cert_checker.specs.TreeJudge.Path.{path_ends}
use Rattle.cert_checker.proofs.TreeJudge.Ends.{right_there}
use Rattle.cert_checker.proofs.tree_judge.trees.right_at.Goals as goal

pub returns : goal.returns
returns c =
    let path = c.args.path.now in
    let code = c.args.code in
    let read = c.index-path-place.result in
    let fits : code < 65536 = c.ranges.code.fits in
    let same : RIGHT_END + (code - RIGHT_END) % RIGHT_END ≡ code = omega (arith, fits, c.requires.right) in
    subst (λ (at : Pt). ◌≡◌ {A = Option EndAt} (end_of (path_ends path) code) (Some (record { code = RIGHT_END + (code - RIGHT_END) % RIGHT_END; at = at }))) (sym c.point_of.ensures)
    (subst (λ (k : ℕ). ◌≡◌ {A = Option EndAt} (end_of (path_ends path) code) (Some (record { code = k; at = (get_or path (code - RIGHT_END) read).right }))) (sym same)
    (right_there path code (get_or path (code - RIGHT_END) read) c.requires.right (slice_get-get_or path (code - RIGHT_END) read (omega (arith, c.requires.right, c.requires.within)))))
