use Rattle.std.proofs.Common.{ℕ, ◌+◌, List, [], ◌∷◌, ◌++◌, sym, subst}
use Rattle.face_groups.proofs.Runs.{AreListsSo, one_list_more}
use Rattle.face_groups.proofs.lists.lists_on.Goals as goal

pub loop-face-preserved : goal.loop-face-preserved
loop-face-preserved c =
    rw c.in_ok-push.ensures.items (subst (λ (xs : List ℕ). AreListsSo c.args.namings.now c.args.faces.now (c.loop-face.face-index + 1) (c.loop-face.lists.items ++ xs ∷ [])) (sym c.of.ensures)
    (one_list_more c.args.namings.now c.args.faces.now c.loop-face.face-index c.loop-face.lists.items c.in_ok-sectors.sectors.items c.loop-face.invariant c.in_ok-sectors.ensures))
