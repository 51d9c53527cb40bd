use Rattle.std.proofs.Common.{ℕ, List, Vec, Global}
use Rattle.std.proofs.lemmas.Result.{IfOk-weaker}
use Rattle.face_groups.proofs.Verdicts.{names_answer}
use Rattle.face_groups.proofs.lists.faces.Goals as goal

pub returns-clause-names : goal.returns-clause-names
returns-clause-names c plain = IfOk-weaker c.lists_on.result _ _ (λ (v : Vec (List ℕ) Global) h.
    names_answer c.args.plan.now c.lines.ensures.plan c.args.mesh.now.triangles c.in_ok-walls.walls.items c.as_slice.result.now c.in_ok-faces.faces.items c.as_slice-2.result.now c.as_slice-4.result.now c.in_ok-namings.namings.items c.as_slice-3.result.now v.items
    c.as_slice.ensures.value c.as_slice-2.ensures.value c.as_slice-3.ensures.value c.as_slice-4.ensures.value c.in_ok-walls.ensures c.in_ok-faces.ensures.faces c.in_ok-namings.ensures plain h) c.lists_on.ensures
