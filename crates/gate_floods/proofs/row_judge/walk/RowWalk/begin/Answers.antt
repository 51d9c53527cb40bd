use Rattle.std.proofs.Common.{◌≡◌, ℕ, List, length, refl, ◌∙◌, ap, subst, arith}
use Rattle.std.proofs.lemmas.List.{take_all}
use Rattle.cert_checker.specs.TreeJudge.Roots.{first_at}
use Rattle.gate_floods.specs.RowJudge.Words.{row_in_words}
use Rattle.gate_floods.specs.RowJudge.Path.{StandsBefore}
use Rattle.gate_floods.proofs.RowJudge.Walking.{walk_begun}
use Rattle.gate_floods.specs.RowJudge.Masks.{rows_of}
use Rattle.gate_floods.proofs.row_judge.walk.RowWalk.begin.Goals as goal

pub returns : goal.returns
returns c =
    let ms = rows_of c.args.masks.now in
    let row = c.args.row.now in
    let roots = c.args.terrain.now.roots.now.roots.items in
    let firsts = c.args.terrain.now.roots.now.first.items in
    let rows = c.put_first.new.rows.items in
    let path = c.args.self.now.path.items in
    let long : length rows ≡ length row = ap (λ (us : List ℕ). length us) c.in_ok-put_first.ensures in
    walk_begun c.args.terrain.now.edges.now ms row roots firsts _ c.args.source refl
    (ap (λ (us : List ℕ). row_in_words us ms.width 0) c.in_ok-put_first.ensures ∙ take_all ms.width row (omega (arith, c.requires)))
    (omega (arith, long, c.requires))
    (subst (λ (us : List ℕ). StandsBefore ms row roots (first_at firsts c.args.source) path us c.start-self.new.waits.items c.start-self.result) c.as_slice.ensures.value (c.start-self.ensures row path))
