use Rattle.std.proofs.Common.{◌≡◌, ℕ, List, length, sym, refl, ◌∙◌, ap, subst}
use Rattle.std.proofs.lemmas.Result.{IfOk-weaker}
use Rattle.sight_names.specs.declared.names.Triangle.{Triangle}
use Rattle.sight_names.specs.Map.{map_of}
use Rattle.sight_names.specs.Plan.{PlanParts}
use Rattle.cert_checker.specs.TreeJudge.Roots.{AreRootChains}
use Rattle.face_groups.specs.TriSectors.Components.{AreComponents}
use Rattle.cert_format.specs.Accepted.{triangles_of, labels_of}
use Rattle.certificates.specs.CertExact.Grammar.{as_two}
use Rattle.gate_floods.specs.RowJudge.Masks.{MaskRows}
use Rattle.exact_checker.specs.Owning.{OwningParts, AreRanks}
use Rattle.exact_checker.specs.Rows.{AreJoinedRows}
use Rattle.exact_checker.specs.Judged.{AnswersForEach, TellsTrees}
use Rattle.exact_checker.proofs.Gated.{edge_masks_are}
use Rattle.exact_checker.proofs.Judging.{trees_told}
use Rattle.exact_checker.proofs.trees.judge_trees.Goals as goal

pub find_wrong-requires-clause-sized : goal.find_wrong-requires-clause-sized
find_wrong-requires-clause-sized g c =
    let size : c.plan.inside.sectors ≡ c.args.over.now.plan.sectors = ap (λ (q : PlanParts). q.sectors) c.plan.view_is in
    record {
      components = ap length c.as_slice-3.ensures.value ∙ c.in_ok-components.ensures.len ∙ sym size;
      ranks = ap length c.as_slice-4.ensures.value ∙ c.in_ok-ranks.ensures.len ∙ c.requires.rows ∙ sym size;
      joined = c.requires.rows ∙ sym size;
    }

pub returns : goal.returns
returns g c = λ cert are.
    let p = c.args.over.now.plan in
    let ts = triangles_of (as_two cert).cert in
    let ls = labels_of (as_two cert).cert in
    let xs = c.args.edges.now in
    let roots = c.in_ok-roots.roots.roots.items in
    let firsts = c.in_ok-roots.roots.first.items in
    let ms : MaskRows = record { width = c.in_ok-kept.kept.width; places = c.as_slice.result.now; words = c.as_slice-2.result.now } in
    let known : OwningParts = record { count = c.plan.inside.sectors; components = c.as_slice-3.result.now; ranks = c.as_slice-4.result.now; joined = c.args.joined.now } in
    let size : c.plan.inside.sectors ≡ c.args.over.now.plan.sectors = ap (λ (q : PlanParts). q.sectors) c.plan.view_is in
    let rows = subst (λ (n : ℕ). AreJoinedRows n cert.rays c.args.joined.now) (sym size) are.rows_are in
    let begin = subst (λ (us : List Triangle). AreRootChains (map_of p) us xs roots firsts) are.triangles c.in_ok-roots.ensures in
    let masks = edge_masks_are p are.plan ts ls are.good xs are.edges (as_two cert).cert c.args.joined.now are.rows_are c.in_ok-kept.kept.width c.in_ok-kept.ensures.room c.in_ok-kept.kept.places.items c.in_ok-kept.kept.words.items c.in_ok-kept.ensures.masks ms refl c.as_slice.ensures.value c.as_slice-2.ensures.value in
    let components = subst (AreComponents (map_of p)) (sym c.as_slice-3.ensures.value) c.in_ok-components.ensures.components in
    let ranks = subst (AreRanks c.plan.inside.sectors cert.rays) (sym c.as_slice-4.ensures.value) (c.in_ok-ranks.ensures.ranks cert.rays rows) in
    IfOk-weaker c.find_wrong.result (AnswersForEach xs ms roots firsts known c.args.trees.now) (TellsTrees (map_of p) cert)
    (λ o all. trees_told p are.plan cert are.sectors xs are.good are.edges roots firsts begin ms masks known size components (record { ranks = ranks; joined = rows }) c.args.trees.now are.trees_are c.requires.one_each o all) c.find_wrong.ensures
