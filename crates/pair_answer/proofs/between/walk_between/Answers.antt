use Rattle.std.proofs.Common.{ℕ, ◌∙◌, List, Contains, length, ap, sym, subst}
use Rattle.sight_names.specs.Map.{map_of}
use Rattle.pair_answer.specs.declared.walks.AllSought.{AllSought}
use Rattle.pair_answer.specs.Numbers.{AreBelow}
use Rattle.pair_answer.specs.Walks.{AreMissed, AreSought}
use Rattle.std.specs.Prelude.{IfOk}
use Rattle.sight_names.proofs.PlanMap.{plan_is_map}
use Rattle.group_job.proofs.VerdictLaws.{tells_connected}
use Rattle.group_job.proofs.Finding.{found_sees}
use Rattle.pair_answer.specs.Between.{IsAnswerBack, IsAnswerBetween}
use Rattle.pair_answer.specs.Places.{AreJoinedByComponent}
use Rattle.pair_answer.proofs.Decision.{decides, ok_so, ray_there}
use Rattle.pair_answer.proofs.between.walk_between.Goals as goal

pub joined-requires-clause-groups : goal.joined-requires-clause-groups
joined-requires-clause-groups c = subst (λ (n : ℕ). AreBelow n c.args.from.now) (sym (ap (λ (xs : List ℕ). length xs) c.as_slice.ensures.value ∙ c.in_ok-classes.ensures.len)) c.requires.from

pub joined-requires-clause-others : goal.joined-requires-clause-others
joined-requires-clause-others c = subst (λ (n : ℕ). AreBelow n c.args.to.now) (sym (ap (λ (xs : List ℕ). length xs) c.as_slice.ensures.value ∙ c.in_ok-classes.ensures.len)) c.requires.to

pub seek_all-requires-clause-sources : goal.seek_all-requires-clause-sources
seek_all-requires-clause-sources c = λ x h. c.requires.from x ((c.in_ok-near.ensures x).0 (subst (λ (xs : List ℕ). Contains xs x) c.as_slice-2.ensures.value h)).0

pub returns-in-Ray : goal.returns-in-Ray
returns-in-Ray c =
    let r = subst (λ (xs : List ℕ). AreSought (map_of c.args.plan.now) c.args.mesh.now.triangles c.args.labels.now c.args.budget xs c.args.to.now c.in_ok-ray.field-0) c.as_slice-2.ensures.value c.in_ok-ray.ensures in
    ray_there (map_of c.args.plan.now) c.args.mesh.now.triangles c.args.labels.now c.args.budget c.as_slice.result.now c.args.from.now c.args.to.now c.in_ok-near.near.items c.in_ok-near.ensures c.in-Ray.ray
    (subst (λ (s : AllSought). AreSought (map_of c.args.plan.now) c.args.mesh.now.triangles c.args.labels.now c.args.budget c.in_ok-near.near.items c.args.to.now s) c.in-Ray.is r)

pub walk_back-requires-clause-spent : goal.walk_back-requires-clause-spent
walk_back-requires-clause-spent c = λ x h.
    let m : AreMissed (map_of c.args.plan.now) c.args.mesh.now.triangles c.args.labels.now c.args.budget c.as_slice-2.result.now c.args.to.now c.in-Missed.spent.items = subst (λ (s : AllSought). AreSought (map_of c.args.plan.now) c.args.mesh.now.triangles c.args.labels.now c.args.budget c.as_slice-2.result.now c.args.to.now s) c.in-Missed.is c.in_ok-ray.ensures in
    let near = ((m.ran_out x).0 (subst (λ (xs : List ℕ). Contains xs x) c.as_slice-in-Missed-2.ensures.value h)).0 in
    c.requires.from x ((c.in_ok-near.ensures x).0 (subst (λ (xs : List ℕ). Contains xs x) c.as_slice-2.ensures.value near)).0

pub returns : goal.returns
returns c =
    let p = c.args.plan.now in
    let m = map_of p in
    let is_map = plan_is_map p c.lines.ensures.plan in
    let ts = c.args.mesh.now.triangles in
    let ls = c.args.labels.now in
    let cs = c.in_ok-classes.classes.items in
    let low = λ (xs : List ℕ) (h : AreBelow p.sectors xs). subst (λ (n : ℕ). AreBelow n xs) (sym c.in_ok-classes.ensures.len) h in
    let near = subst (λ (ks : List ℕ). AreJoinedByComponent ks c.args.from.now c.args.to.now c.in_ok-near.near.items) c.as_slice.ensures.value c.in_ok-near.ensures in
    let r = subst (λ (xs : List ℕ). AreSought m ts ls c.args.budget xs c.args.to.now c.in_ok-ray.field-0) c.as_slice-2.ensures.value c.in_ok-ray.ensures in
    let missed : AreMissed m ts ls c.args.budget c.in_ok-near.near.items c.args.to.now c.in-Missed.spent.items = subst (λ (s : AllSought). AreSought m ts ls c.args.budget c.in_ok-near.near.items c.args.to.now s) c.in-Missed.is r in
    let back = subst (λ (ks : List ℕ). IfOk c.walk_back.result (IsAnswerBack m ts ls c.args.budget ks c.in-Missed.spent.items c.args.to.now)) c.as_slice-in-Missed.ensures.value
    (subst (λ (xs : List ℕ). IfOk c.walk_back.result (IsAnswerBack m ts ls c.args.budget c.as_slice-in-Missed.result.now xs c.args.to.now)) c.as_slice-in-Missed-2.ensures.value c.walk_back.ensures) in
    ok_so c.walk_back.result (IsAnswerBack m ts ls c.args.budget cs c.in-Missed.spent.items c.args.to.now) (IsAnswerBetween m ts ls c.args.budget c.args.from.now c.args.to.now)
    (decides m ts ls c.args.budget cs c.args.from.now c.args.to.now c.in_ok-near.near.items near is_map c.requires.audited c.requires.good (λ f k. found_sees m ts ls c.requires.good f k c.args.budget is_map c.requires.audited) (tells_connected m cs c.in_ok-classes.ensures.components)
    (low c.args.from.now c.requires.from) (low c.args.to.now c.requires.to) c.requires.apart c.in-Missed.spent.items missed) back
