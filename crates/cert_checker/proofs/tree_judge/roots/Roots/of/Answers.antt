use Rattle.std.proofs.Common.{◌≡◌, ◌∙◌, ◌<◌, ◌≤◌, ℕ, ◌+◌, ◌-◌, None, List, Option, length, replicate, sym, ap, subst, arith, rules}
use Rattle.sight_names.specs.Plan.{PlanParts}
use Rattle.cert_checker.proofs.TreeJudge.Chains.{HasRootsFrom, roots_none, roots_more, roots_all}
use Rattle.cert_checker.proofs.TreeJudge.Noting.{stored}
use Rattle.cert_checker.proofs.tree_judge.roots.Roots.of.Goals as goal
use Rattle.math_base.proofs.Lists.{item_there}

pub loop-k-init : goal.loop-k-init
loop-k-init c =
    let ts = c.args.mesh.now.triangles in
    let e : c.plan.inside.sectors ≡ c.args.plan.now.sectors = ap (λ (p : PlanParts). p.sectors) c.plan.view_is in
    let h : c.in_ok-first.first.items ≡ replicate {A = Option ℕ} c.plan.inside.sectors None = c.in_ok-first.ensures.items_if_clones_equal (λ y h. search rules) in
    rw c.new-roots.ensures.items
    (roots_none ts c.args.edges.now c.args.plan.now (length c.lines-lines.result.now) c.in_ok-first.first.items (omega (arith, ap length c.lines-lines.ensures.list)) (h ∙ ap (λ (n : ℕ). replicate {A = Option ℕ} n None) e))

pub loop-k-preserved : goal.loop-k-preserved
loop-k-preserved c =
    let lines = c.lines-lines.result.now in
    let h : c.loop-k.k ≤ length lines = omega arith in
    let l : c.loop-k.k - 1 < length lines = omega arith in
    let e : c.loop-k.k ≡ (c.loop-k.k - 1) + 1 = omega arith in
    rw (stored c.put_line.new.first _ c.loop-k.first.len (let d : length c.put_line.new.first ≡ length c.deref_mut.result.now = c.put_line.auto.first in d ∙ c.deref_mut.ensures.len))
    (roots_more c.args.mesh.now.triangles c.args.edges.now c.args.plan.now c.lines-lines.ensures.plan (c.loop-k.k - 1) _ c.loop-k.roots.items c.put_line.new.roots.items c.deref_mut.result.now c.put_line.new.first
    (item_there lines c.args.plan.now.lines (c.loop-k.k - 1) None c.lines-lines.ensures.list l)
    (subst (λ (fs : List (Option ℕ)). HasRootsFrom c.args.mesh.now.triangles c.args.edges.now c.args.plan.now ((c.loop-k.k - 1) + 1) c.loop-k.roots.items fs) (sym c.deref_mut.ensures.value)
    (subst (λ (n : ℕ). HasRootsFrom c.args.mesh.now.triangles c.args.edges.now c.args.plan.now n c.loop-k.roots.items c.loop-k.first.items) e c.loop-k.invariant)) c.in_ok-put_line.ensures)

pub returns : goal.returns
returns c = roots_all c.args.mesh.now.triangles c.args.edges.now c.args.plan.now c.loop-k.k c.loop-k.roots.items c.loop-k.first.items (omega arith) c.loop-k.invariant
