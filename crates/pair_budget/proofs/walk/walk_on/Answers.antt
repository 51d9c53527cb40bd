use Rattle.std.proofs.Common.{◌≡◌, ◌≢◌, ℕ, ◌<◌, inl, List, Option, Some, None, IsSome, refl, sym, ap, ◌∙◌, subst, IfSome, length}
use Rattle.pair_budget.specs.declared.results.Reached.{Reached}
use Rattle.sight_names.specs.declared.names.Budget.{Budget}
use Rattle.sight_names.specs.Mesh.{label_of}
use Rattle.sight_names.specs.Plan.{PlanParts}
use Rattle.mesh_shape.specs.Shape.{MeshParts}
use Rattle.portal_walk.specs.Walk.{Goes, OpensTo, pending}
use Rattle.portal_walk.proofs.Steps.{same_walk_both, leads_to, top_splittable}
use Rattle.pair_budget.specs.Whole.{IsFound}
use Rattle.pair_budget.proofs.Marks.{told_more, extends_both, still_full}
use Rattle.pair_budget.proofs.Exactly.{FindsOver, finds_begin, finds_blocked, finds_next, finds_noted, finds_end, finds_spent, finds_early}
use Rattle.pair_budget.proofs.Through.{through_none, through_moved, through_back, through_open, is_at}
use Rattle.portal_walk.proofs.Answering.{IsOver, over_moved}
use Rattle.pair_budget.proofs.Walking.{begins, covers_blocked, covers_open, covers_end, noted_label, only_label}
use Rattle.pair_budget.proofs.walk.walk_on.Goals as goal

pub loop-walker-init : goal.loop-walker-init
loop-walker-init g c =
    let over : IsOver c.args.walker = record { rules = c.requires.rules; audited = c.requires.audited; good = c.requires.good } in
    record {
      walk = record { plan = refl; mesh = refl; labels = refl; source = refl };
      found_sectors = record { plan = refl; source = refl; keeps = λ r h. h };
      over = over;
      covered = begins c.args.walker over c.requires.pending c.requires.no_nodes c.args.found_sectors.now.found c.requires.nothing;
      exact = subst (λ (b : Budget). FindsOver c.args.walker c.args.budget b c.args.found_sectors.now.found) (sym c.of-left.ensures) (finds_begin c.args.walker c.args.budget c.args.found_sectors.now.found c.requires.pending c.requires.nothing);
      through = through_none c.args.walker c.args.found_sectors.now.found c.requires.nothing;
      full = λ f. c.of-left.ensures ∙ f;
      hears = c.requires.hears;
      tag = refl;
      kept = λ p h. h;
      marks = λ p h. inl h;
      claims = refl;
      settles = refl;
      mates = λ x y h. h;
      seen = λ p h. h;
      looks = λ p h. h;
    }

-- what follows from two facts of what there is
some_both : {X : Type 0} (o : Option X) {P Q R : X → Type 0} → IfSome o P → IfSome o Q → ((x : X) → P x → Q x → R x) → IfSome o R
some_both None p q f = tt
some_both (Some x) p q f = f x p q

pub newly_reached-reached-requires-clause-at : goal.newly_reached-reached-requires-clause-at
newly_reached-reached-requires-clause-at g c =
    let i = c.loop-walker.invariant in
    let old = c.loop-walker.walker in
    let new = c.go.new.self in
    let opens : OpensTo old new = (subst (Goes old new) c.in-Open.is c.in_ok-go.ensures.went).0 in
    (opens.opened.edge, is_at old new c.go.ensures.walk (ap length i.walk.labels ∙ c.requires.one_each ∙ sym (ap (λ (m : MeshParts). length m.triangles) i.walk.mesh)) opens)

pub newly_reached-reached-requires-clause-splittable : goal.newly_reached-reached-requires-clause-splittable
newly_reached-reached-requires-clause-splittable g c =
    top_splittable c.loop-walker.walker c.go.new.self (subst (Goes c.loop-walker.walker c.go.new.self) c.in-Open.is c.in_ok-go.ensures.went).0

pub newly_reached-reached-requires-clause-line : goal.newly_reached-reached-requires-clause-line
newly_reached-reached-requires-clause-line g c = (subst (Goes c.loop-walker.walker c.go.new.self) c.in-Open.is c.in_ok-go.ensures.went).1

-- the sector that is noted is found within the budget
pub note-requires-clause-hears : goal.note-requires-clause-hears
note-requires-clause-hears g c =
    let i = c.loop-walker.invariant in
    let old = c.loop-walker.walker in
    let new = c.go.new.self in
    let labels : old.labels ≡ c.args.labels.now = i.walk.labels ∙ c.requires.labels in
    let opens : OpensTo old new = (subst (Goes old new) c.in-Open.is c.in_ok-go.ensures.went).0 in
    let x = opens.opened.edge in
    let leads = leads_to old new opens x opens.opened.top in
    let reached = c.newly_reached-reached in
    let walk = same_walk_both c.args.walker old new i.walk c.go.ensures.walk in
    some_both reached.result reached.ensures.reached (reached.ensures.label x opens.opened.top)
    (λ (r : Reached) far labelled. i.hears r.to (subst (λ (a : ℕ). r.to ≢ a) walk.source far.other) (subst (λ (p : PlanParts). r.to < p.sectors) walk.plan far.within)
    (finds_next old new c.args.budget c.loop-walker.left c.loop-walker.found_sectors.found i.exact x.triangle x.entered leads c.args.walker i.walk c.in-Some.less c.in-Some.ensures r.to
    (ap (λ (ls : List (Option ℕ)). label_of ls x.triangle) labels ∙ labelled)))

pub returns-in-End-clause-shown : goal.returns-in-End-clause-shown
returns-in-End-clause-shown g c =
    let i = c.loop-walker.invariant in
    covers_end c.args.walker c.loop-walker.walker c.go.new.self c.loop-walker.found_sectors.found i.walk i.covered c.go.ensures.walk c.requires.pending
    (subst (Goes c.loop-walker.walker c.go.new.self) c.in-End.is c.in_ok-go.ensures.went) c.tree.result c.tree.ensures.source c.tree.ensures.nodes

pub loop-walker-preserved-in-Blocked : goal.loop-walker-preserved-in-Blocked
loop-walker-preserved-in-Blocked g c =
    let i = c.loop-walker.invariant in
    record {
      walk = same_walk_both c.args.walker c.loop-walker.walker c.go.new.self i.walk c.go.ensures.walk;
      found_sectors = i.found_sectors;
      over = over_moved c.loop-walker.walker c.go.new.self c.go.ensures.walk i.over;
      covered = covers_blocked (pending c.args.walker) c.loop-walker.walker c.go.new.self c.loop-walker.found_sectors.found i.covered c.go.ensures.walk (subst (Goes c.loop-walker.walker c.go.new.self) c.in-Blocked.is c.in_ok-go.ensures.went).0
          (subst (Goes c.loop-walker.walker c.go.new.self) c.in-Blocked.is c.in_ok-go.ensures.went).1;
      exact = finds_blocked c.loop-walker.walker c.go.new.self c.args.budget c.loop-walker.left c.loop-walker.found_sectors.found i.exact c.go.ensures.walk (subst (Goes c.loop-walker.walker c.go.new.self) c.in-Blocked.is c.in_ok-go.ensures.went).0
          (subst (Goes c.loop-walker.walker c.go.new.self) c.in-Blocked.is c.in_ok-go.ensures.went).1;
      through = through_moved c.loop-walker.walker c.go.new.self c.loop-walker.found_sectors.found c.go.ensures.walk i.through;
      full = i.full;
      hears = i.hears;
      tag = i.tag;
      kept = i.kept;
      marks = i.marks;
      claims = i.claims;
      settles = i.settles;
      mates = i.mates;
      seen = i.seen;
      looks = i.looks;
    }

pub returns-in_err-note-in-Open-clause-found_sectors : goal.returns-in_err-note-in-Open-clause-found_sectors
returns-in_err-note-in-Open-clause-found_sectors g c = extends_both c.args.found_sectors.now c.loop-walker.found_sectors c.note.new.found_sectors c.loop-walker.invariant.found_sectors c.note.ensures.found_sectors

pub returns-in_err-note-in-Open-clause-seen : goal.returns-in_err-note-in-Open-clause-seen
returns-in_err-note-in-Open-clause-seen g c = λ p h. c.note.ensures.seen p (c.loop-walker.invariant.seen p h)

pub returns-in_err-note-in-Open-clause-kept : goal.returns-in_err-note-in-Open-clause-kept
returns-in_err-note-in-Open-clause-kept g c = λ p h. c.note.ensures.kept p (c.loop-walker.invariant.kept p h)

pub returns-in_err-note-in-Open-clause-looks : goal.returns-in_err-note-in-Open-clause-looks
returns-in_err-note-in-Open-clause-looks g c = λ p h. c.note.ensures.looks p (c.loop-walker.invariant.looks p h)

pub returns-then-branch-clause-found_sectors : goal.returns-then-branch-clause-found_sectors
returns-then-branch-clause-found_sectors g c = extends_both c.args.found_sectors.now c.loop-walker.found_sectors c.note.new.found_sectors c.loop-walker.invariant.found_sectors c.note.ensures.found_sectors

pub returns-then-branch-clause-outcome : goal.returns-then-branch-clause-outcome
returns-then-branch-clause-outcome g c = sym c.loop-walker.invariant.settles ∙ c.in_ok-note-in-Open.ensures.settled c.if-branch.true

pub returns-then-branch-clause-mates : goal.returns-then-branch-clause-mates
returns-then-branch-clause-mates g c = λ _ b h. c.in_ok-note-in-Open.ensures.done c.if-branch.true b (c.loop-walker.invariant.mates c.args.source b h)

pub returns-then-branch-clause-seen : goal.returns-then-branch-clause-seen
returns-then-branch-clause-seen g c = λ p h. c.note.ensures.seen p (c.loop-walker.invariant.seen p h)

pub returns-then-branch-clause-kept : goal.returns-then-branch-clause-kept
returns-then-branch-clause-kept g c = λ p h. c.note.ensures.kept p (c.loop-walker.invariant.kept p h)

pub returns-then-branch-clause-looks : goal.returns-then-branch-clause-looks
returns-then-branch-clause-looks g c = λ p h. c.note.ensures.looks p (c.loop-walker.invariant.looks p h)

pub returns-in_err-note-in-Open-clause-marks : goal.returns-in_err-note-in-Open-clause-marks
returns-in_err-note-in-Open-clause-marks g c = told_more c.args.source c.loop-walker.found_sectors c.note.new.found_sectors _ _ _ c.note.ensures.found_sectors c.loop-walker.invariant.marks c.note.ensures.marks

pub returns-then-branch-clause-marks : goal.returns-then-branch-clause-marks
returns-then-branch-clause-marks g c = told_more c.args.source c.loop-walker.found_sectors c.note.new.found_sectors _ _ _ c.note.ensures.found_sectors c.loop-walker.invariant.marks c.note.ensures.marks

pub loop-walker-preserved : goal.loop-walker-preserved
loop-walker-preserved g c =
    let i = c.loop-walker.invariant in
    let e = c.note.ensures in
    let old = c.loop-walker.walker in
    let new = c.go.new.self in
    let later = c.note.new.found_sectors.found in
    let labels : old.labels ≡ c.args.labels.now = i.walk.labels ∙ c.requires.labels in
    let opens : OpensTo old new = (subst (Goes old new) c.in-Open.is c.in_ok-go.ensures.went).0 in
    let x = opens.opened.edge in
    let leads = leads_to old new opens x opens.opened.top in
    let reached = c.newly_reached-reached in
    let noted : (sector : ℕ) → label_of old.labels x.triangle ≡ Some sector → IsSome x.entered → IsFound later sector =
    λ sector h some. noted_label old.labels c.args.labels.now x.triangle c.loop-walker.found_sectors.found later e.found_sectors.keeps reached.result labels c.in_ok-note-in-Open.ensures.reached (reached.ensures.label x opens.opened.top) sector h
    (reached.ensures.given x sector opens.opened.top (subst (λ (ls : List (Option ℕ)). label_of ls x.triangle ≡ Some sector) labels h) (subst IsSome (sym opens.answers.root) refl) some) in
    record {
      walk = same_walk_both c.args.walker c.loop-walker.walker c.go.new.self i.walk c.go.ensures.walk;
      found_sectors = extends_both c.args.found_sectors.now c.loop-walker.found_sectors c.note.new.found_sectors i.found_sectors e.found_sectors;
      over = over_moved old new c.go.ensures.walk i.over;
      covered = covers_open (pending c.args.walker) old new c.loop-walker.found_sectors.found i.covered c.go.ensures.walk x.triangle x.entered leads later e.found_sectors.keeps i.over noted
          (λ r there. only_label old.labels c.args.labels.now x.triangle c.loop-walker.found_sectors.found reached.result r labels (reached.ensures.label x opens.opened.top) (c.in_ok-note-in-Open.ensures.only r there));
      exact = finds_noted c.args.walker old new c.args.budget c.loop-walker.left c.loop-walker.found_sectors.found i.covered i.exact c.go.ensures.walk x.triangle x.entered leads c.in-Some.less c.in-Some.ensures later e.found_sectors.keeps noted
          (λ r there. only_label old.labels c.args.labels.now x.triangle c.loop-walker.found_sectors.found reached.result r labels (reached.ensures.label x opens.opened.top) (c.in_ok-note-in-Open.ensures.only r there));
      through = through_open old new c.loop-walker.found_sectors.found later i.through opens c.go.ensures.walk c.args.labels.now labels reached.result (reached.ensures.label x opens.opened.top) (reached.ensures.ray x opens.opened.top) c.in_ok-note-in-Open.ensures.only;
      full = λ f. still_full c.loop-walker.left c.in-Some.less (i.full f) c.in-Some.ensures;
      hears = λ b other below f. e.hears _ (i.hears b other below f);
      tag = e.tag ∙ i.tag;
      kept = λ p h. e.kept p (i.kept p h);
      marks = told_more c.args.source c.loop-walker.found_sectors c.note.new.found_sectors _ _ _ e.found_sectors i.marks e.marks;
      claims = e.claims ∙ i.claims;
      settles = e.settles ∙ i.settles;
      mates = λ x y h. e.mates x y (i.mates x y h);
      seen = λ p h. e.seen p (i.seen p h);
      looks = λ p h. e.looks p (i.looks p h);
    }

pub returns-in-End-clause-exact : goal.returns-in-End-clause-exact
returns-in-End-clause-exact g c =
    let i = c.loop-walker.invariant in
    finds_end c.loop-walker.walker c.go.new.self c.args.budget c.loop-walker.left c.loop-walker.found_sectors.found i.exact c.args.walker i.walk (subst (Goes c.loop-walker.walker c.go.new.self) c.in-End.is c.in_ok-go.ensures.went) c.tree.result

pub returns-in_default-clause-exact : goal.returns-in_default-clause-exact
returns-in_default-clause-exact g c =
    let i = c.loop-walker.invariant in
    let old = c.loop-walker.walker in
    let new = c.go.new.self in
    let opens : OpensTo old new = (subst (Goes old new) c.in-Open.is c.in_ok-go.ensures.went).0 in
    let x = opens.opened.edge in
    finds_spent old new c.args.budget c.loop-walker.left c.loop-walker.found_sectors.found i.exact x.triangle x.entered (leads_to old new opens x opens.opened.top) c.args.walker i.walk c.in_default.ensures

pub returns-then-branch-clause-exact : goal.returns-then-branch-clause-exact
returns-then-branch-clause-exact g c =
    let i = c.loop-walker.invariant in
    let e = c.note.ensures in
    let old = c.loop-walker.walker in
    let new = c.go.new.self in
    let labels : old.labels ≡ c.args.labels.now = i.walk.labels ∙ c.requires.labels in
    let opens : OpensTo old new = (subst (Goes old new) c.in-Open.is c.in_ok-go.ensures.went).0 in
    let x = opens.opened.edge in
    let leads = leads_to old new opens x opens.opened.top in
    let reached = c.newly_reached-reached in
    let later = c.note.new.found_sectors.found in
    finds_early c.args.walker new c.args.budget c.in-Some.less later (same_walk_both c.args.walker old new i.walk c.go.ensures.walk)
    (finds_noted c.args.walker old new c.args.budget c.loop-walker.left c.loop-walker.found_sectors.found i.covered i.exact c.go.ensures.walk x.triangle x.entered leads c.in-Some.less c.in-Some.ensures later e.found_sectors.keeps
    (λ sector h some. noted_label old.labels c.args.labels.now x.triangle c.loop-walker.found_sectors.found later e.found_sectors.keeps reached.result labels c.in_ok-note-in-Open.ensures.reached (reached.ensures.label x opens.opened.top) sector h
    (reached.ensures.given x sector opens.opened.top (subst (λ (ls : List (Option ℕ)). label_of ls x.triangle ≡ Some sector) labels h) (subst IsSome (sym opens.answers.root) refl) some))
    (λ r there. only_label old.labels c.args.labels.now x.triangle c.loop-walker.found_sectors.found reached.result r labels (reached.ensures.label x opens.opened.top) (c.in_ok-note-in-Open.ensures.only r there)))

pub returns-in-End-clause-rays : goal.returns-in-End-clause-rays
returns-in-End-clause-rays g c = through_back c.args.walker c.loop-walker.walker c.loop-walker.found_sectors.found c.loop-walker.invariant.walk c.loop-walker.invariant.through

pub returns-in_default-clause-rays : goal.returns-in_default-clause-rays
returns-in_default-clause-rays g c = through_back c.args.walker c.loop-walker.walker c.loop-walker.found_sectors.found c.loop-walker.invariant.walk c.loop-walker.invariant.through

pub returns-then-branch-clause-rays : goal.returns-then-branch-clause-rays
returns-then-branch-clause-rays g c =
    let i = c.loop-walker.invariant in
    let old = c.loop-walker.walker in
    let new = c.go.new.self in
    let labels : old.labels ≡ c.args.labels.now = i.walk.labels ∙ c.requires.labels in
    let opens : OpensTo old new = (subst (Goes old new) c.in-Open.is c.in_ok-go.ensures.went).0 in
    let x = opens.opened.edge in
    let leads = leads_to old new opens x opens.opened.top in
    let reached = c.newly_reached-reached in
    let later = c.note.new.found_sectors.found in
    through_back c.args.walker new later (same_walk_both c.args.walker old new i.walk c.go.ensures.walk)
    (through_open old new c.loop-walker.found_sectors.found later i.through opens c.go.ensures.walk c.args.labels.now labels reached.result (reached.ensures.label x opens.opened.top) (reached.ensures.ray x opens.opened.top) c.in_ok-note-in-Open.ensures.only)
