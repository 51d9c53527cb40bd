use Rattle.std.proofs.Common.{◌≡◌, List, ℕ, Some, None, Ok, subst}
use Rattle.std.proofs.lemmas.Result.{err_from_is_err_and}
use Rattle.cert_format.specs.Reading.{FailsCert}
use Rattle.cert_format.proofs.Loop.{goes_on, ends, is_done}
use Rattle.cert_format.specs.CertGroups.Reading.{group_at, groups_at, last_of}
use Rattle.cert_format.proofs.CertGroups.GroupOrder.{last_pushed}
use Rattle.cert_format.proofs.cert_groups.groups.groups_of.Goals as goal

pub returns-in_err-one : goal.returns-in_err-one
returns-in_err-one c =
    let p = err_from_is_err_and c.from_residual.result c.from_residual.ensures.1 in
    let here : FailsCert c.in_err-one.field-0.0 (group_at c.args.sectors c.args.total (last_of c.loop.groups.items) c.loop.rest.now) =
    subst (λ (gs : List (List ℕ)). FailsCert c.in_err-one.field-0.0 (group_at c.args.sectors c.args.total (last_of gs) c.loop.rest.now)) c.as_slice.ensures.value c.in_err-one.ensures in
    rw (p.1, p.2) (ends (group_at c.args.sectors c.args.total) (λ g. Some g) c.in_err-one.field-0.0 c.loop.groups.items (last_of c.loop.groups.items) c.args.count c.loop.counter c.loop.rest.now (groups_at c.args.sectors c.args.total None c.args.count c.args.bytes.now) c.loop-test.true here c.loop.invariant)

pub loop-preserved : goal.loop-preserved
loop-preserved c =
    let gs = c.loop.groups.items in
    let g = c.in_ok-one.one in
    let all = groups_at c.args.sectors c.args.total None c.args.count c.args.bytes.now in
    let here : group_at c.args.sectors c.args.total (last_of gs) c.loop.rest.now ≡ Ok (g, c.in_ok-one.after.now) =
    subst (λ (hs : List (List ℕ)). group_at c.args.sectors c.args.total (last_of hs) c.loop.rest.now ≡ Ok (g, c.in_ok-one.after.now)) c.as_slice.ensures.value c.in_ok-one.ensures in
    let more = goes_on (group_at c.args.sectors c.args.total) (λ g. Some g) gs (last_of gs) c.args.count c.loop.counter c.loop.rest.now g c.in_ok-one.after.now all c.loop-test.true here c.loop.invariant in
    rw (c.in_ok-push.ensures.items, last_pushed gs g) more

pub returns : goal.returns
returns c = is_done (group_at c.args.sectors c.args.total) (λ g. Some g) c.loop.groups.items (last_of c.loop.groups.items) c.args.count c.loop.counter c.loop.rest.now (groups_at c.args.sectors c.args.total None c.args.count c.args.bytes.now) c.loop-test.false c.loop.invariant
