use Rattle.std.proofs.Common.{ap, sym, subst}
use Rattle.std.specs.List.{Contains}
use Rattle.sight_workers.specs.declared.view.View.{View}
use Rattle.sight_workers.proofs.serving.starve.Goals as goal

pub returns-in_default-clause-seat : goal.returns-in_default-clause-seat
returns-in_default-clause-seat g c = (c.claim.ensures.seat.0, c.claim.ensures.seat.2)

pub returns-clause-seat : goal.returns-clause-seat
returns-clause-seat g c = (c.claim.ensures.seat.0, c.claim.ensures.seat.2)

pub returns-clause-memory : goal.returns-clause-memory
returns-clause-memory g c =
    let some = c.in-Some.ensures.some in
    record {
      source = c.in-Some.source;
      below = some.0;
      rises = some.1;
      claims = ap (λ (v : View). v.claims) some.2;
      later = record {
        marks = λ p h. subst (λ (v : View). Contains v.marks p) (sym some.2) h;
        seen = λ p h. subst (λ (v : View). Contains v.seen p) (sym some.2) h;
        looks = λ p h. subst (λ (v : View). Contains v.looks p) (sym some.2) h;
      };
    }
