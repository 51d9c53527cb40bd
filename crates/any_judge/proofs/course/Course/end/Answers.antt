use Rattle.std.proofs.Common.{subst}
use Rattle.sight_names.specs.declared.faults.CertFault.TheVariants as faults
use Rattle.any_judge.specs.Course.{IsAsked, IsOnCourse}
use Rattle.any_judge.proofs.Courses.{unread}
use Rattle.any_judge.proofs.course.Course.end.Goals as goal

pub end-requires : goal.end-requires
end-requires c = let r = c.requires in record { plan = r.plan; table = r.table; bytes = r.bytes; taken = (subst (IsOnCourse r.plan r.table r.bytes) c.in-Told.is r.course).1; fits = r.fits }

pub returns-in-Told : goal.returns-in-Told
returns-in-Told c = λ p t bytes w. c.end.ensures p t bytes (subst (IsOnCourse p t bytes) c.in-Told.is w).1

pub returns-in-Cut : goal.returns-in-Cut
returns-in-Cut c = λ p t bytes w.
    unread p bytes (faults.Short c.in-Cut.at) t (subst (IsAsked p t bytes) c.in-Cut.is (c.in_ok-at-in-Opening.ensures p t bytes (subst (IsOnCourse p t bytes) c.in-Opening.is w)))

pub end-requires-in-Told-2 : goal.end-requires-in-Told-2
end-requires-in-Told-2 c =
    let r = c.requires in
    record {
      plan = r.plan;
      table = r.table;
      bytes = r.bytes;
      taken = subst (IsAsked r.plan r.table r.bytes) c.in-Told-2.is (c.in_ok-at-in-Opening.ensures r.plan r.table r.bytes (subst (IsOnCourse r.plan r.table r.bytes) c.in-Opening.is r.course));
      fits = r.fits;
    }

pub returns : goal.returns
returns c = λ p t bytes w. c.end-in-Told-2.ensures p t bytes (subst (IsAsked p t bytes) c.in-Told-2.is (c.in_ok-at-in-Opening.ensures p t bytes (subst (IsOnCourse p t bytes) c.in-Opening.is w)))
