use Rattle.std.proofs.Common.{subst}
use Rattle.cert_format.specs.Sizes.{sizes_of_plan}
use Rattle.any_judge.specs.Judged.{IsVerdictOf}
use Rattle.any_judge.specs.Versed.{HasTaken}
use Rattle.any_judge.proofs.Courses.{refused_at_end}
use Rattle.any_judge.proofs.Promises.{exact_told, listing_told}
use Rattle.any_judge.proofs.versed.Versed.end.Goals as goal

pub returns-in-Refused : goal.returns-in-Refused
returns-in-Refused c = λ p t bytes w. refused_at_end p bytes c.in-Refused.fault t (subst (HasTaken p t bytes) c.in-Refused.is w)

pub end-requires : goal.end-requires
end-requires c = let r = c.requires in record { plan = r.plan; table = r.table; bytes = r.bytes; taken = (subst (HasTaken r.plan r.table r.bytes) c.in-Listing.is r.taken).1; fits = r.fits }

pub returns-in-Listing : goal.returns-in-Listing
returns-in-Listing c = λ p t bytes w. let h = subst (HasTaken p t bytes) c.in-Listing.is w in listing_told (IsVerdictOf p t) (sizes_of_plan p) bytes c.end.result h.0 (c.end.ensures p t bytes h.1)

pub end-requires-in-Exact : goal.end-requires-in-Exact
end-requires-in-Exact c = let r = c.requires in record { plan = r.plan; table = r.table; bytes = r.bytes; taken = (subst (HasTaken r.plan r.table r.bytes) c.in-Exact.is r.taken).1; fits = r.fits }

pub returns-in-Exact : goal.returns-in-Exact
returns-in-Exact c = λ p t bytes w. let h = subst (HasTaken p t bytes) c.in-Exact.is w in exact_told (IsVerdictOf p t) (sizes_of_plan p) bytes c.end-in-Exact.result h.0 (c.end-in-Exact.ensures p t bytes h.1)
