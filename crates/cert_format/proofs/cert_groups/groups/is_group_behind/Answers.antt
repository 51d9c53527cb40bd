use Rattle.std.proofs.Common.{ℕ, List, Option, ap, ◌∙◌}
use Rattle.std.specs.Ordering.{nat_cmp, is_lt}
use Rattle.std.specs.Cmp.Lexicographic.{slice_cmp}
use Rattle.cert_format.specs.CertGroups.Reading.{group_after}
use Rattle.cert_format.proofs.cert_groups.groups.is_group_behind.Goals as goal

pub returns-in-Some : goal.returns-in-Some
returns-in-Some c =
    c.is_lt.ensures ∙ ap is_lt c.cmp.ensures ∙ ap (λ (xs : List ℕ). is_lt (slice_cmp nat_cmp xs c.args.group.now)) c.as_slice.ensures
    ∙ ap (λ (o : Option (List ℕ)). group_after o c.args.group.now) c.in-Some.ensures.value
