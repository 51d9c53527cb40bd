use Rattle.std.proofs.Common.{inl, inr, rules, sym, ◌∙◌, true≢false}
use Rattle.geom_exact.proofs.RelationLemmas.{only_of_meeting, end_of_first, end_of_second, no_end_of_first, no_end_of_second}
use Rattle.geom_exact.proofs.relation_of_meeting.Goals as goal

pub returns-in-true-true : goal.returns-in-true-true
returns-in-true-true c =
    let m = c.requires.meets in
    (m.0, only_of_meeting _ _ _ _ m.0 m.1, end_of_first _ _ _ _ m.0 m.1 (c.requires.first_end.0 (search rules)), end_of_second _ _ _ _ m.0 m.1 (c.requires.second_end.0 (search rules)))

pub returns-in-true-false : goal.returns-in-true-false
returns-in-true-false c =
    let m = c.requires.meets in
    (m.0, only_of_meeting _ _ _ _ m.0 m.1, inl (end_of_first _ _ _ _ m.0 m.1 (c.requires.first_end.0 (search rules)), no_end_of_second _ _ _ _ m.0 m.1 (λ h. true≢false (sym (c.requires.second_end.1 h) ∙ c.in-true-false.is-1))))

pub returns-in-false-true : goal.returns-in-false-true
returns-in-false-true c =
    let m = c.requires.meets in
    (m.0, only_of_meeting _ _ _ _ m.0 m.1, inr (no_end_of_first _ _ _ _ m.0 m.1 (λ h. true≢false (sym (c.requires.first_end.1 h) ∙ c.in-false-true.is-0)), end_of_second _ _ _ _ m.0 m.1 (c.requires.second_end.0 (search rules))))

pub returns-in-false-false : goal.returns-in-false-false
returns-in-false-false c =
    let m = c.requires.meets in
    (m.0, only_of_meeting _ _ _ _ m.0 m.1, no_end_of_first _ _ _ _ m.0 m.1 (λ h. true≢false (sym (c.requires.first_end.1 h) ∙ c.in-false-false.is-0)), no_end_of_second _ _ _ _ m.0 m.1 (λ h. true≢false (sym (c.requires.second_end.1 h) ∙ c.in-false-false.is-1)))
