use Rattle.exact_checker.proofs.masking.mask_behind.Goals as goal

pub returns : goal.returns
returns c = rw c.in_ok-edge.was c.behind.ensures
