use Rattle.std.proofs.Common.{ℕ, List, length, sym, subst}
use Rattle.gate_floods.specs.declared.gate_masks.masks.Row.{Row}
use Rattle.exact_checker.specs.Rows.{AreOwnRows}
use Rattle.exact_checker.proofs.joining.joined_rows.Goals as goal

pub join_all-requires-clause-own : goal.join_all-requires-clause-own
join_all-requires-clause-own c = subst (λ (rows : List Row). AreOwnRows (length rows) (length rows) rows) (sym c.as_mut_slice.ensures.value) (subst (λ (n : ℕ). AreOwnRows n n c.in_ok-rows.rows.items) (sym c.in_ok-rows.ensures.len) c.in_ok-rows.ensures)
