-- A root is in the list of the roots of its source.
use Rattle.std.proofs.Common.{◌≡◌, ℕ, Option, Some, None, true, false, Contains, refl, sym, ◌∙◌, arith}
use Rattle.std.proofs.lemmas.Bool.{true≢false}
use Rattle.sight_names.specs.declared.names.Side.{Side}
use Rattle.sight_names.specs.Map.{MapLine, map_of, line_at}
use Rattle.sight_names.specs.Plan.{PlanParts}
use Rattle.sight_names.specs.Sequence.{roots, sides_of, is_root}
use Rattle.portal_walk.specs.Sides.{IsExit}
use Rattle.math_base.proofs.Lists.{contains_kept}
use Rattle.sight_names.proofs.Roots.{there_of, side_in}

pub exit_listed : (p : PlanParts) (a : ℕ) (s : Side) → IsExit p a s → Contains (roots (map_of p) a) s
exit_listed p a s h = go (line_at (map_of p) s.line) refl
  where
    go : (o : Option MapLine) → line_at (map_of p) s.line ≡ o → Contains (roots (map_of p) a) s
    go None e = absurd (none h.is_root)
      where
        none : is_root (map_of p) a s ≡ true → ⊥
        none t = true≢false (sym t ∙ no_root e)
          where
            no_root : line_at (map_of p) s.line ≡ None → is_root (map_of p) a s ≡ false
            no_root e = rw e refl
    go (Some l) e = contains_kept (is_root (map_of p) a) (sides_of (map_of p)) s (side_in 0 s.line (map_of p).lines l s.left s.line (there_of _ l e) (omega arith)) h.is_root
