-- What is told of portals: a line that splits their ends, or stuck ends that show that none does.
use Rattle.std.specs.Prelude.{◌≡◌, ◌≤◌, ◌^◌, List, [], ◌∷◌, ◌++◌, ℤ, Result, Ok, Err, nat_abs}
use Rattle.sight_names.specs.declared.names.Memory.{Memory}
use Rattle.sight_names.specs.Splitting.{EndPoints, IsSplittable}
use Rattle.sight_names.specs.declared.names.EndPair.{EndPair}
use Rattle.block_evidence.specs.declared.Evidence.{Evidence}
use Rattle.block_evidence.specs.Stuck.{BlocksEnds, IsEvidenceOf}
use Rattle.stab_hull.specs.declared.Passed.{Passed}
use Rattle.stab_hull.specs.declared.Passed.TheVariants.{Open, Stuck}

-- the line has the range of rays
pub record IsLineInRange (a b c : ℤ) : Type 0 where
  pub a_in : nat_abs a ≤ 2 ^ 30
  pub b_in : nat_abs b ≤ 2 ^ 30
  pub c_in : nat_abs c ≤ 2 ^ 57

-- no line splits the ends, as two to four of them show
pub record IsBarredBy (es : List EndPoints) (e : Evidence) : Type 0 where
  pub no_line : ¬ IsSplittable es
  pub blocks : BlocksEnds es e
  pub pairs : List EndPair
  pub evidence : IsEvidenceOf pairs e

-- the list has the portal where a line splits its ends and all others; else it is as it was, and stuck ends show that none does
abbrev pub IsPortalPassed : List EndPoints → EndPoints → List EndPoints → Result Passed Memory → Type 0
IsPortalPassed old e new (Ok Open) = (new ≡ old ++ e ∷ []) × IsSplittable (old ++ e ∷ [])
IsPortalPassed old e new (Ok (Stuck evidence)) = (new ≡ old) × IsBarredBy (old ++ e ∷ []) evidence
IsPortalPassed old e new (Err r) = new ≡ old
