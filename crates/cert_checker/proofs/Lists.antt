-- The list and the rays of a certificate in order.
use Rattle.std.proofs.Common.{◌≡◌, ℕ, zero, suc, List, [], ◌∷◌, Some, sym, subst}
use Rattle.std.specs.List.{slice_get, AllByRecursion}
use Rattle.std.proofs.lemmas.Option.{none-some, same_Some}
use Rattle.sight_names.specs.declared.names.Pair.{Pair}
use Rattle.sight_names.specs.declared.names.PairRay.{PairRay}
use Rattle.sight_names.specs.Order.{Ascends, PairBefore}
use Rattle.cert_format.specs.Parts.{CertParts}
use Rattle.cert_format.specs.Grammar.{IsPairInRange, IsRayInRange, IsOneInOrder}
use Rattle.cert_checker.specs.Pairs.{AreFitLists, IsPairWithin}

pub each_at : {X : Type 0} (P : X → Type 0) (xs : List X) (i : ℕ) (x : X) → AllByRecursion P xs → slice_get xs i ≡ Some x → P x
each_at P [] i x all e = absurd (none-some x e)
each_at P (y ∷ xs) zero x all e = subst P (same_Some y x e) all.0
each_at P (y ∷ xs) (suc i) x all e = each_at P xs i x all.1 e

pub fit_lists : (c : CertParts) (n : ℕ) (pairs : List Pair) (rays : List PairRay) → IsOneInOrder c → c.sizes.sectors ≡ n → pairs ≡ c.listed → rays ≡ c.rays → AreFitLists n n pairs rays
fit_lists c n pairs rays order size e f = record {
  listed = record {
    ascend = subst (Ascends PairBefore) (sym e) order.listed_ascend;
    within = λ i p at. within p (each_at (IsPairInRange c.sizes) c.listed i p order.listed (subst (λ (ps : List Pair). slice_get ps i ≡ Some p) e at));
  };
  rays_within = λ i r at. within r.pair (each_at (IsRayInRange c.sizes) c.rays i r order.rays (subst (λ (rs : List PairRay). slice_get rs i ≡ Some r) f at)).0;
}
  where
    within : (p : Pair) → IsPairInRange c.sizes p → IsPairWithin n p
    within p h = subst (λ (k : ℕ). IsPairWithin k p) size h
