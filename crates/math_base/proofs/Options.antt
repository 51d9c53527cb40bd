-- Values that may be missing.
use Rattle.std.proofs.Common.{◌≡◌, Option, Some, None, false, refl}
use Rattle.std.specs.Option.{is_some}
use Rattle.std.specs.Prelude.{IsSome}
use Rattle.std.proofs.lemmas.Option.{none-some, same_Some}

pub none_is_not_some : {A : Type 0} (x : A) → ◌≡◌ {A = Option A} None (Some x) → ⊥
none_is_not_some x e = none-some x e

pub some_is_not_none : {A : Type 0} (x : A) → ◌≡◌ {A = Option A} (Some x) None → ⊥
some_is_not_none x e = cc

pub some_is_same : {A : Type 0} (x y : A) → Some x ≡ Some y → x ≡ y
some_is_same x y e = same_Some x y e

pub one_value : {A : Type 0} (o : Option A) (x y : A) → o ≡ Some x → o ≡ Some y → x ≡ y
one_value o x y e f = cc

pub none_where_not_some : {A : Type 0} (o : Option A) → false ≡ is_some o → o ≡ None
none_where_not_some None e = refl
none_where_not_some (Some x) e = absurd (cc)

pub is_there : {A : Type 0} (o : Option A) (x : A) → o ≡ Some x → IsSome o
is_there None x e = absurd (none-some x e)
is_there (Some y) x e = refl

pub is_not_there : {A : Type 0} (o : Option A) → o ≡ None → IsSome o → ⊥
is_not_there None e h = cc
is_not_there (Some y) e h = cc
