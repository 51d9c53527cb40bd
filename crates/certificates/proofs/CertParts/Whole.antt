-- A record that is there whole is read the same whatever bytes come behind it, and takes as many bytes as it is wide.
use Rattle.std.proofs.Common.{◌≡◌, ℕ, ◌+◌, ◌≤◌, Bool, true, false, ltb, not, List, ◌++◌, length, take, drop, Result, Ok, Err, refl, ap, subst, ◌∙◌, arith}
use Rattle.std.specs.Int.{Width, byte_len, from_le_bytes}
use Rattle.std.proofs.lemmas.Bool.{ltb-false, le-ltb, not-true}
use Rattle.std.proofs.lemmas.List.{length-append, length-drop, take-append-le, drop-append-le}
use Rattle.sight_names.specs.declared.faults.CertFault.{CertFault}
use Rattle.sight_names.specs.declared.faults.CertFault.TheVariants as faults
use Rattle.cert_format.specs.Reading.{◌>>=◌, begins_at, passed, number_at}
use Rattle.cert_format.proofs.FieldLaws.{bind_ok, passed_ok, ok_is}
use Rattle.cert_format.proofs.CertGroups.MoreBytes.{place_stays}

-- what is read, when more bytes stand behind
abbrev pub longer : {X : Type 0} → List ℕ → Result (X × List ℕ) CertFault → Result (X × List ℕ) CertFault
longer more (Ok x) = Ok (x.0, x.1 ++ more)
longer more (Err f) = Err f

-- a value, and all bytes behind it
abbrev pub value : {X : Type 0} → X → List ℕ → Result (X × List ℕ) CertFault
value v bytes = Ok (v, bytes)

-- the same where the test holds
abbrev pub tested : {X : Type 0} → Bool → CertFault → X → List ℕ → Result (X × List ℕ) CertFault
tested b fault v bytes = passed b fault (v, bytes)

-- A reader gets the place where its record begins, how many bytes there are in all, and those that are left.
pub record IsWhole {X : Type 0} (p : ℕ → ℕ → List ℕ → Result (X × List ℕ) CertFault) (width : ℕ) : Type 0 where
  pub grows : (start total : ℕ) (bytes more : List ℕ) → width ≤ length bytes → p start (total + length more) (bytes ++ more) ≡ longer more (p start total bytes)
  pub takes : (start total : ℕ) (bytes : List ℕ) (x : X × List ℕ) → p start total bytes ≡ Ok x → length bytes ≡ width + length x.1

-- ---- one reader behind the other

module _ {X Y : Type 0} (p : ℕ → ℕ → List ℕ → Result (X × List ℕ) CertFault) (q : X → ℕ → ℕ → List ℕ → Result (Y × List ℕ) CertFault) (w v : ℕ) (first : IsWhole p w) (second : (x : X) → IsWhole (q x) v) where
  both_grow : (start total : ℕ) (bytes more : List ℕ) (r : Result (X × List ℕ) CertFault) → p start total bytes ≡ r → w + v ≤ length bytes
      → (longer more r >>= λ x. q x.0 start (total + length more) x.1) ≡ longer more (r >>= λ x. q x.0 start total x.1)
  both_grow start total bytes more (Ok x) e le = (second x.0).grows start total x.1 more (omega (arith, first.takes start total bytes x e, le))
  both_grow start total bytes more (Err f) e le = refl

  pub whole_then : IsWhole (λ start total bytes. p start total bytes >>= λ x. q x.0 start total x.1) (w + v)
  whole_then = record {
    grows = λ start total bytes more le.
        ap (λ (r : Result (X × List ℕ) CertFault). r >>= λ x. q x.0 start (total + length more) x.1) (first.grows start total bytes more (omega (arith, le)))
        ∙ both_grow start total bytes more (p start total bytes) refl le;
    takes = λ start total bytes y e.
        let a = bind_ok (p start total bytes) (λ x. q x.0 start total x.1) y e in
        omega (arith, first.takes start total bytes a.0 a.1, (second a.0.0).takes start total a.0.1 y a.2);
  }

-- nothing is read any more
pub whole_value : {X : Type 0} (v : X) → IsWhole (λ start total bytes. value v bytes) 0
whole_value {X} v = record {
  grows = λ start total bytes more le. refl;
  takes = λ start total bytes x e. let made : X × List ℕ = (v, bytes) in omega (arith, ap (λ (y : X × List ℕ). length y.1) (ok_is made x e));
}

-- a test, whose fault is told at the beginning of the record
tested_grows : {X : Type 0} (b : Bool) (f : CertFault) (v : X) (bytes more : List ℕ) → tested b f v (bytes ++ more) ≡ longer more (tested b f v bytes)
tested_grows true f v bytes more = refl
tested_grows false f v bytes more = refl

pub whole_test : {X : Type 0} (b : Bool) (fault : ℕ → CertFault) (v : X) → IsWhole (λ start total bytes. tested b (fault start) v bytes) 0
whole_test {X} b fault v = record {
  grows = λ start total bytes more le. tested_grows b (fault start) v bytes more;
  takes = λ start total bytes x e. let made : X × List ℕ = (v, bytes) in omega (arith, ap (λ (y : X × List ℕ). length y.1) (passed_ok b (fault start) made x e).1);
}

-- the record begins where the bytes that are left do
pub from_here : {X : Type 0} (p : ℕ → ℕ → List ℕ → Result (X × List ℕ) CertFault) (w : ℕ) → IsWhole p w → IsWhole (λ start total bytes. p (begins_at total bytes) total bytes) w
from_here p w whole = record {
  grows = λ start total bytes more le.
      ap (λ (n : ℕ). p n (total + length more) (bytes ++ more)) (place_stays total bytes more) ∙ whole.grows (begins_at total bytes) total bytes more le;
  takes = λ start total bytes x e. whole.takes (begins_at total bytes) total bytes x e;
}

-- ---- a number

pub whole_number : (w : Width) → IsWhole (λ start total bytes. number_at w total bytes) (byte_len w)
whole_number w = record {
  grows = λ start total bytes more le.
      let long : ltb (length bytes) (byte_len w) ≡ false = le-ltb _ _ le in
      let still_long : ltb (length (bytes ++ more)) (byte_len w) ≡ false = le-ltb _ _ (omega (arith, le, length-append bytes more)) in
      rw (long, still_long, take-append-le (byte_len w) bytes more le, drop-append-le (byte_len w) bytes more le) refl;
  takes = λ start total bytes x e.
      let g = passed_ok (not (ltb (length bytes) (byte_len w))) (faults.Short (begins_at total bytes)) (from_le_bytes w (take (byte_len w) bytes), drop (byte_len w) bytes) x e in
      let long : byte_len w ≤ length bytes = ltb-false _ _ (not-true _ g.0) in
      subst (λ (y : ℕ × List ℕ). length bytes ≡ byte_len w + length y.1) g.1 (omega (arith, long, length-drop (byte_len w) bytes));
}

-- a number that passes a test, and what is made of it
pub whole_field : {X : Type 0} (w : Width) (test : ℕ → Bool) (fault : ℕ → CertFault) (made : ℕ → X)
    → IsWhole (λ start total bytes. number_at w total bytes >>= λ n. tested (test n.0) (fault (begins_at total bytes)) (made n.0) n.1) (byte_len w + 0)
whole_field w test fault made =
    from_here (λ start total bytes. number_at w total bytes >>= λ n. tested (test n.0) (fault start) (made n.0) n.1) (byte_len w + 0)
    (whole_then (λ start total bytes. number_at w total bytes) (λ n start total bytes. tested (test n) (fault start) (made n) bytes) (byte_len w) 0 (whole_number w) (λ n. whole_test (test n) fault (made n)))
