-- A field that is read is the field that was written, and what was written is read again.
use Rattle.std.proofs.Common.{◌≡◌, ◌≢◌, ℕ, ◌+◌, ◌%◌, ◌^◌, ◌<◌, ◌≤◌, Bool, true, false, cond, ltb, not, ◌&&◌, ◌==◌, List, ◌++◌, length, get_or, take, drop, Result, Ok, Err, refl, sym, ap, subst, ◌∙◌, append_assoc, arith, inl, inr, ℤ}
use Rattle.std.specs.Prelude.{FitsSigned}
use Rattle.std.specs.Int.{Width, w16, w32, w64, byte_len, from_le_bytes, to_le_bytes, cast_signed, cast_unsigned}
use Rattle.std.proofs.lemmas.Bool.{cases_lt, ltb-false, ltb-true, le-ltb, lt-ltb, eqb-true, eqb-false, eq-eqb, ne_eqb, and_parts, and_from, not-true, not_from_false}
use Rattle.std.proofs.lemmas.List.{take_at, drop_at, take-append-drop, length-append, length-take, get_or-drop, get_or-take, get_or_past}
use Rattle.std.proofs.lemmas.Nat.{le_bytes_2, le_bytes_4, le_bytes_8, from_le_bytes-to_le_bytes_2, from_le_bytes-to_le_bytes_4, from_le_bytes-to_le_bytes_8}
use Rattle.std.proofs.lemmas.Int.{to_z-of_z}
use Rattle.sight_names.specs.declared.faults.CertFault.{CertFault}
use Rattle.sight_names.specs.declared.faults.CertFault.TheVariants as faults
use Rattle.sight_names.specs.declared.names.Side.{Side}
use Rattle.block_evidence.specs.SightTree.Spelling.{u16}
use Rattle.cert_format.specs.Grammar.{side_code}
use Rattle.cert_format.specs.Reading.{◌>>=◌, begins_at, passed, number_at, signed_at, number_below, number_known, point_apart, side_at}

abbrev pub IsBytes : List ℕ → Type 0
IsBytes bytes = (i : ℕ) → get_or bytes i 0 < 256

pub IsBytes-drop : (n : ℕ) (bytes : List ℕ) → IsBytes bytes → IsBytes (drop n bytes)
IsBytes-drop n bytes h i = rw get_or-drop (h (n + i))

pub IsBytes-take : (n : ℕ) (bytes : List ℕ) → IsBytes bytes → IsBytes (take n bytes)
IsBytes-take n bytes h i =
    elim (cases_lt i n) [
      | inl lt ↦ rw (get_or-take n bytes i 0 lt) (h i)
      | inr le ↦ rw (get_or_past (take n bytes) i 0 (omega (arith, length-take n bytes))) (omega arith)
    ]

-- the value of a step that did not fail
pub bind_ok : {A B : Type 0} (r : Result A CertFault) (f : A → Result B CertFault) (y : B) → (r >>= f) ≡ Ok y → (x : A) × (r ≡ Ok x) × (f x ≡ Ok y)
bind_ok (Ok x) f y e = (x, refl, e)
bind_ok (Err d) f y e = absurd cc

-- a test that was passed
pub passed_ok : {X : Type 0} (b : Bool) (d : CertFault) (x y : X) → passed b d x ≡ Ok y → (b ≡ true) × (x ≡ y)
passed_ok true d x y e = (refl, cc)
passed_ok false d x y e = absurd cc

abbrev done : {A : Type 0} → A → Result A CertFault
done x = Ok x

pub ok_is : {A : Type 0} (x y : A) → done x ≡ done y → x ≡ y
ok_is x y e = cc

-- what a reader took from the front
pub record Takes (bytes text rest : List ℕ) : Type 0 where
  pub parts : bytes ≡ text ++ rest
  pub rest_fits : IsBytes rest

pub Takes-then : (a x b y c : List ℕ) → Takes a x b → Takes b y c → Takes a (x ++ y) c
Takes-then a x b y c p q = record { parts = p.parts ∙ ap (λ (t : List ℕ). x ++ t) q.parts ∙ sym (append_assoc x y c); rest_fits = q.rest_fits }

-- ---- numbers

pub record IsWide (w : Width) (limit : ℕ) : Type 0 where
  pub len : (n : ℕ) → length (to_le_bytes w n) ≡ byte_len w
  pub back : (bytes : List ℕ) → length bytes ≡ byte_len w → IsBytes bytes → to_le_bytes w (from_le_bytes w bytes) ≡ bytes
  pub again : (n : ℕ) → n < limit → from_le_bytes w (to_le_bytes w n) ≡ n
  pub below : (bytes : List ℕ) → IsBytes bytes → from_le_bytes w bytes < limit

pub wide16 : IsWide w16 (2 ^ 16)
wide16 = record {
  len = λ n. refl;
  back = λ bytes len fits. le_bytes_2 bytes _ len fits refl;
  again = λ n lt. from_le_bytes-to_le_bytes_2 n lt;
  below = λ bytes fits. omega (arith, fits 0, fits 1);
}

pub wide32 : IsWide w32 (2 ^ 32)
wide32 = record {
  len = λ n. refl;
  back = λ bytes len fits. le_bytes_4 bytes _ len fits refl;
  again = λ n lt. from_le_bytes-to_le_bytes_4 n lt;
  below = λ bytes fits. omega (arith, fits 0, fits 1, fits 2, fits 3);
}

pub wide64 : IsWide w64 (2 ^ 64)
wide64 = record {
  len = λ n. refl;
  back = λ bytes len fits. le_bytes_8 bytes _ len fits refl;
  again = λ n lt. from_le_bytes-to_le_bytes_8 n lt;
  below = λ bytes fits. omega (arith, fits 0, fits 1, fits 2, fits 3, fits 4, fits 5, fits 6, fits 7);
}

pub number_takes : (w : Width) (limit : ℕ) (wide : IsWide w limit) (total : ℕ) (bytes : List ℕ) (x : ℕ × List ℕ) → IsBytes bytes → number_at w total bytes ≡ Ok x → Takes bytes (to_le_bytes w x.0) x.1 × (x.0 < limit)
number_takes w limit wide total bytes x fits e =
    let g = passed_ok (not (ltb (length bytes) (byte_len w))) (faults.Short (begins_at total bytes)) (from_le_bytes w (take (byte_len w) bytes), drop (byte_len w) bytes) x e in
    let long : byte_len w ≤ length bytes = ltb-false _ _ (not-true _ g.0) in
    let front : to_le_bytes w (from_le_bytes w (take (byte_len w) bytes)) ≡ take (byte_len w) bytes = wide.back (take (byte_len w) bytes) (omega (arith, length-take (byte_len w) bytes)) (IsBytes-take (byte_len w) bytes fits) in
    subst (λ (y : ℕ × List ℕ). Takes bytes (to_le_bytes w y.0) y.1 × (y.0 < limit)) g.1
    (record { parts = rw front (sym (take-append-drop (byte_len w) bytes)); rest_fits = IsBytes-drop (byte_len w) bytes fits }, wide.below (take (byte_len w) bytes) (IsBytes-take (byte_len w) bytes fits))

pub number_again : (w : Width) (limit : ℕ) (wide : IsWide w limit) (total n : ℕ) (rest : List ℕ) → n < limit → number_at w total (to_le_bytes w n ++ rest) ≡ Ok (n, rest)
number_again w limit wide total n rest lt =
    let len = wide.len n in
    let long : ltb (length (to_le_bytes w n ++ rest)) (byte_len w) ≡ false = le-ltb _ _ (omega (arith, length-append (to_le_bytes w n) rest)) in
    rw (long, take_at (to_le_bytes w n) rest (byte_len w) len, drop_at (to_le_bytes w n) rest (byte_len w) len, wide.again n lt) refl

-- a number of two bytes that passes a test
tested_takes : (t : ℕ → Bool) (d : CertFault) (total : ℕ) (bytes : List ℕ) (x : ℕ × List ℕ) → IsBytes bytes → (number_at w16 total bytes >>= λ n. passed (t n.0) d n) ≡ Ok x → Takes bytes (u16 x.0) x.1 × (t x.0 ≡ true)
tested_takes t d total bytes x fits e =
    let a = bind_ok (number_at w16 total bytes) (λ n. passed (t n.0) d n) x e in
    let g = passed_ok (t a.0.0) d a.0 x a.2 in
    subst (λ (y : ℕ × List ℕ). Takes bytes (u16 y.0) y.1 × (t y.0 ≡ true)) g.1 ((number_takes w16 (2 ^ 16) wide16 total bytes a.0 fits a.1).0, g.0)

tested_again : (t : ℕ → Bool) (d : CertFault) (total n : ℕ) (rest : List ℕ) → n < 2 ^ 16 → t n ≡ true → (number_at w16 total (u16 n ++ rest) >>= λ n. passed (t n.0) d n) ≡ Ok (n, rest)
tested_again t d total n rest lt h = rw (number_again w16 (2 ^ 16) wide16 total n rest lt, h) refl

pub below_takes : (limit total : ℕ) (bytes : List ℕ) (x : ℕ × List ℕ) → IsBytes bytes → number_below limit total bytes ≡ Ok x → Takes bytes (u16 x.0) x.1 × (x.0 < limit)
unfolding number_below
below_takes limit total bytes x fits e =
    let a = tested_takes (λ n. ltb n limit) (faults.OutOfRange (begins_at total bytes)) total bytes x fits e in
    (a.0, ltb-true _ _ a.1)

pub below_again : (limit total n : ℕ) (rest : List ℕ) → limit < 2 ^ 16 → n < limit → number_below limit total (u16 n ++ rest) ≡ Ok (n, rest)
unfolding number_below
below_again limit total n rest small lt = tested_again (λ k. ltb k limit) _ total n rest (omega arith) (lt-ltb _ _ lt)

pub known_takes : (known total : ℕ) (bytes rest : List ℕ) → IsBytes bytes → number_known known total bytes ≡ Ok rest → Takes bytes (u16 known) rest
unfolding number_known
known_takes known total bytes rest fits e =
    let a = bind_ok (number_at w16 total bytes) (λ n. passed (n.0 == known) (faults.OutOfRange (begins_at total bytes)) n.1) rest e in
    let g = passed_ok (a.0.0 == known) (faults.OutOfRange (begins_at total bytes)) a.0.1 rest a.2 in
    let t = number_takes w16 (2 ^ 16) wide16 total bytes a.0 fits a.1 in
    subst (λ (r : List ℕ). Takes bytes (u16 known) r) g.1 (subst (λ (k : ℕ). Takes bytes (u16 k) a.0.1) (eqb-true _ _ g.0) t.0)

pub known_again : (known total : ℕ) (rest : List ℕ) → known < 2 ^ 16 → number_known known total (u16 known ++ rest) ≡ Ok rest
unfolding number_known
known_again known total rest lt = rw (number_again w16 (2 ^ 16) wide16 total known rest lt, eq-eqb known known refl) refl

pub apart_takes : (points p q total : ℕ) (bytes : List ℕ) (x : ℕ × List ℕ) → IsBytes bytes → point_apart points p q total bytes ≡ Ok x → Takes bytes (u16 x.0) x.1 × (x.0 < points) × (x.0 ≢ p) × (x.0 ≢ q)
unfolding point_apart
apart_takes points p q total bytes x fits e =
    let a = tested_takes (λ n. ltb n points && not (n == p) && not (n == q)) (faults.OutOfRange (begins_at total bytes)) total bytes x fits e in
    let b = and_parts (ltb x.0 points && not (x.0 == p)) (not (x.0 == q)) a.1 in
    let c = and_parts (ltb x.0 points) (not (x.0 == p)) b.0 in
    (a.0, ltb-true _ _ c.0, eqb-false _ _ (not-true _ c.1), eqb-false _ _ (not-true _ b.1))

pub apart_again : (points p q total n : ℕ) (rest : List ℕ) → points < 2 ^ 16 → n < points → n ≢ p → n ≢ q → point_apart points p q total (u16 n ++ rest) ≡ Ok (n, rest)
unfolding point_apart
apart_again points p q total n rest small lt np nq =
    tested_again (λ k. ltb k points && not (k == p) && not (k == q)) _ total n rest (omega arith)
    (and_from _ _ (and_from _ _ (lt-ltb _ _ lt) (not_from_false _ (ne_eqb _ _ np))) (not_from_false _ (ne_eqb _ _ nq)))

-- ---- signed numbers

pub signed_takes : (w : Width) (limit : ℕ) (wide : IsWide w limit) → ((n : ℕ) → n < limit → FitsSigned w (cast_signed w n)) → ((n : ℕ) → n < limit → cast_unsigned w (cast_signed w n) ≡ n)
    → (total : ℕ) (bytes : List ℕ) (x : ℤ × List ℕ) → IsBytes bytes → signed_at w total bytes ≡ Ok x → Takes bytes (to_le_bytes w (cast_unsigned w x.0)) x.1 × FitsSigned w x.0
unfolding signed_at
signed_takes w limit wide fits_signed same total bytes x fits e =
    let a = bind_ok (number_at w total bytes) (λ n. Ok (cast_signed w n.0, n.1)) x e in
    let t = number_takes w limit wide total bytes a.0 fits a.1 in
    let made : ℤ × List ℕ = (cast_signed w a.0.0, a.0.1) in
    subst (λ (y : ℤ × List ℕ). Takes bytes (to_le_bytes w (cast_unsigned w y.0)) y.1 × FitsSigned w y.0) (ok_is made x a.2)
    (subst (λ (k : ℕ). Takes bytes (to_le_bytes w k) a.0.1) (sym (same a.0.0 t.1)) t.0, fits_signed a.0.0 t.1)

pub signed_again : (w : Width) (limit : ℕ) (wide : IsWide w limit) (total : ℕ) (z : ℤ) (rest : List ℕ) → cast_unsigned w z < limit → FitsSigned w z → signed_at w total (to_le_bytes w (cast_unsigned w z) ++ rest) ≡ Ok (z, rest)
unfolding signed_at
signed_again w limit wide total z rest lt fits = rw (number_again w limit wide total (cast_unsigned w z) rest lt) (ap (λ (y : ℤ). done (y, rest)) (to_z-of_z w z fits))

-- ---- sides

pub side_takes : (lines total : ℕ) (bytes : List ℕ) (x : Side × List ℕ) → IsBytes bytes → side_at lines total bytes ≡ Ok x → Takes bytes (u16 (side_code x.0)) x.1 × ((x.0.line < lines) × (x.0.line < 2 ^ 15))
unfolding side_at
side_takes lines total bytes x fits e =
    let made : ℕ → Side = λ n. record { line = n % 32768; left = ltb 32767 n } in
    let a = bind_ok (number_at w16 total bytes) (λ n. passed (ltb (n.0 % 32768) lines) (faults.OutOfRange (begins_at total bytes)) (made n.0, n.1)) x e in
    let g = passed_ok (ltb (a.0.0 % 32768) lines) (faults.OutOfRange (begins_at total bytes)) (made a.0.0, a.0.1) x a.2 in
    let t = number_takes w16 (2 ^ 16) wide16 total bytes a.0 fits a.1 in
    subst (λ (y : Side × List ℕ). Takes bytes (u16 (side_code y.0)) y.1 × ((y.0.line < lines) × (y.0.line < 2 ^ 15))) g.1
    (subst (λ (k : ℕ). Takes bytes (u16 k) a.0.1) (sym (number_is a.0.0 t.1)) t.0, (ltb-true _ _ g.0, omega arith))
  where
    number_is : (n : ℕ) → n < 2 ^ 16 → cond (ltb 32767 n) (n % 32768 + 32768) (n % 32768) ≡ n
    number_is n lt = elim (cases_lt 32767 n) [ inl h ↦ rw (lt-ltb _ _ h) (omega arith) | inr h ↦ rw (le-ltb _ _ h) (omega arith) ]

pub side_again : (lines total : ℕ) (s : Side) (rest : List ℕ) → s.line < lines → s.line < 2 ^ 15 → side_at lines total (u16 (side_code s) ++ rest) ≡ Ok (s, rest)
unfolding side_at
side_again lines total s rest lt small =
    let fits : side_code s < 2 ^ 16 = fits_two s.left s.line small in
    let line_is : side_code s % 32768 ≡ s.line = line_back s.left s.line small in
    let left_is : ltb 32767 (side_code s) ≡ s.left = left_back s.left s.line small in
    rw (number_again w16 (2 ^ 16) wide16 total (side_code s) rest fits, line_is, left_is, lt-ltb _ _ lt) refl
  where
    fits_two : (left : Bool) (line : ℕ) → line < 2 ^ 15 → cond left (line + 32768) line < 2 ^ 16
    fits_two true line h = omega arith
    fits_two false line h = omega arith

    line_back : (left : Bool) (line : ℕ) → line < 2 ^ 15 → cond left (line + 32768) line % 32768 ≡ line
    line_back true line h = omega arith
    line_back false line h = omega arith

    left_back : (left : Bool) (line : ℕ) → line < 2 ^ 15 → ltb 32767 (cond left (line + 32768) line) ≡ left
    left_back true line h = lt-ltb _ _ (omega arith)
    left_back false line h = le-ltb _ _ (omega arith)
