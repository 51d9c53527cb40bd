-- What a reader's parts to come are before and behind a step.
use Rattle.std.specs.Prelude.{IfOk, IfErr, OnErr}
use Rattle.std.proofs.Common.{◌≡◌, ℕ, ◌+◌, ◌-◌, ◌<◌, ◌≤◌, ◌⊎◌, true, false, List, [], ◌++◌, length, take, drop, Some, Result, Ok, Err, refl, sym, ap, subst, ◌∙◌, append_assoc, arith}
use Rattle.std.proofs.lemmas.List.{append-nil, take-append-drop, length-append, length-take, nil_from_length}
use Rattle.sight_names.specs.declared.faults.CertFault.{CertFault}
use Rattle.sight_names.specs.declared.faults.CertFault.TheVariants as faults
use Rattle.cert_format.specs.Reading.{FailsCert, GivesCert}
use Rattle.cert_format.proofs.FieldLaws.{bind_ok, ok_is}
use Rattle.cert_format.proofs.Loop.{fails}
use Rattle.certificates.proofs.CertParts.Whole.{longer}
use Rattle.certificates.specs.declared.exact_parts.part.Part.{Part}
use Rattle.certificates.specs.ExactParts.Left.{TreesLeft, ReaderState, IsFirstTreeLeft, parts_left, put_before}
use Rattle.certificates.specs.ExactParts.Steps.{is_done, Ahead, first_at, width_at, without_rest}
use Rattle.certificates.proofs.ExactParts.First.{told, first_tells, first_takes, first_settles, some_width, width_stays, still_cut, end_fault, done_left}

-- a piece that is kept
pub kept_tells : (s new : ReaderState) (piece more : List ℕ) → new.awaited ≡ s.awaited → new.trees ≡ s.trees → new.given ≡ s.given + length piece → new.kept ≡ s.kept ++ piece → parts_left s (piece ++ more) ≡ parts_left new more
unfolding parts_left
kept_tells s new piece more p t q r =
    let n : s.given + length (piece ++ more) ≡ s.given + length piece + length more = omega (arith, length-append piece more) in
    rw (p, t, q, r, n, append_assoc s.kept piece more) refl

-- ---- a record whose rest is there

module _ (s : ReaderState) (front : List ℕ) (settled : IsFirstTreeLeft s.trees.lengths) (wide : width_at s.awaited s.trees (s.kept ++ front) ≡ length (s.kept ++ front)) where
  abbrev whole : List ℕ
  whole = s.kept ++ front

  some : 0 < length whole
  some = subst (λ (n : ℕ). 0 < n) wide (some_width s.awaited s.trees whole)

  -- all of it is taken
  abbrev Step : Type 0
  Step = (Part × Ahead) × List ℕ

  at_first : (more : List ℕ) → parts_left s (front ++ more) ≡ told (s.given + length front + length more) (longer more (first_at s.awaited s.trees (s.given + length front) whole))
  unfolding parts_left
  at_first more =
      let n : s.given + length (front ++ more) ≡ s.given + length front + length more = omega (arith, length-append front more) in
      rw (n, sym (append_assoc s.kept front more)) (first_tells s.awaited s.trees (s.given + length front) whole more settled wide some)

  pub fault_told : (more : List ℕ) (f : CertFault) → first_at s.awaited s.trees (s.given + length front) whole ≡ Err f → parts_left s (front ++ more) ≡ Err f
  fault_told more f e = at_first more ∙ rw e refl

  pub part_told : (new : ReaderState) (more : List ℕ) (x : Step) → first_at s.awaited s.trees (s.given + length front) whole ≡ Ok x → new.awaited ≡ x.0.1.0 → new.trees ≡ x.0.1.1 → new.given ≡ s.given + length front → new.kept ≡ []
      → parts_left s (front ++ more) ≡ put_before (Some x.0.0) (parts_left new more)
  unfolding parts_left
  part_told new more x e p t q r =
      let nothing : x.1 ≡ [] = nil_from_length x.1 (omega (arith, first_takes s.awaited s.trees (s.given + length front) whole x e, wide)) in
      at_first more ∙ rw (e, p, t, q, r, nothing) refl

-- ---- what a call takes of it

-- the answer to the first record, without the bytes behind it
module _ (s new : ReaderState) (front : List ℕ) (total : ℕ) (settled : IsFirstTreeLeft s.trees.lengths) where
  abbrev Answer : Result Part CertFault → Type 0
  Answer r = GivesCert (λ part. (part, (new.awaited, new.trees))) r (without_rest (first_at s.awaited s.trees total (s.kept ++ front)))

  abbrev Made : Type 0
  Made = Part × Ahead

  abbrev made : Part → Made
  made part = (part, (new.awaited, new.trees))

  -- the record that was read
  record IsRead (part : Part) : Type 0 where
    x : Made × List ℕ
    read : first_at s.awaited s.trees total (s.kept ++ front) ≡ Ok x
    same : x.0 ≡ made part

  read_of : (part : Part) → Answer (Ok part) → IsRead part
  read_of part g = let x = bind_ok (first_at s.awaited s.trees total (s.kept ++ front)) (λ x. Ok x.0) (made part) g in record { x = x.0; read = x.1; same = ok_is x.0.0 (made part) x.2 }

  pub still_settled : (r : Result Part CertFault) → Answer r → OnErr r ((new.awaited ≡ s.awaited) × (new.trees ≡ s.trees)) → IsFirstTreeLeft new.trees.lengths
  still_settled (Ok part) g kept =
      let x = read_of part g in
      subst (λ (y : Made). IsFirstTreeLeft y.1.1.lengths) x.same (first_settles s.awaited s.trees total (s.kept ++ front) x.x settled x.read)
  still_settled (Err f) g kept = subst (λ (t : TreesLeft). IsFirstTreeLeft t.lengths) (sym kept.1) settled

  module _ (at : total ≡ s.given + length front) (wide : width_at s.awaited s.trees (s.kept ++ front) ≡ length (s.kept ++ front)) where
    pub taken_told : (r : Result Part CertFault) → Answer r → new.given ≡ s.given + length front → new.kept ≡ [] → IfOk r (λ part. (more : List ℕ) → parts_left s (front ++ more) ≡ put_before (Some part) (parts_left new more))
    taken_told (Ok part) g q k = λ more.
        let x = read_of part g in
        part_told s front settled wide new more x.x (subst (λ (n : ℕ). first_at s.awaited s.trees n (s.kept ++ front) ≡ Ok x.x) at x.read) (sym (ap (λ (y : Made). y.1.0) x.same)) (sym (ap (λ (y : Made). y.1.1) x.same)) q k ∙ ap (λ (y : Made). put_before (Some y.0) (parts_left new more)) x.same
    taken_told (Err f) g q k = tt

    not_taken : (f : CertFault) (read : Result (Made × List ℕ) CertFault) → without_rest read ≡ Err f → read ≡ Err f
    not_taken f (Ok x) e = absurd cc
    not_taken f (Err g) e = cc

    by_fault : (f : CertFault) (more : List ℕ) → FailsCert f (without_rest (first_at s.awaited s.trees total (s.kept ++ front))) → FailsCert f (parts_left s (front ++ more))
    by_fault (faults.Memory _) more h = tt
    by_fault f more h = fails f (parts_left s (front ++ more)) (fault_told s front settled wide more f (subst (λ (n : ℕ). first_at s.awaited s.trees n (s.kept ++ front) ≡ Err f) at (not_taken f (first_at s.awaited s.trees total (s.kept ++ front)) h)))

    pub taken_fault : (r : Result Part CertFault) → Answer r → IfErr r (λ f. (more : List ℕ) → FailsCert f (parts_left s (front ++ more)))
    taken_fault (Ok part) g = tt
    taken_fault (Err f) g = λ more. by_fault f more g

-- the front of a piece is the rest of the record
pub front_wide : (s : ReaderState) (piece front : List ℕ) (width count : ℕ) → length s.kept < width_at s.awaited s.trees s.kept → width ≡ width_at s.awaited s.trees (s.kept ++ piece) → count ≡ length s.kept → width - count ≤ length piece → front ≡ take (width - count) piece
    → width_at s.awaited s.trees (s.kept ++ front) ≡ length (s.kept ++ front)
front_wide s piece front width count lacks wide counted le f =
    let rest = drop (width - count) piece in
    let whole = s.kept ++ front in
    let cut : piece ≡ front ++ rest = rw f (sym (take-append-drop (width - count) piece)) in
    let long : length whole ≡ width = omega (arith, length-append s.kept front, ap length f, length-take (width - count) piece, le, counted, wide, still_cut s.awaited s.trees s.kept piece lacks) in
    let regrouped : s.kept ++ piece ≡ whole ++ rest = ap (λ (t : List ℕ). s.kept ++ t) cut ∙ sym (append_assoc s.kept front rest) in
    let some : 0 < length whole = omega (arith, long, wide, some_width s.awaited s.trees (s.kept ++ piece)) in
    sym (width_stays s.awaited s.trees whole rest some) ∙ ap (width_at s.awaited s.trees) (sym regrouped) ∙ sym wide ∙ sym long

-- ---- at the end

pub end_told : (s : ReaderState) (f : CertFault) → (is_done s.awaited s.trees ≡ false) ⊎ (0 < length s.kept) → length s.kept < width_at s.awaited s.trees s.kept → first_at s.awaited s.trees s.given s.kept ≡ Err f → parts_left s [] ≡ Err f
unfolding parts_left
end_told s f owed cut e =
    let n : s.given + 0 ≡ s.given = omega arith in
    rw (n, append-nil s.kept) (end_fault s.awaited s.trees s.given s.kept f owed cut e)

pub done_told : (s : ReaderState) → is_done s.awaited s.trees ≡ true → IsFirstTreeLeft s.trees.lengths → length s.kept ≡ 0 → parts_left s [] ≡ Ok []
unfolding parts_left
done_told s h is none =
    let n : s.given + 0 ≡ s.given = omega arith in
    rw (n, append-nil s.kept) (done_left s.awaited s.trees s.given s.kept h is none)

pub end_fails : (s : ReaderState) (f : CertFault) → (is_done s.awaited s.trees ≡ false) ⊎ (0 < length s.kept) → length s.kept < width_at s.awaited s.trees s.kept → FailsCert f (first_at s.awaited s.trees s.given s.kept) → FailsCert f (parts_left s [])
end_fails s (faults.Memory _) owed cut h = tt
end_fails s f owed cut h = fails f (parts_left s []) (end_told s f owed cut h)

-- a record that is cut is not read
pub not_read : (s : ReaderState) (x : (Part × Ahead) × List ℕ) → length s.kept < width_at s.awaited s.trees s.kept → first_at s.awaited s.trees s.given s.kept ≡ Ok x → ⊥
not_read s x cut e = omega (arith, first_takes s.awaited s.trees s.given s.kept x e, cut)
