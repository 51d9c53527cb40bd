-- What was read so far, and what the next read shows.
use Rattle.std.proofs.Common.{◌≡◌, ℕ, ◌-◌, ◌<◌, ◌≤◌, inl, inr, List, [], ◌∷◌, ◌++◌, length, take, drop, Option, Some, None, Ok, Err, refl, sym, ap, subst, ◌∙◌, append_assoc, arith}
use Rattle.std.proofs.lemmas.List.{take-append-drop, length-take, length-append, length-drop, append-nil, drop_at, take_at}
use Rattle.std.proofs.lemmas.Bool.{le-ltb, lt-ltb}
use Rattle.sight_names.specs.declared.faults.ShelfFault.{ShelfFault}
use Rattle.sight_names.specs.declared.faults.ShelfFault.TheVariants as shelf
use Rattle.sight_names.specs.declared.faults.FetchFault.TheVariants as fetch
use Rattle.shelf_io.specs.Shelf.{ReadsFile, Fetches, content_of}

-- the bytes read so far are the file's first
abbrev pub ReadSoFar : Option (List ℕ) → List ℕ → Type 0
ReadSoFar None bytes = length bytes ≡ 0
ReadSoFar (Some file) bytes = (rest : List ℕ) × (file ≡ bytes ++ rest)

nil_is : (bs : List ℕ) → length bs ≡ 0 → bs ≡ []
nil_is [] e = refl
nil_is (b ∷ bs) e = absurd (omega arith)

pub starts : (file : Option (List ℕ)) → ReadSoFar file []
starts None = refl
starts (Some file) = (file, refl)

-- the name is missing
pub absent_is : (limit at : ℕ) (before after : List ℕ) (f : ShelfFault) → f ≡ shelf.Absent → (file : Option (List ℕ)) → ReadsFile file at before after (Err f) → content_of file limit ≡ Err fetch.Absent
absent_is limit at before after f e None h = refl
absent_is limit at before after f e (Some file) h = absurd (subst (λ (x : ShelfFault). ReadsFile (Some file) at before after (Err x)) e h)

-- nothing is left
pub end_is : {V : Type 0} (view : V → List ℕ) (v : V) (limit at k : ℕ) (before after : List ℕ) → at ≡ length (view v) → k ≡ 0 → 0 < length before → at ≤ limit → (file : Option (List ℕ)) → ReadSoFar file (view v) → ReadsFile file at before after (Ok k) → Fetches view (Ok v) (content_of file limit)
end_is view v limit at k before after at-is k-is some fits None so_far h = absurd h
end_is view v limit at k before after at-is k-is some fits (Some file) so_far h =
    let short : length file ≤ length (view v) = elim (h.none.0 k-is) as (λ _. length file ≤ length (view v)) [ inl empty ↦ absurd (omega arith) | inr le ↦ omega arith ] in
    let none_left : length so_far.0 ≡ 0 = omega (arith, ap (λ (bs : List ℕ). length bs) so_far.1, length-append (view v) so_far.0) in
    let same : file ≡ view v = so_far.1 ∙ ap (λ (bs : List ℕ). view v ++ bs) (nil_is so_far.0 none_left) ∙ append-nil (view v) in
    rw (le-ltb limit (length file) (omega (arith, short))) (ap (λ (bs : List ℕ). Ok bs) same)

-- too much is left
pub too_long_is : (limit at k : ℕ) (before after : List ℕ) → limit - at < k → (file : Option (List ℕ)) → ReadsFile file at before after (Ok k) → content_of file limit ≡ Err fetch.TooLong
too_long_is limit at k before after more None h = absurd h
too_long_is limit at k before after more (Some file) h =
    rw (lt-ltb limit (length file) (omega (arith, h.fits, length-drop at file))) refl

-- more is read
pub goes_on : (at k : ℕ) (so_far before after buf : List ℕ) → at ≡ length so_far → buf ≡ after → (file : Option (List ℕ)) → ReadSoFar file so_far → ReadsFile file at before after (Ok k) → ReadSoFar file (so_far ++ take k buf)
goes_on at k so_far before after buf at-is buf-is None p h = absurd h
goes_on at k so_far before after buf at-is buf-is (Some file) p h =
    let left : drop at file ≡ p.0 = ap (λ (bs : List ℕ). drop at bs) p.1 ∙ drop_at so_far p.0 at (sym at-is) in
    let came : take k buf ≡ take k p.0 =
    ap (λ (bs : List ℕ). take k bs) (buf-is ∙ h.bytes) ∙ take_at (take k (drop at file)) (drop k before) k (omega (arith, h.fits, length-take k (drop at file))) ∙ ap (λ (bs : List ℕ). take k bs) left in
    (drop k p.0, p.1 ∙ ap (λ (bs : List ℕ). so_far ++ bs) (sym (take-append-drop k p.0) ∙ ap (λ (bs : List ℕ). bs ++ drop k p.0) (sym came)) ∙ sym (append_assoc so_far (take k buf) (drop k p.0)))
