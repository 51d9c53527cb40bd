-- What stands under a name after several changes.
use Rattle.std.proofs.Common.{◌≡◌, ℕ, ◌-◌, ◌≤◌, inl, inr, Bool, true, false, cond, List, [], ◌++◌, length, take, drop, Option, Some, None, refl, sym, ap, ◌∙◌, append_assoc, arith}
use Rattle.std.proofs.Math.Path.{fun_ext}
use Rattle.std.proofs.Math.Seq.{take-append_seam}
use Rattle.std.proofs.lemmas.List.{take-append-drop, length-take, length-append, length-drop}
use Rattle.std.proofs.lemmas.List.Folds.{drop_split}
use Rattle.std.proofs.lemmas.Slice.Eq.{bytes_eq-Decides}
use Rattle.std.specs.Str.{bytes_eq}
use Rattle.std.specs.Option.{option_map, unwrap_or}
use Rattle.std.specs.List.{slice_range}
use Rattle.shelf_io.specs.Shelf.{Files, put, append_to, bytes_under, MayHoldFront, MayHaveFront}

pub bytes_eq-refl : (n : List ℕ) → bytes_eq n n ≡ true
bytes_eq-refl n = (bytes_eq-Decides n n).1 refl

pub bytes_under-put : (files : Files) (n a : List ℕ) → bytes_under (put files n a) n ≡ a
bytes_under-put files n a = ap (λ (b : Bool). unwrap_or (cond b (Some a) (files n)) []) (bytes_eq-refl n)

twice : (b : Bool) (x y : Option (List ℕ)) (z : Option (List ℕ)) → cond b x (cond b y z) ≡ cond b x z
twice true x y z = refl
twice false x y z = refl

pub put-put : (files : Files) (n a b : List ℕ) → put (put files n a) n b ≡ put files n b
put-put files n a b = fun_ext (λ q. twice (bytes_eq n q) (Some b) (Some a) (files q))

pub append_to-put : (files : Files) (n a b : List ℕ) → append_to (put files n a) n b ≡ put files n (a ++ b)
append_to-put files n a b = ap (λ (u : List ℕ). put (put files n a) n (u ++ b)) (bytes_under-put files n a) ∙ put-put files n a (a ++ b)

pub append_more : (old mid new : Option Files) (n a b : List ℕ) → mid ≡ option_map (λ files. put files n a) old → new ≡ option_map (λ files. append_to files n b) mid → new ≡ option_map (λ files. put files n (a ++ b)) old
append_more None mid new n a b p q = q ∙ ap (λ (m : Option Files). option_map (λ files. append_to files n b) m) p
append_more (Some files) mid new n a b p q = q ∙ ap (λ (m : Option Files). option_map (λ files. append_to files n b) m) p ∙ ap (λ (f : Files). Some f) (append_to-put files n a b)

-- a front of the bytes is the first so many of them
pub front_is : (bytes front rest : List ℕ) → bytes ≡ front ++ rest → front ≡ take (length front) bytes
front_is bytes front rest e = sym (take-append_seam front rest) ∙ ap (λ (bs : List ℕ). take (length front) bs) (sym e)

-- a front of a piece, behind all that stands before the piece
pub front_of_piece : (bytes : List ℕ) (at end k : ℕ) → at ≤ end → (n : ℕ) × (take at bytes ++ take k (slice_range bytes at end) ≡ take n bytes)
front_of_piece bytes at end k le =
    let piece : List ℕ = slice_range bytes at end in
    let rest : List ℕ = drop k piece ++ drop end bytes in
    let whole : bytes ≡ (take at bytes ++ take k piece) ++ rest =
    sym (take-append-drop at bytes)
    ∙ ap (λ (t : List ℕ). take at bytes ++ t) (drop_split bytes at end le ∙ ap (λ (p : List ℕ). p ++ drop end bytes) (sym (take-append-drop k piece)) ∙ append_assoc (take k piece) (drop k piece) (drop end bytes))
    ∙ sym (append_assoc (take at bytes) (take k piece) rest) in
    (length (take at bytes ++ take k piece), front_is bytes (take at bytes ++ take k piece) rest whole)

-- a whole piece
pub whole_piece : (bytes : List ℕ) (at end : ℕ) → at ≤ end → end ≤ length bytes → take at bytes ++ slice_range bytes at end ≡ take end bytes
whole_piece bytes at end le fits =
    let len : length (take at bytes ++ slice_range bytes at end) ≡ end = omega (arith, length-append (take at bytes) (slice_range bytes at end), length-take at bytes, length-take (end - at) (drop at bytes), length-drop at bytes) in
    let whole : bytes ≡ (take at bytes ++ slice_range bytes at end) ++ drop end bytes =
    sym (take-append-drop at bytes) ∙ ap (λ (t : List ℕ). take at bytes ++ t) (drop_split bytes at end le) ∙ sym (append_assoc (take at bytes) (slice_range bytes at end) (drop end bytes)) in
    front_is bytes (take at bytes ++ slice_range bytes at end) (drop end bytes) whole ∙ ap (λ (n : ℕ). take n bytes) len

-- a piece that failed, after a front that was stored
pub failed_piece : (old mid new : Option Files) (n bytes : List ℕ) (at end : ℕ) → at ≤ end → mid ≡ option_map (λ files. put files n (take at bytes)) old → MayHaveFront mid new n (slice_range bytes at end) → MayHoldFront old new n bytes
failed_piece old mid new n bytes at end le p (inl same) = inr (at, same ∙ p)
failed_piece old mid new n bytes at end le p (inr part) =
    let f = front_of_piece bytes at end part.0 le in
    inr (f.0, append_more old mid new n (take at bytes) (take part.0 (slice_range bytes at end)) p part.1 ∙ ap (λ (front : List ℕ). option_map (λ files. put files n front) old) f.1)

-- a whole piece, after a front that was stored
pub stored_piece : (old mid new : Option Files) (n bytes : List ℕ) (at end : ℕ) → at ≤ end → end ≤ length bytes → mid ≡ option_map (λ files. put files n (take at bytes)) old → new ≡ option_map (λ files. append_to files n (slice_range bytes at end)) mid → new ≡ option_map (λ files. put files n (take end bytes)) old
stored_piece old mid new n bytes at end le fits p q =
    append_more old mid new n (take at bytes) (slice_range bytes at end) p q ∙ ap (λ (front : List ℕ). option_map (λ files. put files n front) old) (whole_piece bytes at end le fits)
