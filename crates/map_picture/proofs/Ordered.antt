-- The lines of a picture: which there are, and in what order.
use Rattle.std.proofs.Common.{◌≡◌, ◌∙◌, ℕ, zero, suc, ◌+◌, ◌<◌, ◌≤◌, ◌⊎◌, inl, inr, ⊎_elim, ◌↔◌, List, [], ◌∷◌, ◌++◌, Option, Some, None, Bool, true, false, cond, slice_get, option_and_then, refl, sym, ap, subst, arith}
use Rattle.std.specs.List.{AllByRecursion}
use Rattle.std.proofs.lemmas.Bool.{true≢false}
use Rattle.std.proofs.lemmas.Option.{none-some, same_Some}
use Rattle.math_base.proofs.Lists.{all_join, all_so, all_at}
use Rattle.math_base.proofs.Numbers.{below_same_or_above}
use Rattle.sight_names.specs.Map.{Map, MapLine, line_at}
use Rattle.map_picture.specs.declared.sheet.Subject.{Subject}
use Rattle.map_picture.specs.Picture.{NamedParts, Element, Head, Title, Style, Paper, Scale, Line, Foot, entry_if, line_elements, line_if, lines_from, picture_of, sheet_of}
use Rattle.map_picture.specs.Laws.{Has, HasNoLine, IsLineBefore, ShowsLines}
use Rattle.map_picture.proofs.Pieces.{has_before, has_behind}

same_line : (i n : ℕ) (l o : MapLine) → Line i l ≡ Line n o → (i ≡ n) × (l ≡ o)
same_line i n l o e = (number i n l o e, line i n l o e)
  where
    number : (i n : ℕ) (l o : MapLine) → Line i l ≡ Line n o → i ≡ n
    number i n l o e = cc

    line : (i n : ℕ) (l o : MapLine) → Line i l ≡ Line n o → l ≡ o
    line i n l o e = cc

-- ---- order

-- what comes first comes before, if both are lines
abbrev Before : Element → Element → Type 0
Before e f = (i n : ℕ) (l o : MapLine) → e ≡ Line i l → f ≡ Line n o → IsLineBefore i l n o

-- if it is a line, it is of this kind, and its number isn't below this one
abbrev IsFrom : Bool → ℕ → Element → Type 0
IsFrom solid i e = (n : ℕ) (l : MapLine) → e ≡ Line n l → (l.solid ≡ solid) × (i ≤ n)

-- .. or is this one
abbrev IsAt : Bool → ℕ → Element → Type 0
IsAt solid i e = (n : ℕ) (l : MapLine) → e ≡ Line n l → (l.solid ≡ solid) × (i ≡ n)

abbrev pub NoLine : Element → Type 0
NoLine e = (i : ℕ) (l : MapLine) → e ≡ Line i l → ⊥

abbrev InOrder : List Element → Type 0
InOrder [] = Unit {0}
InOrder (e ∷ es) = AllByRecursion (Before e) es × InOrder es

abbrev AllBefore : List Element → List Element → Type 0
AllBefore xs ys = AllByRecursion (λ x. AllByRecursion (Before x) ys) xs

order_join : (xs ys : List Element) → InOrder xs → InOrder ys → AllBefore xs ys → InOrder (xs ++ ys)
order_join [] ys h k b = k
order_join (x ∷ xs) ys h k b = (all_join (Before x) xs ys h.0 b.0, order_join xs ys h.1 k b.1)

order_at : (es : List Element) → InOrder es → (j k : ℕ) (e f : Element) → j < k → slice_get es j ≡ Some e → slice_get es k ≡ Some f → Before e f
order_at [] h j k e f lt at there = absurd (none-some e at)
order_at (x ∷ xs) h zero zero e f lt at there = absurd (omega arith)
order_at (x ∷ xs) h zero (suc k) e f lt at there = subst (λ (y : Element). Before y f) (same_Some x e at) (all_at (Before x) xs h.0 k f there)
order_at (x ∷ xs) h (suc j) zero e f lt at there = absurd (omega arith)
order_at (x ∷ xs) h (suc j) (suc k) e f lt at there = order_at xs h.1 j k e f (omega arith) at there

-- if all on one side are related to all on the other
cross : (P Q : Element → Type 0) → ((e f : Element) → P e → Q f → Before e f) → (xs ys : List Element) → AllByRecursion P xs → AllByRecursion Q ys → AllBefore xs ys
cross P Q so xs ys h k = all_so P (λ x. AllByRecursion (Before x) ys) xs (λ e p. all_so Q (Before e) ys (λ f q. so e f p q) k) h

any : (es : List Element) → AllByRecursion (λ e. Unit {0}) es
any [] = tt
any (e ∷ es) = (tt, any es)

before_none : (xs ys : List Element) → AllByRecursion NoLine ys → AllBefore xs ys
before_none xs ys h = cross (λ e. Unit {0}) NoLine (λ e f p q i n l o a b. absurd (q n o b)) xs ys (any xs) h

none_before : (xs ys : List Element) → AllByRecursion NoLine xs → AllBefore xs ys
none_before xs ys h = cross NoLine (λ e. Unit {0}) (λ e f p q i n l o a b. absurd (p i l a)) xs ys h (any ys)

order_none : (es : List Element) → AllByRecursion NoLine es → InOrder es
order_none [] h = tt
order_none (e ∷ es) h = (all_so NoLine (Before e) es (λ f q i n l o a b. absurd (q n o b)) h.1, order_none es h.1)

none_of : (es : List Element) → HasNoLine es → AllByRecursion NoLine es
none_of [] h = tt
none_of (e ∷ es) h = ((λ i l q. h i l (zero, ap (λ (x : Element). Some x) q)), none_of es (λ i l has. h i l (suc has.0, has.1)))

-- ---- one kind of lines

at_line : (solid : Bool) (i : ℕ) (l : MapLine) → l.solid ≡ solid → IsAt solid i (Line i l)
at_line solid i l e n o q = let s = same_line i n l o q in (ap (λ (x : MapLine). x.solid) (sym s.1) ∙ e, s.0)

at_if : (solid : Bool) (i : ℕ) (l : MapLine) → AllByRecursion (IsAt solid i) (line_if solid i l)
at_if true i l = go l.solid refl
  where
    go : (b : Bool) → l.solid ≡ b → AllByRecursion (IsAt true i) (cond b (Line i l ∷ []) [])
    go true e = (at_line true i l e, tt)
    go false e = tt
at_if false i l = go l.solid refl
  where
    go : (b : Bool) → l.solid ≡ b → AllByRecursion (IsAt false i) (cond b [] (Line i l ∷ []))
    go true e = tt
    go false e = (at_line false i l e, tt)

at_entry : (solid : Bool) (i : ℕ) (o : Option MapLine) → AllByRecursion (IsAt solid i) (entry_if solid i o)
at_entry solid i None = tt
at_entry solid i (Some l) = at_if solid i l

order_if : (solid : Bool) (i : ℕ) (l : MapLine) → InOrder (line_if solid i l)
order_if true i l = go l.solid
  where
    go : (b : Bool) → InOrder (cond b (Line i l ∷ []) [])
    go true = (tt, tt)
    go false = tt
order_if false i l = go l.solid
  where
    go : (b : Bool) → InOrder (cond b [] (Line i l ∷ []))
    go true = tt
    go false = (tt, tt)

order_entry : (solid : Bool) (i : ℕ) (o : Option MapLine) → InOrder (entry_if solid i o)
order_entry solid i None = tt
order_entry solid i (Some l) = order_if solid i l

from_at : (solid : Bool) (i : ℕ) (e : Element) → IsAt solid i e → IsFrom solid i e
from_at solid i e h n l q = let k = h n l q in (k.0, omega (arith, k.1))

from_more : (solid : Bool) (i : ℕ) (e : Element) → IsFrom solid (i + 1) e → IsFrom solid i e
from_more solid i e h n l q = let k = h n l q in (k.0, omega (arith, k.1))

from_lines : (solid : Bool) (i : ℕ) (es : List (Option MapLine)) → AllByRecursion (IsFrom solid i) (lines_from solid i es)
from_lines solid i [] = tt
from_lines solid i (o ∷ es) = all_join (IsFrom solid i) (entry_if solid i o) (lines_from solid (i + 1) es)
    (all_so (IsAt solid i) (IsFrom solid i) (entry_if solid i o) (from_at solid i) (at_entry solid i o))
    (all_so (IsFrom solid (i + 1)) (IsFrom solid i) (lines_from solid (i + 1) es) (from_more solid i) (from_lines solid (i + 1) es))

next_before : (solid : Bool) (i : ℕ) (e f : Element) → IsAt solid i e → IsFrom solid (i + 1) f → Before e f
next_before solid i e f h k j n l o a b = let p = h j l a in let q = k n o b in inr (p.0 ∙ sym q.0, omega (arith, p.1, q.1))

order_lines : (solid : Bool) (i : ℕ) (es : List (Option MapLine)) → InOrder (lines_from solid i es)
order_lines solid i [] = tt
order_lines solid i (o ∷ es) = order_join (entry_if solid i o) (lines_from solid (i + 1) es) (order_entry solid i o) (order_lines solid (i + 1) es)
    (cross (IsAt solid i) (IsFrom solid (i + 1)) (next_before solid i) (entry_if solid i o) (lines_from solid (i + 1) es) (at_entry solid i o) (from_lines solid (i + 1) es))

order_elements : (m : Map) → InOrder (line_elements m)
order_elements m = order_join (lines_from false 0 m.lines) (lines_from true 0 m.lines) (order_lines false 0 m.lines) (order_lines true 0 m.lines)
    (cross (IsFrom false 0) (IsFrom true 0) (λ e f h k i n l o a b. inl ((h i l a).0, (k n o b).0)) (lines_from false 0 m.lines) (lines_from true 0 m.lines) (from_lines false 0 m.lines) (from_lines true 0 m.lines))

-- ---- the whole

none_in_sheet : (name : NamedParts) (about : Subject) → AllByRecursion NoLine (sheet_of name about)
none_in_sheet name about = ((λ i l e. head i l e), ((λ i l e. title i l e), ((λ i l e. style i l e), ((λ i l e. paper i l e), ((λ i l e. scale i l e), tt)))))
  where
    head : (i : ℕ) (l : MapLine) → Head ≡ Line i l → ⊥
    head i l e = cc

    title : (i : ℕ) (l : MapLine) → Title name.text about ≡ Line i l → ⊥
    title i l e = cc

    scale : (i : ℕ) (l : MapLine) → Scale name.places ≡ Line i l → ⊥
    scale i l e = cc

    style : (i : ℕ) (l : MapLine) → Style ≡ Line i l → ⊥
    style i l e = cc

    paper : (i : ℕ) (l : MapLine) → Paper ≡ Line i l → ⊥
    paper i l e = cc

none_in_foot : AllByRecursion NoLine (Foot ∷ [])
none_in_foot = ((λ i l e. foot i l e), tt)
  where
    foot : (i : ℕ) (l : MapLine) → Foot ≡ Line i l → ⊥
    foot i l e = cc

order_picture : (name : NamedParts) (about : Subject) (m : Map) (under over : List Element) → HasNoLine under → HasNoLine over → InOrder (picture_of name about m under over)
order_picture name about m under over h k =
    let sheet = sheet_of name about in
    let front = sheet ++ under in
    let none = all_join NoLine sheet under (none_in_sheet name about) (none_of under h) in
    let lines = order_join front (line_elements m) (order_none front none) (order_elements m) (none_before front (line_elements m) none) in
    let above = order_join (front ++ line_elements m) over lines (order_none over (none_of over k)) (before_none (front ++ line_elements m) over (none_of over k)) in
    order_join (front ++ line_elements m ++ over) (Foot ∷ []) above (order_none (Foot ∷ []) none_in_foot) (before_none (front ++ line_elements m ++ over) (Foot ∷ []) none_in_foot)

-- ---- which there are

has_either : (xs ys : List Element) (e : Element) → Has (xs ++ ys) e → Has xs e ⊎ Has ys e
has_either [] ys e h = inr h
has_either (x ∷ xs) ys e (zero, at) = inl (zero, at)
has_either (x ∷ xs) ys e (suc k, at) = ⊎_elim (λ h. inl (suc h.0, h.1)) (λ h. inr h) (has_either xs ys e (k, at))

has_one : (e f : Element) → Has (e ∷ []) f → e ≡ f
has_one e f (zero, at) = same_Some e f at
has_one e f (suc k, at) = absurd (none-some f at)

has_none : (f : Element) → Has [] f → ⊥
has_none f (k, at) = none-some f at

-- the record's line is there, if it is of the kind
found_if : (solid : Bool) (i : ℕ) (l : MapLine) (n : ℕ) (o : MapLine) → Has (line_if solid i l) (Line n o) → (n ≡ i) × (l ≡ o)
found_if true i l n o h = go l.solid h
  where
    go : (b : Bool) → Has (cond b (Line i l ∷ []) []) (Line n o) → (n ≡ i) × (l ≡ o)
    go true h = let s = same_line i n l o (has_one (Line i l) (Line n o) h) in (sym s.0, s.1)
    go false h = absurd (has_none (Line n o) h)
found_if false i l n o h = go l.solid h
  where
    go : (b : Bool) → Has (cond b [] (Line i l ∷ [])) (Line n o) → (n ≡ i) × (l ≡ o)
    go true h = absurd (has_none (Line n o) h)
    go false h = let s = same_line i n l o (has_one (Line i l) (Line n o) h) in (sym s.0, s.1)

there_if : (i : ℕ) (l : MapLine) → Has (line_if l.solid i l) (Line i l)
there_if i l = go l.solid refl
  where
    go : (b : Bool) → l.solid ≡ b → Has (line_if b i l) (Line i l)
    go true e = subst (λ (c : Bool). Has (cond c (Line i l ∷ []) []) (Line i l)) (sym e) (zero, refl)
    go false e = subst (λ (c : Bool). Has (cond c [] (Line i l ∷ [])) (Line i l)) (sym e) (zero, refl)

found_in_entry : (solid : Bool) (i : ℕ) (e : Option MapLine) (n : ℕ) (o : MapLine) → Has (entry_if solid i e) (Line n o) → (n ≡ i) × (e ≡ Some o)
found_in_entry solid i None n o h = absurd (has_none (Line n o) h)
found_in_entry solid i (Some l) n o h = let f = found_if solid i l n o h in (f.0, ap (λ (x : MapLine). Some x) f.1)

found_in : (solid : Bool) (i : ℕ) (es : List (Option MapLine)) (n : ℕ) (o : MapLine) → Has (lines_from solid i es) (Line n o) → (k : ℕ) × (n ≡ i + k) × (slice_get es k ≡ Some (Some o))
found_in solid i [] n o h = absurd (has_none (Line n o) h)
found_in solid i (e ∷ es) n o h = ⊎_elim
    (λ a. let f = found_in_entry solid i e n o a in (zero, omega (arith, f.0), ap (λ (x : Option MapLine). Some x) f.1))
    (λ b. let f = found_in solid (i + 1) es n o b in (suc f.0, omega (arith, f.1), f.2))
    (has_either (entry_if solid i e) (lines_from solid (i + 1) es) (Line n o) h)

there_in : (i : ℕ) (es : List (Option MapLine)) (k n : ℕ) (o : MapLine) → n ≡ i + k → slice_get es k ≡ Some (Some o) → Has (lines_from o.solid i es) (Line n o)
there_in i [] k n o e at = absurd (none-some (Some o) at)
there_in i (x ∷ es) zero n o e at =
    has_before (entry_if o.solid i x) (lines_from o.solid (i + 1) es) (Line n o)
    (let same : i ≡ n = omega (arith, e) in
    subst (λ (y : Option MapLine). Has (entry_if o.solid i y) (Line n o)) (sym (same_Some x (Some o) at)) (subst (λ (j : ℕ). Has (line_if o.solid i o) (Line j o)) same (there_if i o)))
there_in i (x ∷ es) (suc k) n o e at = has_behind (entry_if o.solid i x) (lines_from o.solid (i + 1) es) (Line n o) (there_in (i + 1) es k n o (omega (arith, e)) at)

-- the record has a line
entry_at : (es : List (Option MapLine)) (i : ℕ) (l : MapLine) → option_and_then (λ o. o) (slice_get es i) ≡ Some l → slice_get es i ≡ Some (Some l)
entry_at es i l e = go (slice_get es i) e
  where
    go : (o : Option (Option MapLine)) → option_and_then (λ o. o) o ≡ Some l → o ≡ Some (Some l)
    go None e = absurd (none-some l e)
    go (Some x) e = ap (λ (y : Option MapLine). Some y) e

drop_none : (xs : List Element) (i : ℕ) (l : MapLine) → AllByRecursion NoLine xs → Has xs (Line i l) → ⊥
drop_none xs i l h (k, at) = all_at NoLine xs h k (Line i l) at i l refl

pub no_lines : (xs : List Element) → AllByRecursion NoLine xs → HasNoLine xs
no_lines xs h i l has = drop_none xs i l h has

in_lines : (m : Map) (i : ℕ) (l : MapLine) → Has (line_elements m) (Line i l) → line_at m i ≡ Some l
in_lines m i l h = ⊎_elim (made false) (made true) (has_either (lines_from false 0 m.lines) (lines_from true 0 m.lines) (Line i l) h)
  where
    made : (solid : Bool) → Has (lines_from solid 0 m.lines) (Line i l) → line_at m i ≡ Some l
    made solid k = let f = found_in solid 0 m.lines i l k in let same : f.0 ≡ i = omega (arith, f.1) in ap (λ (o : Option (Option MapLine)). option_and_then (λ x. x) o) (subst (λ (j : ℕ). slice_get m.lines j ≡ Some (Some l)) same f.2)

of_lines : (m : Map) (i : ℕ) (l : MapLine) → line_at m i ≡ Some l → Has (line_elements m) (Line i l)
of_lines m i l e = go l.solid refl
  where
    there : Has (lines_from l.solid 0 m.lines) (Line i l)
    there = there_in 0 m.lines i i l (omega arith) (entry_at m.lines i l e)

    go : (b : Bool) → l.solid ≡ b → Has (line_elements m) (Line i l)
    go true q = has_behind (lines_from false 0 m.lines) (lines_from true 0 m.lines) (Line i l) (subst (λ (b : Bool). Has (lines_from b 0 m.lines) (Line i l)) q there)
    go false q = has_before (lines_from false 0 m.lines) (lines_from true 0 m.lines) (Line i l) (subst (λ (b : Bool). Has (lines_from b 0 m.lines) (Line i l)) q there)

in_picture : (name : NamedParts) (about : Subject) (m : Map) (under over : List Element) → HasNoLine under → HasNoLine over → (i : ℕ) (l : MapLine) → Has (picture_of name about m under over) (Line i l) → line_at m i ≡ Some l
in_picture name about m under over h k i l has =
    let sheet = sheet_of name about in
    let front = sheet ++ under in
    ⊎_elim
    (λ a. ⊎_elim
    (λ b. ⊎_elim
    (λ c. absurd (drop_none front i l (all_join NoLine sheet under (none_in_sheet name about) (none_of under h)) c))
    (in_lines m i l)
    (has_either front (line_elements m) (Line i l) b))
    (λ b. absurd (k i l b))
    (has_either (front ++ line_elements m) over (Line i l) a))
    (λ a. absurd (drop_none (Foot ∷ []) i l none_in_foot a))
    (has_either (front ++ line_elements m ++ over) (Foot ∷ []) (Line i l) has)

of_picture : (name : NamedParts) (about : Subject) (m : Map) (under over : List Element) (i : ℕ) (l : MapLine) → line_at m i ≡ Some l → Has (picture_of name about m under over) (Line i l)
of_picture name about m under over i l e =
    let front = sheet_of name about ++ under in
    has_before (front ++ line_elements m ++ over) (Foot ∷ []) (Line i l)
    (has_before (front ++ line_elements m) over (Line i l) (has_behind front (line_elements m) (Line i l) (of_lines m i l e)))

never_before_itself : (i : ℕ) (l : MapLine) → IsLineBefore i l i l → ⊥
never_before_itself i l (inl h) = true≢false (sym h.1 ∙ h.0)
never_before_itself i l (inr h) = let lt = h.1 in omega arith

pub lines_shown : (name : NamedParts) (about : Subject) (m : Map) (under over : List Element) → HasNoLine under → HasNoLine over → ShowsLines m (picture_of name about m under over)
lines_shown name about m under over h k = record { exactly = exactly; order = order; once = once }
  where
    exactly : (i : ℕ) (l : MapLine) → Has (picture_of name about m under over) (Line i l) ↔ (line_at m i ≡ Some l)
    exactly i l = (in_picture name about m under over h k i l, of_picture name about m under over i l)

    order : (p q i n : ℕ) (l o : MapLine) → p < q → slice_get (picture_of name about m under over) p ≡ Some (Line i l) → slice_get (picture_of name about m under over) q ≡ Some (Line n o) → IsLineBefore i l n o
    order p q i n l o lt a b = order_at (picture_of name about m under over) (order_picture name about m under over h k) p q (Line i l) (Line n o) lt a b i n l o refl refl

    same : (p q i : ℕ) (l o : MapLine) → slice_get (picture_of name about m under over) p ≡ Some (Line i l) → slice_get (picture_of name about m under over) q ≡ Some (Line i o) → l ≡ o
    same p q i l o a b = same_Some l o (sym (in_picture name about m under over h k i l (p, a)) ∙ in_picture name about m under over h k i o (q, b))

    never : (p q i : ℕ) (l o : MapLine) → p < q → slice_get (picture_of name about m under over) p ≡ Some (Line i l) → slice_get (picture_of name about m under over) q ≡ Some (Line i o) → ⊥
    never p q i l o lt a b = never_before_itself i l (subst (λ (x : MapLine). IsLineBefore i l i x) (sym (same p q i l o a b)) (order p q i i l o lt a b))

    once : (p q i : ℕ) (l o : MapLine) → slice_get (picture_of name about m under over) p ≡ Some (Line i l) → slice_get (picture_of name about m under over) q ≡ Some (Line i o) → p ≡ q
    once p q i l o a b = elim (below_same_or_above p q) [ inl lt ↦ absurd (never p q i l o lt a b) | inr (inl e) ↦ e | inr (inr lt) ↦ absurd (never q p i o l lt b a) ]
