-- Ends of the portals on a path, one code after another.
use Rattle.std.proofs.Common.{◌≡◌, ℕ, ◌+◌, ◌-◌, ◌<◌, ◌≤◌, ◌↔◌, List, [], ◌∷◌, ◌++◌, Option, Some, length, get_or, map, take, IsTrue, Bool, refl, sym, ◌∙◌, ap, subst, arith}
use Rattle.std.specs.List.{AllByRecursion, filter_map, slice_get}
use Rattle.std.specs.Prelude.{IsSome}
use Rattle.std.proofs.Common.{set}
use Rattle.std.proofs.lemmas.List.{take_more, take_more_set, map-append}
use Rattle.sight_names.specs.declared.limits.TheConstants.{RIGHT_END}
use Rattle.sight_names.specs.declared.names.EndAt.{EndAt}
use Rattle.std.proofs.lemmas.Option.{slice_get-map, slice_get-get_or}
use Rattle.std.proofs.Common.{◌%◌, min, inl, inr}
use Rattle.std.proofs.lemmas.Bool.{cases_lt}
use Rattle.std.proofs.lemmas.List.{take_all}
use Rattle.std.specs.Prelude.{option_map}
use Rattle.sight_names.specs.Splitting.{EndPoints, end_of}
use Rattle.geom_exact.proofs.ExtremeLines.EndsLemmas.{left_end, right_end}
use Rattle.cert_checker.specs.declared.tree_judge.trees.Frame.{Frame}
use Rattle.cert_checker.specs.TreeJudge.Path.{portal_ends, path_ends, AreStuckEnds}
use Rattle.block_evidence.specs.declared.Evidence.{Evidence}
use Rattle.block_evidence.specs.Stuck.{AreStuck, BlocksEnds, end_codes}
use Rattle.block_evidence.proofs.SightTree.ReadBack.{in_places}

-- what is found where each code has its end
pub found_each : (es : List EndPoints) (codes : List ℕ) (xs : List EndAt) → map Some xs ≡ map (end_of es) codes → (filter_map (end_of es) codes ≡ xs) × AllByRecursion (λ code. IsSome (end_of es code)) codes
found_each es [] [] e = (refl, tt)
found_each es [] (x ∷ xs) e = absurd (cc)
found_each es (k ∷ codes) [] e = absurd (cc)
found_each es (k ∷ codes) (x ∷ xs) e = at (end_of es k) head (found_each es codes xs rest)
  where
    head : Some x ≡ end_of es k
    head = cc

    rest : map Some xs ≡ map (end_of es) codes
    rest = cc

    at : (o : Option EndAt) → Some x ≡ o → (filter_map (end_of es) codes ≡ xs) × AllByRecursion (λ code. IsSome (end_of es code)) codes → (filter_map (end_of es) (k ∷ codes) ≡ x ∷ xs) × AllByRecursion (λ code. IsSome (end_of es code)) (k ∷ codes)
    at o h (f, a) = (rw (sym head) (ap (λ (ys : List EndAt). x ∷ ys) f), (rw (sym head) refl, a))

-- one more code and its end
pub found_more : (es : List EndPoints) (codes : List ℕ) (ends : List EndAt) (i : ℕ) (x : EndAt) → i < length codes → i < length ends → map Some (take i ends) ≡ map (end_of es) (take i codes) → end_of es (get_or codes i 0) ≡ Some x → map Some (take (i + 1) (set ends i x)) ≡ map (end_of es) (take (i + 1) codes)
found_more es codes ends i x l h e f = ap (map Some) (take_more_set ends i x h) ∙ map-append Some (take i ends) (x ∷ []) ∙ ap (λ (ys : List (Option EndAt)). ys ++ Some x ∷ []) e ∙ ap (λ (o : Option EndAt). map (end_of es) (take i codes) ++ o ∷ []) (sym f) ∙ sym (map-append (end_of es) (take i codes) (get_or codes i 0 ∷ [])) ∙ ap (map (end_of es)) (sym (take_more codes i 0 l))

-- ---- ends by their codes

at_code : (path : List Frame) (k : ℕ) (f : Frame) → k < length path → f ≡ get_or path k f → slice_get (path_ends path) k ≡ Some (portal_ends f)
at_code path k f l e = slice_get-map portal_ends path k ∙ ap (λ (o : Option Frame). option_map portal_ends o) (slice_get-get_or path k f l ∙ ap Some (sym e))

there_at : (path : List Frame) (k : ℕ) (f : Frame) → slice_get path k ≡ Some f → slice_get (path_ends path) k ≡ Some (portal_ends f)
there_at path k f is = slice_get-map portal_ends path k ∙ ap (λ (o : Option Frame). option_map portal_ends o) is

pub left_there : (path : List Frame) (code : ℕ) (f : Frame) → code < RIGHT_END → slice_get path code ≡ Some f → ◌≡◌ {A = Option EndAt} (end_of (path_ends path) code) (Some (record { code = code; at = f.left }))
left_there path code f few is = left_end (path_ends path) code (portal_ends f) few (there_at path code f is)

pub right_there : (path : List Frame) (code : ℕ) (f : Frame) → RIGHT_END ≤ code → slice_get path (code - RIGHT_END) ≡ Some f → ◌≡◌ {A = Option EndAt} (end_of (path_ends path) code) (Some (record { code = code; at = f.right }))
right_there path code f many is = subst (λ (n : ℕ). ◌≡◌ {A = Option EndAt} (end_of (path_ends path) n) (Some (record { code = n; at = f.right }))) same (right_end (path_ends path) (code - RIGHT_END) (portal_ends f) (there_at path (code - RIGHT_END) f is))
  where
    same : RIGHT_END + (code - RIGHT_END) ≡ code
    same = omega (arith, many)

pub left_of : (path : List Frame) (code : ℕ) (f : Frame) → code < RIGHT_END → code % RIGHT_END < length path → f ≡ get_or path (code % RIGHT_END) f → ◌≡◌ {A = Option EndAt} (Some (record { code = code; at = f.left })) (end_of (path_ends path) code)
left_of path code f few l e = sym (left_end (path_ends path) code (portal_ends f) few (subst (λ (k : ℕ). slice_get (path_ends path) k ≡ Some (portal_ends f)) same (at_code path (code % RIGHT_END) f l e)))
  where
    same : code % RIGHT_END ≡ code
    same = omega arith

pub right_of : (path : List Frame) (code : ℕ) (f : Frame) → RIGHT_END ≤ code → code < 65536 → code % RIGHT_END < length path → f ≡ get_or path (code % RIGHT_END) f → ◌≡◌ {A = Option EndAt} (Some (record { code = code; at = f.right })) (end_of (path_ends path) code)
right_of path code f many few l e = subst (λ (n : ℕ). ◌≡◌ {A = Option EndAt} (Some (record { code = n; at = f.right })) (end_of (path_ends path) n)) same (sym (right_end (path_ends path) (code % RIGHT_END) (portal_ends f) (at_code path (code % RIGHT_END) f l e)))
  where
    same : RIGHT_END + code % RIGHT_END ≡ code
    same = omega arith

-- ---- all codes

same_take : (xs : List ℕ) (n i : ℕ) → length xs ≡ 4 → i ≡ min n 4 → take i xs ≡ take n xs
same_take xs n i l e = elim (cases_lt 4 n) as (λ _. take i xs ≡ take n xs) [
  | inl h ↦ take_all i xs (omega arith) ∙ sym (take_all n xs (omega arith))
  | inr h ↦ ap (λ (k : ℕ). take k xs) (omega arith)
]

pub blocks_if : (es : List EndPoints) (e : Evidence) (ends some : List EndAt) (i : ℕ) (b : Bool) → map Some (take i ends) ≡ map (end_of es) (take i e.ends) → length e.ends ≡ 4 → i ≡ min e.count 4 → some ≡ take i ends → (IsTrue b ↔ AreStuck some) → IsTrue b ↔ BlocksEnds es e
blocks_if es e ends some i b h l m t s = (λ n. record { ends = subst (AllByRecursion (λ code. IsSome (end_of es code))) q f.1; stuck = subst AreStuck (sym same) (s.0 n) }, λ k. s.1 (subst AreStuck same k.stuck))
  where
    f : (filter_map (end_of es) (take i e.ends) ≡ take i ends) × AllByRecursion (λ code. IsSome (end_of es code)) (take i e.ends)
    f = found_each es (take i e.ends) (take i ends) h

    q : take i e.ends ≡ end_codes e
    q = same_take e.ends e.count i l m

    same : filter_map (end_of es) (end_codes e) ≡ some
    same = ap (filter_map (end_of es)) (sym q) ∙ f.0 ∙ sym t

-- ---- four codes at once

pub blocks_four : (es : List EndPoints) (e : Evidence) (a b c d : EndAt) → e.count ≡ 4 → length e.ends ≡ 4 → Some a ≡ end_of es (get_or e.ends 0 0) → Some b ≡ end_of es (get_or e.ends 1 0) → Some c ≡ end_of es (get_or e.ends 2 0) → Some d ≡ end_of es (get_or e.ends 3 0) → AreStuck (a ∷ b ∷ c ∷ d ∷ []) → BlocksEnds es e
blocks_four es e a b c d n l fa fb fc fd stuck = record { ends = f.1; stuck = subst AreStuck (sym f.0) stuck }
  where
    all : end_codes e ≡ get_or e.ends 0 0 ∷ get_or e.ends 1 0 ∷ get_or e.ends 2 0 ∷ get_or e.ends 3 0 ∷ []
    all = take_all e.count e.ends (omega (arith, n, l)) ∙ in_places e.ends l

    f : (filter_map (end_of es) (end_codes e) ≡ a ∷ b ∷ c ∷ d ∷ []) × AllByRecursion (λ code. IsSome (end_of es code)) (end_codes e)
    f = found_each es (end_codes e) (a ∷ b ∷ c ∷ d ∷ []) ((λ i. fa i ∷ fb i ∷ fc i ∷ fd i ∷ []) ∙ sym (ap (map (end_of es)) all))

-- the same by the codes alone
pub blocks_ends : (es : List EndPoints) (e : Evidence) → e.count ≡ 4 → length e.ends ≡ 4 → AreStuckEnds es (get_or e.ends 0 0) (get_or e.ends 1 0) (get_or e.ends 2 0) (get_or e.ends 3 0) → BlocksEnds es e
blocks_ends es e n l (w, x, y, z, fw, fx, fy, fz, stuck) = blocks_four es e w x y z n l (sym fw) (sym fx) (sym fy) (sym fz) stuck

-- evidence by its parts
pub by_parts : (es : List EndPoints) (count : ℕ) (ends : List ℕ) (b : Bool) → (IsTrue b ↔ BlocksEnds es (record { count = count; ends = ends })) → (e : Evidence) → e.count ≡ count → e.ends ≡ ends → IsTrue b ↔ BlocksEnds es e
by_parts es count ends b h e n m = subst (λ (k : ℕ). IsTrue b ↔ BlocksEnds es (record { count = k; ends = e.ends })) (sym n) (subst (λ (xs : List ℕ). IsTrue b ↔ BlocksEnds es (record { count = count; ends = xs })) (sym m) h)

pub of_four : (es : List EndPoints) (e : Evidence) (b : Bool) → length e.ends ≡ 4 → ((g : Evidence) → g.count ≡ e.count → g.ends ≡ get_or e.ends 0 0 ∷ get_or e.ends 1 0 ∷ get_or e.ends 2 0 ∷ get_or e.ends 3 0 ∷ [] → IsTrue b ↔ BlocksEnds es g) → IsTrue b ↔ BlocksEnds es e
of_four es e b l h = h e refl (in_places e.ends l)
