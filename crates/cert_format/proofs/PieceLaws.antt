-- What a printer has given and what it still has to give are the spelling together.
use Rattle.std.proofs.Common.{◌≡◌, ℕ, zero, suc, ◌+◌, ◌<◌, ◌≤◌, List, [], ◌++◌, length, take, drop, refl, sym, ap, ◌∙◌, append_assoc, arith, inl, inr}
use Rattle.std.specs.Prelude.{min}
use Rattle.std.proofs.lemmas.Bool.{cases_lt}
use Rattle.std.proofs.lemmas.List.{append-nil, take-append-drop, length-append, length-take, drop-drop, nil_from_length}
use Rattle.std.specs.List.{flat_map}
use Rattle.sight_names.specs.declared.names.Pair.{Pair}
use Rattle.sight_names.specs.declared.names.PairRay.{PairRay}
use Rattle.block_evidence.specs.declared.sight_tree.Tree.{Tree}
use Rattle.cert_format.specs.declared.cert.Labelled.{Labelled}
use Rattle.cert_format.specs.Parts.{CertParts}
use Rattle.cert_format.specs.Grammar.{header_bytes, triangle_bytes, ray_bytes, pair_bytes, tree_bytes, spelling}

-- what comes first of six parts is given behind what was given before
pub gave_first : (at n : ℕ) (old new x after a b c d e : List ℕ) → take (at + n) new ≡ take at old ++ take n x → after ≡ drop n x
    → take at old ++ (x ++ a ++ b ++ c ++ d ++ e) ≡ take (at + n) new ++ (after ++ a ++ b ++ c ++ d ++ e)
gave_first at n old new x after a b c d e p q =
    ap (λ (t : List ℕ). take at old ++ (t ++ a ++ b ++ c ++ d ++ e)) (sym (take-append-drop n x)) ∙ rw (p, q) (simp append_assoc)

-- the same of the second part, where nothing stands before it
pub gave_second : (at n : ℕ) (old new none x after a b c d : List ℕ) → none ≡ [] → take (at + n) new ≡ take at old ++ take n x → after ≡ drop n x
    → take at old ++ (none ++ x ++ a ++ b ++ c ++ d) ≡ take (at + n) new ++ (none ++ after ++ a ++ b ++ c ++ d)
gave_second at n old new none x after a b c d z p q =
    rw z (ap (λ (t : List ℕ). take at old ++ (t ++ a ++ b ++ c ++ d)) (sym (take-append-drop n x)) ∙ rw (p, q) (simp append_assoc))

-- what stayed behind the one place and behind the other
pub others_on : (n r : ℕ) (first old new : List ℕ) → drop n old ≡ drop n first → drop (n + r) new ≡ drop (n + r) old → drop (n + r) new ≡ drop (n + r) first
others_on n r first old new p q = q ∙ sym (drop-drop r n old) ∙ ap (drop r) p ∙ drop-drop r n first

-- so much was given, where the buffer is full or nothing is left
pub filled : (all piece left : List ℕ) (given room : ℕ) → all ≡ piece ++ left → length piece ≡ given → given ≤ room → (given < room → left ≡ []) → given ≡ min room (length all)
filled all piece left given room p long fits none =
    let both : length all ≡ given + length left = omega (arith, ap length p, length-append piece left, long) in
    elim (cases_lt given room) [
      | inl lt ↦ omega (arith, both, ap length (none lt), lt)
      | inr le ↦ omega (arith, both, le, fits)
    ]

-- nothing was given only where nothing was left
pub nothing_left : (all piece left : List ℕ) (given room : ℕ) → all ≡ piece ++ left → length piece ≡ given → 0 < room → (given < room → left ≡ []) → given ≡ 0 → all ≡ []
nothing_left all piece left given room p long some none nothing =
    nil_from_length all (omega (arith, ap length p, length-append piece left, long, nothing, ap length (none (omega (arith, nothing, some)))))

pub none_given : (all piece left : List ℕ) (given : ℕ) → all ≡ piece ++ left → length piece ≡ given → all ≡ [] → given ≡ 0
none_given all piece left given p long none = omega (arith, ap length p, length-append piece left, long, ap length none)

pub none_left : (all piece left : List ℕ) → all ≡ piece ++ left → all ≡ [] → left ≡ []
none_left all piece left p none = nil_from_length left (omega (arith, ap length p, length-append piece left, ap length none))

-- ---- pieces put behind each other

pub put_behind : (out new piece left more after : List ℕ) → new ≡ out ++ piece → left ≡ more ++ after → out ++ (piece ++ left) ≡ new ++ (more ++ after)
put_behind out new piece left more after p q = rw (p, q) (sym (append_assoc out piece (more ++ after)))

pub all_put : (out piece left : List ℕ) (count : ℕ) → count ≤ 0 → (count ≡ 0 → left ≡ []) → out ++ (take count piece ++ left) ≡ out
all_put out piece left zero le none = ap (λ (t : List ℕ). out ++ t) (none refl) ∙ append-nil out
all_put out piece left (suc count) le none = absurd (omega arith)

pub fewer_left : (old new piece : List ℕ) (count more : ℕ) → 0 < count → old ≡ take more piece ++ new → more ≤ length piece → more + length new < count + length old
fewer_left old new piece count more some p fits = omega (arith, some, ap length p, length-append (take more piece) new, length-take more piece, fits)

-- ---- the whole

pub whole : (c : CertParts) (header none : List ℕ) (ts : List Labelled) (rs : List PairRay) (ps : List Pair) (ds : List Tree) → header ≡ header_bytes c → none ≡ [] → ts ≡ c.triangles → rs ≡ c.rays → ps ≡ c.listed → ds ≡ c.trees
    → header ++ none ++ flat_map triangle_bytes ts ++ flat_map ray_bytes rs ++ flat_map pair_bytes ps ++ flat_map tree_bytes ds ≡ spelling c
unfolding spelling
whole c header none ts rs ps ds h z p q r s =
    ap (λ (t : List ℕ). header ++ t ++ flat_map triangle_bytes ts ++ flat_map ray_bytes rs ++ flat_map pair_bytes ps ++ flat_map tree_bytes ds) z
    ∙ ap (λ (t : List ℕ). t ++ flat_map triangle_bytes ts ++ flat_map ray_bytes rs ++ flat_map pair_bytes ps ++ flat_map tree_bytes ds) (append-nil header ∙ h)
    ∙ rw (p, q, r, s) refl
