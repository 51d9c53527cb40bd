-- What a printer has given and what it still has to give are the spelling together.
use Rattle.std.proofs.Common.{◌≡◌, ℕ, ◌+◌, ◌≤◌, List, [], ◌++◌, length, take, drop, refl, sym, ap, ◌∙◌, append_assoc, arith}
use Rattle.std.specs.List.{flat_map}
use Rattle.std.proofs.lemmas.List.{append-nil, length-take, take-append-drop}
use Rattle.sight_names.specs.declared.names.PairRay.{PairRay}
use Rattle.block_evidence.specs.declared.sight_tree.Node.{Node}
use Rattle.block_evidence.specs.SightTree.Spelling.{u16}
use Rattle.cert_format.specs.declared.cert.Labelled.{Labelled}
use Rattle.cert_format.specs.Grammar.{triangle_bytes, ray_bytes}
use Rattle.cert_format.specs.CertGroups.Grammar.{group_bytes}
use Rattle.certificates.specs.declared.cert_exact.cert.ExactParts.{ExactParts}
use Rattle.certificates.specs.CertExact.Grammar.{exact_header_bytes, length_bytes, nodes_bytes, spelling}

-- what comes first of two parts is given behind what was given before
pub gave : (at n : ℕ) (old new x after a : List ℕ) → take (at + n) new ≡ take at old ++ take n x → after ≡ drop n x → take at old ++ (x ++ a) ≡ take (at + n) new ++ (after ++ a)
gave at n old new x after a p q = ap (λ (t : List ℕ). take at old ++ (t ++ a)) (sym (take-append-drop n x)) ∙ rw (p, q) (simp append_assoc)

-- the front of a buffer is as long as what was given
pub front_long : (n : ℕ) (buf : List ℕ) → n ≤ length buf → length (take n buf) ≡ n
front_long n buf le = omega (arith, length-take n buf, le)

-- ---- the whole

arranged : (h s g t r l n d : List ℕ) → s ≡ [] → n ≡ [] → (h ++ s ++ g ++ t ++ r ++ l) ++ (n ++ d) ≡ h ++ g ++ t ++ r ++ l ++ d
arranged h s g t r l n d es en = rw (es, en) (simp (append_assoc, append-nil))

pub whole : (c : ExactParts) (h s n : List ℕ) (gs : List (List ℕ)) (ts : List Labelled) (rs : List PairRay) (ds : List (List Node)) → h ≡ exact_header_bytes c → s ≡ [] → n ≡ [] → gs ≡ c.groups → ts ≡ c.triangles → rs ≡ c.rays → ds ≡ c.trees
    → (h ++ flat_map u16 s ++ flat_map group_bytes gs ++ flat_map triangle_bytes ts ++ flat_map ray_bytes rs ++ flat_map length_bytes ds) ++ (n ++ flat_map nodes_bytes ds) ≡ spelling c
unfolding spelling
whole c h s n gs ts rs ds eh es en eg et er ed =
    arranged h (flat_map u16 s) (flat_map group_bytes gs) (flat_map triangle_bytes ts) (flat_map ray_bytes rs) (flat_map length_bytes ds) n (flat_map nodes_bytes ds) (ap (flat_map u16) es) en
    ∙ rw (eh, eg, et, er, ed) refl
