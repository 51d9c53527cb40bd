-- What nodes are spelled in is read back as these nodes, one after the other.
use Rattle.std.proofs.Common.{◌≡◌, ℕ, zero, suc, ◌+◌, ◌-◌, ◌*◌, ◌^◌, ◌<◌, ◌≤◌, List, [], ◌∷◌, ◌++◌, take, drop, length, get_or, refl, sym, ap, subst, ◌∙◌, arith}
use Rattle.std.specs.Prelude.{replicate}
use Rattle.std.specs.List.{flat_map, AllByRecursion}
use Rattle.std.proofs.lemmas.List.{append-nil, take-append-drop, length-append, length-take, take_at, drop_at}
use Rattle.std.proofs.lemmas.List.Concat.{flat_map-append}
use Rattle.std.proofs.lemmas.Nat.{from_le_bytes-to_le_bytes_2}
use Rattle.block_evidence.specs.Stuck.{end_codes}
use Rattle.block_evidence.specs.declared.sight_tree.Node.{Node}
use Rattle.block_evidence.specs.declared.sight_tree.Node.TheVariants.{Open, Blocked}
use Rattle.block_evidence.specs.SightTree.Spelling.{u16, node_bytes, IsPackable, FitsNode, SpellNodes, first_ends, first_node, nodes_within, nodes_in_bytes}

-- ---- one node

-- how many ends a node names, and their bytes
abbrev pub kind : Node → ℕ
kind Open = 0
kind (Blocked e) = e.count

abbrev pub ends_bytes : Node → List ℕ
ends_bytes Open = []
ends_bytes (Blocked e) = flat_map u16 (end_codes e)

node_parts : (n : Node) → node_bytes n ≡ kind n ∷ ends_bytes n
node_parts Open = refl
node_parts (Blocked e) = refl

two_each : (xs : List ℕ) → length (flat_map u16 xs) ≡ 2 * length xs
two_each [] = refl
two_each (x ∷ xs) = let h = two_each xs in omega (arith, h, length-append (u16 x) (flat_map u16 xs))

ends_back : (xs more : List ℕ) → AllByRecursion (λ x. x < 2 ^ 16) xs → first_ends (length xs) (flat_map u16 xs ++ more) ≡ xs
ends_back [] more fit = refl
ends_back (x ∷ xs) more fit = rw (from_le_bytes-to_le_bytes_2 x fit.0, ends_back xs more fit.1) refl

fit_take : (n : ℕ) (xs : List ℕ) → AllByRecursion (λ x. x < 2 ^ 16) xs → AllByRecursion (λ x. x < 2 ^ 16) (take n xs)
fit_take zero xs fit = tt
fit_take (suc n) [] fit = tt
fit_take (suc n) (x ∷ xs) fit = (fit.0, fit_take n xs fit.1)

-- a node of so many ends, of which some are named and the others are 0
blocked_back : (k : ℕ) (xs more : List ℕ) → 1 ≤ k → k ≤ 4 → drop k xs ≡ replicate (4 - k) 0 → length xs ≡ 4 → AllByRecursion (λ x. x < 2 ^ 16) xs
    → first_node k (flat_map u16 (take k xs) ++ more) ≡ Blocked (record { count = k; ends = xs })
blocked_back zero xs more least most unused four fit = absurd (omega arith)
blocked_back (suc k) xs more least most unused four fit =
    let many : length (take (suc k) xs) ≡ suc k = omega (arith, length-take (suc k) xs) in
    let named : first_ends (suc k) (flat_map u16 (take (suc k) xs) ++ more) ≡ take (suc k) xs =
    subst (λ (j : ℕ). first_ends j (flat_map u16 (take (suc k) xs) ++ more) ≡ take (suc k) xs) many (ends_back (take (suc k) xs) more (fit_take (suc k) xs fit)) in
    ap (λ (es : List ℕ). Blocked (record { count = suc k; ends = es })) (ap (λ (es : List ℕ). es ++ replicate (4 - suc k) 0) named ∙ ap (λ (es : List ℕ). take (suc k) xs ++ es) (sym unused) ∙ take-append-drop (suc k) xs)

one_back : (n : Node) (more : List ℕ) → IsPackable n → FitsNode n → first_node (kind n) (ends_bytes n ++ more) ≡ n
one_back Open more p f = refl
one_back (Blocked e) more p f = blocked_back e.count e.ends more p.0 p.1 p.2 f.0 f.1

alone_back : (n : Node) → IsPackable n → FitsNode n → first_node (kind n) (ends_bytes n) ≡ n
alone_back n p f = subst (λ (t : List ℕ). first_node (kind n) t ≡ n) (append-nil (ends_bytes n)) (one_back n [] p f)

many_bytes : (n : Node) → IsPackable n → FitsNode n → length (ends_bytes n) ≡ 2 * kind n
many_bytes Open p f = refl
many_bytes (Blocked e) p f = omega (arith, two_each (end_codes e), length-take e.count e.ends, p.1, f.0)

kind_most : (n : Node) → IsPackable n → kind n ≤ 4
kind_most Open p = omega arith
kind_most (Blocked e) p = p.1

-- ---- the bytes of a node as they are put together

-- the nine bytes of four ends by their number, cut off behind those that are named
cut_off : (k a b c d : ℕ) → k ≤ 4
    → take (1 + 2 * k) (k ∷ get_or (u16 a) 0 0 ∷ get_or (u16 a) 1 0 ∷ get_or (u16 b) 0 0 ∷ get_or (u16 b) 1 0 ∷ get_or (u16 c) 0 0 ∷ get_or (u16 c) 1 0 ∷ get_or (u16 d) 0 0 ∷ get_or (u16 d) 1 0 ∷ [])
    ≡ k ∷ flat_map u16 (take k (a ∷ b ∷ c ∷ d ∷ []))
cut_off zero a b c d le = refl
cut_off (suc zero) a b c d le = refl
cut_off (suc (suc zero)) a b c d le = refl
cut_off (suc (suc (suc zero))) a b c d le = refl
cut_off (suc (suc (suc (suc zero)))) a b c d le = refl
cut_off (suc (suc (suc (suc (suc k))))) a b c d le = absurd (omega arith)

pub in_places : (xs : List ℕ) → length xs ≡ 4 → xs ≡ get_or xs 0 0 ∷ get_or xs 1 0 ∷ get_or xs 2 0 ∷ get_or xs 3 0 ∷ []
in_places [] h = absurd (omega (arith, h))
in_places (a ∷ []) h = absurd (omega (arith, h))
in_places (a ∷ b ∷ []) h = absurd (omega (arith, h))
in_places (a ∷ b ∷ c ∷ []) h = absurd (omega (arith, h))
in_places (a ∷ b ∷ c ∷ d ∷ []) h = refl
in_places (a ∷ b ∷ c ∷ d ∷ e ∷ xs) h = absurd (omega (arith, h))

pub put_together : (k : ℕ) (xs a b c d : List ℕ) → k ≤ 4 → length xs ≡ 4 → a ≡ u16 (get_or xs 0 0) → b ≡ u16 (get_or xs 1 0) → c ≡ u16 (get_or xs 2 0) → d ≡ u16 (get_or xs 3 0)
    → take (1 + 2 * k) (k ∷ get_or a 0 0 ∷ get_or a 1 0 ∷ get_or b 0 0 ∷ get_or b 1 0 ∷ get_or c 0 0 ∷ get_or c 1 0 ∷ get_or d 0 0 ∷ get_or d 1 0 ∷ []) ≡ k ∷ flat_map u16 (take k xs)
put_together k xs a b c d le four p q r s =
    rw (p, q, r, s) (cut_off k (get_or xs 0 0) (get_or xs 1 0) (get_or xs 2 0) (get_or xs 3 0) le) ∙ ap (λ (ys : List ℕ). k ∷ flat_map u16 (take k ys)) (sym (in_places xs four))

-- ---- all of them

pub nodes_back : (bytes : List ℕ) (ns : List Node) (limit : ℕ) → SpellNodes bytes ns → length bytes ≤ limit → nodes_within limit bytes ≡ ns
nodes_back bytes [] zero s le = refl
nodes_back bytes [] (suc limit) s le = rw s.spelled refl
nodes_back bytes (n ∷ ns) zero s le = absurd (omega (arith, le, ap length s.spelled, length-append (node_bytes n) (flat_map node_bytes ns), ap length (node_parts n)))
nodes_back bytes (n ∷ ns) (suc limit) s le =
    let more = flat_map node_bytes ns in
    let parts : bytes ≡ kind n ∷ (ends_bytes n ++ more) = s.spelled ∙ ap (λ (t : List ℕ). t ++ more) (node_parts n) in
    let behind : drop (2 * kind n) (ends_bytes n ++ more) ≡ more = drop_at (ends_bytes n) more (2 * kind n) (many_bytes n s.packable.0 s.fit.0) in
    let short : length more ≤ limit = omega (arith, le, ap length parts, length-append (ends_bytes n) more) in
    let others = nodes_back more ns limit (record { spelled = refl; packable = s.packable.1; fit = s.fit.1 }) short in
    rw (parts, behind, one_back n more s.packable.0 s.fit.0, others) refl

pub read_back : (bytes : List ℕ) (ns : List Node) → SpellNodes bytes ns → nodes_in_bytes bytes ≡ ns
read_back bytes ns s = nodes_back bytes ns (length bytes) s (omega arith)

pub spelled_themselves : (bytes : List ℕ) (ns : List Node) → SpellNodes bytes ns → SpellNodes bytes (nodes_in_bytes bytes)
spelled_themselves bytes ns s = subst (λ (ms : List Node). SpellNodes bytes ms) (sym (read_back bytes ns s)) s

pub no_more_than_bytes : (bytes : List ℕ) (ns : List Node) → SpellNodes bytes ns → length ns ≤ length bytes
no_more_than_bytes bytes ns s = omega (arith, ap length s.spelled, each_a_byte ns)
  where
    each_a_byte : (ns : List Node) → length ns ≤ length (flat_map node_bytes ns)
    each_a_byte [] = omega arith
    each_a_byte (n ∷ ns) = omega (arith, each_a_byte ns, length-append (node_bytes n) (flat_map node_bytes ns), ap length (node_parts n))

-- ---- one more behind them

all_more : (P : Node → Type 0) (ns : List Node) (n : Node) → AllByRecursion P ns → P n → AllByRecursion P (ns ++ n ∷ [])
all_more P [] n h p = (p, tt)
all_more P (m ∷ ns) n h p = (h.0, all_more P ns n h.1 p)

pub spelled_more : (bytes : List ℕ) (ns : List Node) (n : Node) → SpellNodes bytes ns → IsPackable n → FitsNode n → SpellNodes (bytes ++ node_bytes n) (ns ++ n ∷ [])
spelled_more bytes ns n s p f = record {
  spelled = ap (λ (t : List ℕ). t ++ node_bytes n) s.spelled ∙ sym (flat_map-append node_bytes ns (n ∷ []) ∙ ap (λ (t : List ℕ). flat_map node_bytes ns ++ t) (append-nil (node_bytes n)));
  packable = all_more IsPackable ns n s.packable p;
  fit = all_more FitsNode ns n s.fit f;
}

-- ---- the first one taken

pub record IsFirstTaken (k : ℕ) (rest : List ℕ) (ns : List Node) : Type 0 where
  pub most : k ≤ 4
  pub whole : 2 * k ≤ length rest
  pub nodes : ns ≡ first_node k (take (2 * k) rest) ∷ nodes_in_bytes (drop (2 * k) rest)
  pub spelled : SpellNodes (drop (2 * k) rest) (nodes_in_bytes (drop (2 * k) rest))

pub first_taken : (k : ℕ) (rest : List ℕ) (ns : List Node) → SpellNodes (k ∷ rest) ns → IsFirstTaken k rest ns
first_taken k rest [] s = absurd (let h = s.spelled in cc)
first_taken k rest (n ∷ ns) s =
    let more = flat_map node_bytes ns in
    let parts : k ∷ rest ≡ kind n ∷ (ends_bytes n ++ more) = s.spelled ∙ ap (λ (t : List ℕ). t ++ more) (node_parts n) in
    let k_is : k ≡ kind n = cc in
    let rest_is : rest ≡ ends_bytes n ++ more = cc in
    let many = many_bytes n s.packable.0 s.fit.0 in
    let behind : drop (2 * kind n) (ends_bytes n ++ more) ≡ more = drop_at (ends_bytes n) more (2 * kind n) many in
    let others : SpellNodes more ns = record { spelled = refl; packable = s.packable.1; fit = s.fit.1 } in
    subst (λ (j : ℕ). IsFirstTaken j rest (n ∷ ns)) (sym k_is) (subst (λ (r : List ℕ). IsFirstTaken (kind n) r (n ∷ ns)) (sym rest_is) (record {
      most = kind_most n s.packable.0;
      whole = omega (arith, many, length-append (ends_bytes n) more);
      nodes = rw (take_at (ends_bytes n) more (2 * kind n) many, alone_back n s.packable.0 s.fit.0, behind, read_back more ns others) refl;
      spelled = rw behind (spelled_themselves more ns others);
    }))

pub many_more : (ns : List Node) (n : Node) → length (ns ++ n ∷ []) ≡ length ns + 1
many_more ns n = omega (arith, length-append ns (n ∷ []))

-- one node more, in the bytes that are there now
pub more_bytes : (old new : List ℕ) (n : Node) → SpellNodes old (nodes_in_bytes old) → new ≡ old ++ node_bytes n → IsPackable n → FitsNode n → SpellNodes new (nodes_in_bytes old ++ n ∷ [])
more_bytes old new n s is p f = rw is (spelled_more old (nodes_in_bytes old) n s p f)
