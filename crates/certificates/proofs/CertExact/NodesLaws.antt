-- Nodes up to the end of their bytes: what is read is spelled so, and what is spelled so is read.
use Rattle.std.proofs.Common.{◌≡◌, ◌≢◌, ℕ, zero, suc, ◌+◌, ◌-◌, ◌≤◌, List, [], ◌∷◌, ◌++◌, length, Ok, refl, ap, subst, ◌∙◌, arith}
use Rattle.std.specs.List.{AllByRecursion}
use Rattle.std.proofs.lemmas.List.{append-nil, length-append, nil_from_length}
use Rattle.std.proofs.lemmas.List.Concat.{flat_map-cons}
use Rattle.block_evidence.specs.declared.sight_tree.Node.{Node}
use Rattle.block_evidence.specs.declared.sight_tree.Node.TheVariants.{Open, Blocked}
use Rattle.block_evidence.specs.SightTree.Spelling.{node_bytes}
use Rattle.cert_format.specs.Reading.{◌>>=◌, node_at, nodes_at, records_at}
use Rattle.cert_format.proofs.FieldLaws.{IsBytes, bind_ok, ok_is}
use Rattle.cert_format.proofs.TreeLaws.{FitsInOrder, node_takes, node_again, nodes_take}
use Rattle.certificates.specs.CertExact.Grammar.{nodes_bytes}
use Rattle.certificates.specs.CertExact.Reading.{nodes_to_end}

step : (n total : ℕ) (bytes : List ℕ) (x : Node × List ℕ) → bytes ≢ [] → node_at total bytes ≡ Ok x → nodes_to_end (suc n) total bytes ≡ (nodes_to_end n total x.1 >>= λ ns. Ok (x.0 ∷ ns))
unfolding nodes_to_end
step n total [] x some e = absurd (some refl)
step n total (b ∷ bytes) x some e = rw e refl

none_more : (n total : ℕ) → nodes_to_end n total [] ≡ Ok []
unfolding nodes_to_end
none_more zero total = refl
none_more (suc n) total = refl

-- ---- they are so many nodes

some_byte : (n : Node) (rest : List ℕ) → node_bytes n ++ rest ≢ []
some_byte Open rest = λ e. absurd cc
some_byte (Blocked e) rest = λ e. absurd cc

pub node_long : (n : Node) → 1 ≤ length (node_bytes n)
node_long Open = omega arith
node_long (Blocked e) = omega arith

one_node : (n total : ℕ) (bytes : List ℕ) (x : Node × List ℕ) (ns : List Node) → node_at total bytes ≡ Ok x → nodes_at total n x.1 ≡ Ok (ns, []) → nodes_at total (suc n) bytes ≡ Ok (x.0 ∷ ns, [])
unfolding records_at
one_node n total bytes x ns e more = rw (e, more) refl

counts : (n total : ℕ) (bytes : List ℕ) (ns : List Node) → length bytes ≤ n → IsBytes bytes → nodes_to_end n total bytes ≡ Ok ns → nodes_at total (length ns) bytes ≡ Ok (ns, [])
unfolding nodes_to_end records_at
counts zero total bytes ns le fits e =
    let b : bytes ≡ [] = nil_from_length bytes (omega (arith, le)) in
    subst (λ (ms : List Node). nodes_at total (length ms) bytes ≡ Ok (ms, [])) (ok_is [] ns e) (rw b refl)
counts (suc n) total [] ns le fits e = subst (λ (ms : List Node). nodes_at total (length ms) [] ≡ Ok (ms, [])) (ok_is [] ns e) refl
counts (suc n) total (b ∷ bytes) ns le fits e =
    let x = bind_ok (node_at total (b ∷ bytes)) (λ node. nodes_to_end n total node.1 >>= λ others. Ok (node.0 ∷ others)) ns e in
    let y = bind_ok (nodes_to_end n total x.0.1) (λ others. Ok (x.0.0 ∷ others)) ns x.2 in
    let t = node_takes total (b ∷ bytes) x.0 fits x.1 in
    let shorter : length x.0.1 ≤ n = omega (arith, le, ap length t.0.parts, length-append (node_bytes x.0.0) x.0.1, node_long x.0.0) in
    let more = counts n total x.0.1 y.0 shorter t.0.rest_fits y.1 in
    subst (λ (ms : List Node). nodes_at total (length ms) (b ∷ bytes) ≡ Ok (ms, [])) {x = x.0.0 ∷ y.0} (ok_is (x.0.0 ∷ y.0) ns y.2) (one_node (length y.0) total (b ∷ bytes) x.0 y.0 x.1 more)

-- ---- the laws

pub nodes_taken : (total : ℕ) (bytes : List ℕ) (ns : List Node) → IsBytes bytes → nodes_to_end (length bytes) total bytes ≡ Ok ns → (bytes ≡ nodes_bytes ns) × AllByRecursion FitsInOrder ns
nodes_taken total bytes ns fits e =
    let t = nodes_take total (length ns) bytes (ns, []) fits (counts (length bytes) total bytes ns (omega arith) fits e) in
    (t.takes.parts ∙ append-nil (nodes_bytes ns), t.fit)

pub nodes_again : (n total : ℕ) (ns : List Node) → length (nodes_bytes ns) ≤ n → AllByRecursion FitsInOrder ns → nodes_to_end n total (nodes_bytes ns) ≡ Ok ns
nodes_again n total [] le fits = none_more n total
nodes_again zero total (x ∷ ns) le fits = absurd (omega (arith, le, ap length (flat_map-cons node_bytes x ns), length-append (node_bytes x) (nodes_bytes ns), node_long x))
nodes_again (suc n) total (x ∷ ns) le fits =
    let shorter : length (nodes_bytes ns) ≤ n = omega (arith, le, ap length (flat_map-cons node_bytes x ns), length-append (node_bytes x) (nodes_bytes ns), node_long x) in
    ap (nodes_to_end (suc n) total) (flat_map-cons node_bytes x ns)
    ∙ step n total (node_bytes x ++ nodes_bytes ns) (x, nodes_bytes ns) (some_byte x (nodes_bytes ns)) (node_again total x (nodes_bytes ns) fits.0)
    ∙ rw (nodes_again n total ns shorter fits.1) refl
