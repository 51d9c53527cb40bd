-- Nodes and trees: what is read is spelled so and in order, and what is spelled so and in order is read.
use Rattle.std.proofs.Common.{◌≡◌, ℕ, zero, suc, ◌^◌, ◌<◌, Bool, true, false, cond, eqb, List, [], ◌∷◌, ◌++◌, length, Option, Some, None, Result, Ok, Err, refl, sym, ap, subst, ◌∙◌, append_assoc, arith, lit<, lit≤}
use Rattle.std.specs.List.{flat_map, AllByRecursion}
use Rattle.std.specs.Int.{w16, w64}
use Rattle.std.proofs.lemmas.Bool.{ltb-true, lt-ltb, eqb-true}
use Rattle.sight_names.specs.declared.faults.CertFault.{CertFault}
use Rattle.sight_names.specs.declared.faults.CertFault.TheVariants as faults
use Rattle.block_evidence.specs.declared.sight_tree.Node.{Node}
use Rattle.block_evidence.specs.declared.sight_tree.Node.TheVariants.{Open, Blocked}
use Rattle.block_evidence.specs.declared.sight_tree.Tree.{Tree}
use Rattle.cert_format.specs.declared.cert.Sizes.{Sizes}
use Rattle.block_evidence.specs.SightTree.Spelling.{u16, FitsNode, node_bytes}
use Rattle.cert_format.specs.Grammar.{u64, IsNodeInOrder, tree_bytes}
use Rattle.sight_names.specs.Order.{Ascends}
use Rattle.cert_format.specs.Reading.{begins_at, comes_after, end_at, two_ends_at, three_ends_at, four_ends_at, node_at, nodes_at, tree_at}
use Rattle.cert_format.proofs.FieldLaws.{IsBytes, bind_ok, passed_ok, ok_is, Takes, Takes-then, wide16, wide64, number_takes, number_again, below_takes, below_again}
use Rattle.cert_format.proofs.RecordLaws.{AreTaken, records_take, records_again, IsChain, ascends_of_chain, chain_of_ascends}

abbrev pub NumberAfter : Option ℕ → ℕ → Type 0
NumberAfter None n = Unit {0}
NumberAfter (Some o) n = o < n

pub number_after_is : (k : Option ℕ) (n : ℕ) → comes_after k n ≡ true → NumberAfter k n
number_after_is None n h = tt
number_after_is (Some o) n h = ltb-true _ _ h

pub number_after_test : (k : Option ℕ) (n : ℕ) → NumberAfter k n → comes_after k n ≡ true
number_after_test None n h = refl
number_after_test (Some o) n h = lt-ltb _ _ h

end_takes : (total : ℕ) (k : Option ℕ) (bytes : List ℕ) (x : ℕ × List ℕ) → IsBytes bytes → end_at total k bytes ≡ Ok x → Takes bytes (u16 x.0) x.1 × (x.0 < 2 ^ 16) × NumberAfter k x.0
unfolding end_at
end_takes total k bytes x fits e =
    let a = bind_ok _ _ x e in
    let g = passed_ok _ _ a.0 x a.2 in
    let t = number_takes w16 (2 ^ 16) wide16 total bytes a.0 fits a.1 in
    subst (λ (y : ℕ × List ℕ). Takes bytes (u16 y.0) y.1 × (y.0 < 2 ^ 16) × NumberAfter k y.0) g.1 (t.0, t.1, number_after_is k a.0.0 g.0)

end_again : (total : ℕ) (k : Option ℕ) (n : ℕ) (rest : List ℕ) → n < 2 ^ 16 → NumberAfter k n → end_at total k (u16 n ++ rest) ≡ Ok (n, rest)
unfolding end_at
end_again total k n rest lt after = rw (number_again w16 (2 ^ 16) wide16 total n rest lt, number_after_test k n after) refl

-- ---- the ends of a blocked node

abbrev Key : ℕ → Option ℕ
Key n = Some n

ends_ascend : (xs : List ℕ) → IsChain (end_at 0) Key u16 (λ n. n < 2 ^ 16) NumberAfter None xs → Ascends (λ x y. x < y) xs
ends_ascend xs chain = ascends_of_chain (end_at 0) Key u16 (λ n. n < 2 ^ 16) NumberAfter (λ x y z h g. omega (arith, h, g)) None xs chain

ends_chain : (xs : List ℕ) → Ascends (λ x y. x < y) xs → IsChain (end_at 0) Key u16 (λ n. n < 2 ^ 16) NumberAfter None xs
ends_chain xs ascends = chain_of_ascends (end_at 0) Key u16 (λ n. n < 2 ^ 16) NumberAfter None xs (λ x. tt) ascends

-- a node that is read: what was taken, its order, and that its numbers fit
pub record FitsInOrder (n : Node) : Type 0 where
  pub in_order : IsNodeInOrder n
  pub fits : FitsNode n

pub record IsNodeTaken (first : ℕ) (bytes : List ℕ) (n : Node) (rest : List ℕ) : Type 0 where
  pub takes : Takes (first ∷ bytes) (node_bytes n) rest
  pub fits : FitsInOrder n

with_first : (first : ℕ) (bytes text rest : List ℕ) → Takes bytes text rest → Takes (first ∷ bytes) (first ∷ text) rest
with_first first bytes text rest t = record { parts = ap (λ (y : List ℕ). first ∷ y) t.parts; rest_fits = t.rest_fits }

two_take : (total : ℕ) (bytes : List ℕ) (x : Node × List ℕ) → IsBytes bytes → two_ends_at total bytes ≡ Ok x → IsNodeTaken 2 bytes x.0 x.1
unfolding two_ends_at
two_take total bytes x fits e =
    let a = bind_ok _ _ x e in
    let b = bind_ok _ _ x a.2 in
    let made : Node × List ℕ = (Blocked (record { count = 2; ends = a.0.0 ∷ b.0.0 ∷ 0 ∷ 0 ∷ [] }), b.0.1) in
    let t0 = end_takes total None bytes a.0 fits a.1 in
    let t1 = end_takes total (Some a.0.0) a.0.1 b.0 t0.0.rest_fits b.1 in
    let e1 = Takes-then bytes (u16 a.0.0) a.0.1 (u16 b.0.0) b.0.1 t0.0 t1.0 in
    subst (λ (y : Node × List ℕ). IsNodeTaken 2 bytes y.0 y.1) {x = made} (ok_is made x b.2) (record {
      takes = with_first 2 bytes (u16 a.0.0 ++ u16 b.0.0) b.0.1 e1;
      fits = record {
        in_order = record { least = lit≤ tt; most = lit≤ tt; ascend = ends_ascend (a.0.0 ∷ b.0.0 ∷ []) (tt, (t1.2, tt)); unused = (refl, (refl, tt)) };
        fits = (refl, (t0.1, (t1.1, (lit< tt, (lit< tt, tt)))));
      };
    })

three_take : (total : ℕ) (bytes : List ℕ) (x : Node × List ℕ) → IsBytes bytes → three_ends_at total bytes ≡ Ok x → IsNodeTaken 3 bytes x.0 x.1
unfolding three_ends_at
three_take total bytes x fits e =
    let a = bind_ok _ _ x e in
    let b = bind_ok _ _ x a.2 in
    let c = bind_ok _ _ x b.2 in
    let made : Node × List ℕ = (Blocked (record { count = 3; ends = a.0.0 ∷ b.0.0 ∷ c.0.0 ∷ 0 ∷ [] }), c.0.1) in
    let t0 = end_takes total None bytes a.0 fits a.1 in
    let t1 = end_takes total (Some a.0.0) a.0.1 b.0 t0.0.rest_fits b.1 in
    let t2 = end_takes total (Some b.0.0) b.0.1 c.0 t1.0.rest_fits c.1 in
    let e1 = Takes-then bytes (u16 a.0.0) a.0.1 (u16 b.0.0) b.0.1 t0.0 t1.0 in
    let e2 = Takes-then bytes (u16 a.0.0 ++ u16 b.0.0) b.0.1 (u16 c.0.0) c.0.1 e1 t2.0 in
    subst (λ (y : Node × List ℕ). IsNodeTaken 3 bytes y.0 y.1) {x = made} (ok_is made x c.2) (record {
      takes = with_first 3 bytes (u16 a.0.0 ++ (u16 b.0.0 ++ u16 c.0.0)) c.0.1 (subst (λ (t : List ℕ). Takes bytes t c.0.1) (append_assoc (u16 a.0.0) (u16 b.0.0) (u16 c.0.0)) e2);
      fits = record {
        in_order = record { least = lit≤ tt; most = lit≤ tt; ascend = ends_ascend (a.0.0 ∷ b.0.0 ∷ c.0.0 ∷ []) (tt, (t1.2, (t2.2, tt))); unused = (refl, tt) };
        fits = (refl, (t0.1, (t1.1, (t2.1, (lit< tt, tt)))));
      };
    })

four_take : (total : ℕ) (bytes : List ℕ) (x : Node × List ℕ) → IsBytes bytes → four_ends_at total bytes ≡ Ok x → IsNodeTaken 4 bytes x.0 x.1
unfolding four_ends_at
four_take total bytes x fits e =
    let a = bind_ok _ _ x e in
    let b = bind_ok _ _ x a.2 in
    let c = bind_ok _ _ x b.2 in
    let d = bind_ok _ _ x c.2 in
    let made : Node × List ℕ = (Blocked (record { count = 4; ends = a.0.0 ∷ b.0.0 ∷ c.0.0 ∷ d.0.0 ∷ [] }), d.0.1) in
    let t0 = end_takes total None bytes a.0 fits a.1 in
    let t1 = end_takes total (Some a.0.0) a.0.1 b.0 t0.0.rest_fits b.1 in
    let t2 = end_takes total (Some b.0.0) b.0.1 c.0 t1.0.rest_fits c.1 in
    let t3 = end_takes total (Some c.0.0) c.0.1 d.0 t2.0.rest_fits d.1 in
    let e2 = Takes-then b.0.1 (u16 c.0.0) c.0.1 (u16 d.0.0) d.0.1 t2.0 t3.0 in
    let e1 = Takes-then a.0.1 (u16 b.0.0) b.0.1 (u16 c.0.0 ++ u16 d.0.0) d.0.1 t1.0 e2 in
    let e0 = Takes-then bytes (u16 a.0.0) a.0.1 (u16 b.0.0 ++ (u16 c.0.0 ++ u16 d.0.0)) d.0.1 t0.0 e1 in
    subst (λ (y : Node × List ℕ). IsNodeTaken 4 bytes y.0 y.1) {x = made} (ok_is made x d.2) (record {
      takes = with_first 4 bytes (u16 a.0.0 ++ (u16 b.0.0 ++ (u16 c.0.0 ++ u16 d.0.0))) d.0.1 e0;
      fits = record {
        in_order = record { least = lit≤ tt; most = lit≤ tt; ascend = ends_ascend (a.0.0 ∷ b.0.0 ∷ c.0.0 ∷ d.0.0 ∷ []) (tt, (t1.2, (t2.2, (t3.2, tt)))); unused = tt };
        fits = (refl, (t0.1, (t1.1, (t2.1, (t3.1, tt)))));
      };
    })

-- ---- nodes

pub node_takes : (total : ℕ) (bytes : List ℕ) (x : Node × List ℕ) → IsBytes bytes → node_at total bytes ≡ Ok x → Takes bytes (node_bytes x.0) x.1 × FitsInOrder x.0
unfolding node_at
node_takes total [] x fits e = absurd cc
node_takes total (k ∷ bytes) x fits e = by_zero (eqb k 0) refl e
  where
    rest_fits : IsBytes bytes
    rest_fits i = fits (suc i)

    found : (first : ℕ) → eqb k first ≡ true → IsNodeTaken first bytes x.0 x.1 → Takes (k ∷ bytes) (node_bytes x.0) x.1 × FitsInOrder x.0
    found first h t = (subst (λ (f : ℕ). Takes (f ∷ bytes) (node_bytes x.0) x.1) (sym (eqb-true _ _ h)) t.takes, t.fits)

    by_four : (b : Bool) → eqb k 4 ≡ b → cond b (four_ends_at total bytes) (Err (faults.OutOfRange (begins_at total (k ∷ bytes)))) ≡ Ok x → Takes (k ∷ bytes) (node_bytes x.0) x.1 × FitsInOrder x.0
    by_four true h e = found 4 h (four_take total bytes x rest_fits e)
    by_four false h e = absurd cc

    by_three : (b : Bool) → eqb k 3 ≡ b → cond b (three_ends_at total bytes) (cond (eqb k 4) (four_ends_at total bytes) (Err (faults.OutOfRange (begins_at total (k ∷ bytes))))) ≡ Ok x → Takes (k ∷ bytes) (node_bytes x.0) x.1 × FitsInOrder x.0
    by_three true h e = found 3 h (three_take total bytes x rest_fits e)
    by_three false h e = by_four (eqb k 4) refl e

    by_two : (b : Bool) → eqb k 2 ≡ b → cond b (two_ends_at total bytes) (cond (eqb k 3) (three_ends_at total bytes) (cond (eqb k 4) (four_ends_at total bytes) (Err (faults.OutOfRange (begins_at total (k ∷ bytes)))))) ≡ Ok x → Takes (k ∷ bytes) (node_bytes x.0) x.1 × FitsInOrder x.0
    by_two true h e = found 2 h (two_take total bytes x rest_fits e)
    by_two false h e = by_three (eqb k 3) refl e

    opened : Node × List ℕ
    opened = (Open, bytes)

    is_open : IsNodeTaken 0 bytes Open bytes
    is_open = record { takes = record { parts = refl; rest_fits = rest_fits }; fits = record { in_order = tt; fits = tt } }

    by_zero : (b : Bool) → eqb k 0 ≡ b → cond b (Ok (Open, bytes)) (cond (eqb k 2) (two_ends_at total bytes) (cond (eqb k 3) (three_ends_at total bytes) (cond (eqb k 4) (four_ends_at total bytes) (Err (faults.OutOfRange (begins_at total (k ∷ bytes))))))) ≡ Ok x → Takes (k ∷ bytes) (node_bytes x.0) x.1 × FitsInOrder x.0
    by_zero true h e = found 0 h (subst (λ (y : Node × List ℕ). IsNodeTaken 0 bytes y.0 y.1) {x = (Open, bytes)} (ok_is (Open, bytes) x e) is_open)
    by_zero false h e = by_two (eqb k 2) refl e

two_again : (total a b : ℕ) (rest : List ℕ) → a < 2 ^ 16 → b < 2 ^ 16 → a < b → two_ends_at total (u16 a ++ (u16 b ++ rest)) ≡ Ok (Blocked (record { count = 2; ends = a ∷ b ∷ 0 ∷ 0 ∷ [] }), rest)
unfolding two_ends_at
two_again total a b rest fa fb ab = rw (end_again total None a (u16 b ++ rest) fa tt, end_again total (Some a) b rest fb ab) refl

three_again : (total a b c : ℕ) (rest : List ℕ) → a < 2 ^ 16 → b < 2 ^ 16 → c < 2 ^ 16 → a < b → b < c → three_ends_at total (u16 a ++ (u16 b ++ (u16 c ++ rest))) ≡ Ok (Blocked (record { count = 3; ends = a ∷ b ∷ c ∷ 0 ∷ [] }), rest)
unfolding three_ends_at
three_again total a b c rest fa fb fc ab bc = rw (end_again total None a (u16 b ++ (u16 c ++ rest)) fa tt, end_again total (Some a) b (u16 c ++ rest) fb ab, end_again total (Some b) c rest fc bc) refl

four_again : (total a b c d : ℕ) (rest : List ℕ) → a < 2 ^ 16 → b < 2 ^ 16 → c < 2 ^ 16 → d < 2 ^ 16 → a < b → b < c → c < d → four_ends_at total (u16 a ++ (u16 b ++ (u16 c ++ (u16 d ++ rest)))) ≡ Ok (Blocked (record { count = 4; ends = a ∷ b ∷ c ∷ d ∷ [] }), rest)
unfolding four_ends_at
four_again total a b c d rest fa fb fc fd ab bc cd =
    rw (end_again total None a (u16 b ++ (u16 c ++ (u16 d ++ rest))) fa tt, end_again total (Some a) b (u16 c ++ (u16 d ++ rest)) fb ab, end_again total (Some b) c (u16 d ++ rest) fc bc, end_again total (Some c) d rest fd cd) refl

-- evidence of so many ends, in these four places
abbrev blocked_node : ℕ → ℕ → ℕ → ℕ → ℕ → Node
blocked_node k a b c d = Blocked (record { count = k; ends = a ∷ b ∷ c ∷ d ∷ [] })

blocked_again : (total k a b c d : ℕ) (rest : List ℕ) → FitsInOrder (blocked_node k a b c d) → node_at total (node_bytes (blocked_node k a b c d) ++ rest) ≡ Ok (blocked_node k a b c d, rest)
unfolding node_at
blocked_again total zero a b c d rest fits = absurd (let h = fits.in_order.least in omega arith)
blocked_again total (suc zero) a b c d rest fits = absurd (let h = fits.in_order.least in omega arith)
blocked_again total (suc (suc zero)) a b c d rest fits =
    let chain = ends_chain (a ∷ b ∷ []) fits.in_order.ascend in
    let unused = fits.in_order.unused in
    let f = fits.fits.1 in
    two_again total a b rest f.0 f.1.0 chain.1.0
    ∙ ap (λ (x : ℕ). shape (blocked_node 2 a b x 0) rest) (sym unused.0) ∙ ap (λ (x : ℕ). shape (blocked_node 2 a b c x) rest) (sym unused.1.0)
  where
    shape : Node → List ℕ → Result (Node × List ℕ) CertFault
    shape n r = Ok (n, r)
blocked_again total (suc (suc (suc zero))) a b c d rest fits =
    let chain = ends_chain (a ∷ b ∷ c ∷ []) fits.in_order.ascend in
    let unused = fits.in_order.unused in
    let f = fits.fits.1 in
    three_again total a b c rest f.0 f.1.0 f.1.1.0 chain.1.0 chain.1.1.0
    ∙ ap (λ (x : ℕ). shape (blocked_node 3 a b c x) rest) (sym unused.0)
  where
    shape : Node → List ℕ → Result (Node × List ℕ) CertFault
    shape n r = Ok (n, r)
blocked_again total (suc (suc (suc (suc zero)))) a b c d rest fits =
    let chain = ends_chain (a ∷ b ∷ c ∷ d ∷ []) fits.in_order.ascend in
    let f = fits.fits.1 in
    four_again total a b c d rest f.0 f.1.0 f.1.1.0 f.1.1.1.0 chain.1.0 chain.1.1.0 chain.1.1.1.0
blocked_again total (suc (suc (suc (suc (suc k))))) a b c d rest fits = absurd (let h = fits.in_order.most in omega arith)

evidence_again : (total k : ℕ) (xs : List ℕ) (rest : List ℕ) → FitsInOrder (Blocked (record { count = k; ends = xs })) → length xs ≡ 4 → node_at total (node_bytes (Blocked (record { count = k; ends = xs })) ++ rest) ≡ Ok (Blocked (record { count = k; ends = xs }), rest)
evidence_again total k [] rest fits h = absurd (omega (arith, h))
evidence_again total k (a ∷ []) rest fits h = absurd (omega (arith, h))
evidence_again total k (a ∷ b ∷ []) rest fits h = absurd (omega (arith, h))
evidence_again total k (a ∷ b ∷ c ∷ []) rest fits h = absurd (omega (arith, h))
evidence_again total k (a ∷ b ∷ c ∷ d ∷ []) rest fits h = blocked_again total k a b c d rest fits
evidence_again total k (a ∷ b ∷ c ∷ d ∷ e ∷ xs) rest fits h = absurd (omega (arith, h))

pub node_again : (total : ℕ) (n : Node) (rest : List ℕ) → FitsInOrder n → node_at total (node_bytes n ++ rest) ≡ Ok (n, rest)
unfolding node_at
node_again total Open rest fits = refl
node_again total (Blocked e) rest fits = evidence_again total e.count e.ends rest fits fits.fits.0

-- ---- trees

abbrev NoOrder : ℕ → Node → Type 0
NoOrder k n = Unit {0}

pub nodes_take : (total n : ℕ) (bytes : List ℕ) (x : List Node × List ℕ) → IsBytes bytes → nodes_at total n bytes ≡ Ok x → AreTaken (λ (k : ℕ). node_at total) (λ n. 0) node_bytes FitsInOrder NoOrder 0 n bytes x.0 x.1
nodes_take total n bytes x fits e =
    records_take (λ (k : ℕ). node_at total) (λ n. 0) node_bytes FitsInOrder NoOrder (λ k bytes x fits e. let t = node_takes total bytes x fits e in (t.0, t.1, tt)) n 0 bytes x fits e

no_chain : (total k : ℕ) (ns : List Node) → IsChain (λ (k : ℕ). node_at total) (λ n. 0) node_bytes FitsInOrder NoOrder k ns
no_chain total k [] = tt
no_chain total k (n ∷ ns) = (tt, no_chain total 0 ns)

nodes_again : (total : ℕ) (ns : List Node) (rest : List ℕ) → AllByRecursion FitsInOrder ns → nodes_at total (length ns) (flat_map node_bytes ns ++ rest) ≡ Ok (ns, rest)
nodes_again total ns rest fits =
    records_again (λ (k : ℕ). node_at total) (λ n. 0) node_bytes FitsInOrder NoOrder (λ k n rest fits after. node_again total n rest fits) 0 ns rest fits (no_chain total 0 ns)

pub in_orders : (ns : List Node) → AllByRecursion FitsInOrder ns → AllByRecursion IsNodeInOrder ns
in_orders [] h = tt
in_orders (n ∷ ns) h = (h.0.in_order, in_orders ns h.1)

pub all_fit : (ns : List Node) → AllByRecursion FitsInOrder ns → AllByRecursion FitsNode ns
all_fit [] h = tt
all_fit (n ∷ ns) h = (h.0.fits, all_fit ns h.1)

pub fit_in_order : (ns : List Node) → AllByRecursion IsNodeInOrder ns → AllByRecursion FitsNode ns → AllByRecursion FitsInOrder ns
fit_in_order [] h g = tt
fit_in_order (n ∷ ns) h g = (record { in_order = h.0; fits = g.0 }, fit_in_order ns h.1 g.1)

pub record FitsTree (sizes : Sizes) (t : Tree) : Type 0 where
  pub source : t.source < sizes.sectors
  pub count : length t.nodes < 2 ^ 64
  pub nodes : AllByRecursion FitsInOrder t.nodes

abbrev pub TreeAfter : Option ℕ → Tree → Type 0
TreeAfter k t = NumberAfter k t.source

pub tree_takes : (sizes : Sizes) (total : ℕ) (k : Option ℕ) (bytes : List ℕ) (x : Tree × List ℕ) → IsBytes bytes → tree_at sizes total k bytes ≡ Ok x → Takes bytes (tree_bytes x.0) x.1 × FitsTree sizes x.0 × TreeAfter k x.0
unfolding tree_at
tree_takes sizes total k bytes x fits e =
    let s = bind_ok _ _ x e in
    let o = bind_ok _ _ x s.2 in
    let g = passed_ok _ _ s.0 o.0 o.1 in
    let n = bind_ok _ _ x o.2 in
    let ns = bind_ok _ _ x n.2 in
    let t : Tree = record { source = o.0.0; nodes = ns.0.0 } in
    let made : Tree × List ℕ = (t, ns.0.1) in
    let t0' = below_takes sizes.sectors total bytes s.0 fits s.1 in
    let both = subst (λ (y : ℕ × List ℕ). Takes bytes (u16 y.0) y.1 × (y.0 < sizes.sectors) × NumberAfter k y.0) {x = s.0} g.1 (t0'.0, t0'.1, number_after_is k s.0.0 g.0) in
    let t1 = number_takes w64 (2 ^ 64) wide64 total o.0.1 n.0 both.0.rest_fits n.1 in
    let t2 = nodes_take total n.0.0 n.0.1 ns.0 t1.0.rest_fits ns.1 in
    let counted : Takes o.0.1 (u64 (length ns.0.0)) n.0.1 = subst (λ (j : ℕ). Takes o.0.1 (u64 j) n.0.1) (sym t2.count) t1.0 in
    let e1 = Takes-then bytes (u16 o.0.0) o.0.1 (u64 (length ns.0.0)) n.0.1 both.0 counted in
    let e2 = Takes-then bytes (u16 o.0.0 ++ u64 (length ns.0.0)) n.0.1 (flat_map node_bytes ns.0.0) ns.0.1 e1 t2.takes in
    let in_range : FitsTree sizes t = record { source = both.1; count = omega (arith, t2.count, t1.1); nodes = t2.fit } in
    subst (λ (y : Tree × List ℕ). Takes bytes (tree_bytes y.0) y.1 × FitsTree sizes y.0 × TreeAfter k y.0) {x = made} (ok_is made x ns.2) (e2, in_range, both.2)

pub tree_again : (sizes : Sizes) → sizes.sectors < 2 ^ 16 → (total : ℕ) (k : Option ℕ) (t : Tree) (rest : List ℕ) → FitsTree sizes t → TreeAfter k t → tree_at sizes total k (tree_bytes t ++ rest) ≡ Ok (t, rest)
unfolding tree_at
tree_again sizes small total k t rest fits after =
    let s0 = u16 t.source in
    let s1 = u64 (length t.nodes) in
    let s2 = flat_map node_bytes t.nodes in
    let regrouped : tree_bytes t ++ rest ≡ s0 ++ (s1 ++ (s2 ++ rest)) = append_assoc (s0 ++ s1) s2 rest ∙ append_assoc s0 s1 (s2 ++ rest) in
    ap (tree_at sizes total k) regrouped
    ∙ rw (
      below_again sizes.sectors total t.source (s1 ++ (s2 ++ rest)) small fits.source,
      number_after_test k t.source after,
      number_again w64 (2 ^ 64) wide64 total (length t.nodes) (s2 ++ rest) fits.count,
      nodes_again total t.nodes rest fits.nodes,
    ) refl
