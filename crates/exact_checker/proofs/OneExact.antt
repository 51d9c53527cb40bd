-- The checker has one answer for a certificate of version 3: two that meet what is promised over one map of groups are equal. And what is
-- promised goes by the bits of the table alone.
use Rattle.std.proofs.Common.{◌≡◌, ℕ, ◌<◌, ◌≤◌, ◌⊎◌, inl, inr, List, [], refl, sym, ◌∙◌, ap, arith, subst}
use Rattle.std.proofs.lemmas.Option.{same_Some}
use Rattle.math_base.proofs.Lists.{contains_none}
use Rattle.math_base.proofs.Numbers.{below_same_or_above}
use Rattle.sight_names.specs.declared.faults.CheckFault.TheVariants.{Mesh, Ray, Tree as OfTree, ListedSet, Unproved, Uncovered}
use Rattle.sight_names.specs.Map.{Map}
use Rattle.sight_names.specs.Mesh.{IsGoodMesh}
use Rattle.reject_bits.specs.Parts.{TableParts}
use Rattle.block_evidence.specs.declared.sight_tree.Node.{Node}
use Rattle.cert_format.specs.Accepted.{labels_of, triangles_of}
use Rattle.cert_format.specs.declared.cert_groups.cert.CertTwo.{CertTwo}
use Rattle.certificates.specs.declared.cert_exact.cert.ExactParts.{ExactParts}
use Rattle.certificates.specs.CertExact.Grammar.{as_two}
use Rattle.cert_checker.specs.declared.verdict.Totals.{Totals}
use Rattle.cert_checker.specs.declared.verdict.Verdict.{Verdict}
use Rattle.cert_checker.specs.declared.verdict.Verdict.TheVariants.{Yes as YesOne, No as NoOne}
use Rattle.cert_checker.specs.Judged.{JudgesRays}
use Rattle.cert_checker.proofs.OneVerdict.{one_totals}
use Rattle.cert_checker.proofs.SameBits.{HaveOneBits, clear_back, clear_same, in_first, in_map, in_other, low, set_back, set_same, totals_same}
use Rattle.group_checker.specs.declared.verdict.AnyFault.{AnyFault}
use Rattle.group_checker.specs.declared.verdict.AnyFault.TheVariants.{Check, Group, Unused}
use Rattle.group_checker.specs.declared.verdict.AnyVerdict.{AnyVerdict}
use Rattle.group_checker.specs.declared.verdict.AnyVerdict.TheVariants.{Yes, No}
use Rattle.group_checker.specs.Judged.{InWordsOfOne, TellsGroups, TellsMesh, TellsPairsOfTwo}
use Rattle.group_checker.proofs.OneAny.{IsPromised as IsPromisedOfTwo, one_two}
use Rattle.cert_checker.specs.AcceptedGroups.Accepted.{IsGroupedSeen}
use Rattle.gate_floods.specs.Exact.{IsClaimedBlind}
use Rattle.gate_floods.specs.RowJudge.Asked.{IsFirstWrongInRow, pending_roots}
use Rattle.cert_checker.specs.TreeJudge.Roots.{root_edges}
use Rattle.exact_checker.specs.Judged.{AreTreesKept, IsFirstTreeWrong, IsPairRight, IsExactPairReached, JudgesTreesOfThree, TellsPairsOfThree}
use Rattle.gate_floods.proofs.RowJudge.OneRow.{one_first_wrong}

-- ---- trees

module _ (g : Map) (c : ExactParts) (good : IsGoodMesh g (triangles_of (as_two c).cert) (labels_of (as_two c).cert)) where
  one_number : (s k j : ℕ) → IsFirstTreeWrong g c s k → IsFirstTreeWrong g c s j → k ≡ j
  one_number s k j f h =
      let same : h.nodes ≡ f.nodes = same_Some h.nodes f.nodes (sym h.is ∙ f.is) in
      one_first_wrong g (triangles_of (as_two c).cert) (labels_of (as_two c).cert) good (IsClaimedBlind g (as_two c).cert) f.plan h.plan f.of_map h.of_map f.edges h.edges f.are_edges h.are_edges f.masks h.masks f.are_masks h.are_masks
      s f.nodes f.row h.row k j (λ n. ((λ e. (h.kept n).1 ((f.kept n).0 e)), (λ e. (f.kept n).1 ((h.kept n).0 e)))) f.node
      (subst (λ (ns : List Node). IsFirstWrongInRow h.edges h.masks s (pending_roots h.masks h.row (root_edges (triangles_of (as_two c).cert) h.edges g s)) ns j) same h.node)

  -- the first tree that doesn't keep is one, and so is its first wrong node
  one_wrong_tree : (s k u j : ℕ) → IsFirstTreeWrong g c s k → IsFirstTreeWrong g c u j → (s ≡ u) × (k ≡ j)
  one_wrong_tree s k u j f h = by (below_same_or_above s u)
    where
      by : (s < u) ⊎ (s ≡ u) ⊎ (u < s) → (s ≡ u) × (k ≡ j)
      by (inl l) = absurd (f.not_kept (h.before s f.nodes l f.is))
      by (inr (inl e)) = (e, one_number s k j f (subst (λ (n : ℕ). IsFirstTreeWrong g c n j) (sym e) h))
      by (inr (inr l)) = absurd (h.not_kept (f.before u h.nodes l h.is))

-- ---- pairs

module _ (t : TableParts) (c : CertTwo) where
  -- the pair isn't right, and all before it are
  record IsWrongAt (a b : ℕ) : Type 0 where
    reached : IsExactPairReached t c a b
    wrong : ¬ IsPairRight t c a b

  one_wrong_pair : (a b d e : ℕ) → IsWrongAt a b → IsWrongAt d e → (a ≡ d) × (b ≡ e)
  one_wrong_pair a b d e f h = by (below_same_or_above a d)
    where
      by : (a < d) ⊎ (a ≡ d) ⊎ (d < a) → (a ≡ d) × (b ≡ e)
      by (inl l) = absurd (f.wrong (h.reached.rows a b l f.reached.order f.reached.within))
      by (inr (inr l)) = absurd (h.wrong (f.reached.rows d e l h.reached.order h.reached.within))
      by (inr (inl q)) = (q, second (below_same_or_above b e))
        where
          second : (b < e) ⊎ (b ≡ e) ⊎ (e < b) → b ≡ e
          second (inl l) = absurd (f.wrong (subst (λ (n : ℕ). IsPairRight t c n b) (sym q) (h.reached.row b (let o = f.reached.order in omega (arith, o, q)) l)))
          second (inr (inl r)) = r
          second (inr (inr l)) = absurd (h.wrong (subst (λ (n : ℕ). IsPairRight t c n e) q (f.reached.row e (let o = h.reached.order in omega (arith, o, q)) l)))

  unproved_wrong : (a b : ℕ) → TellsPairsOfThree t c (NoOne (Unproved a b)) → IsWrongAt a b
  unproved_wrong a b h = record { reached = h.0; wrong = λ r. r.set h.1 h.2 }

  uncovered_wrong : (a b : ℕ) → TellsPairsOfThree t c (NoOne (Uncovered a b)) → IsWrongAt a b
  uncovered_wrong a b h = record { reached = h.0; wrong = λ r. h.2 (r.clear h.1) }

  wrong_with_right : (a b : ℕ) (totals : Totals) → IsWrongAt a b → TellsPairsOfThree t c (YesOne totals) → ⊥
  wrong_with_right a b totals w h = w.wrong (h.0 a b w.reached.order w.reached.within)

-- ---- one answer

-- no pair at all
abbrev none : Totals
none = record { set = 0; clear = 0; listed = 0 }

abbrev no_table : TableParts
no_table = record { n = 0; bytes = [] }

-- the certificate without its trees
abbrev treeless : ExactParts → CertTwo
treeless c = record { groups = c.groups; cert = record { sizes = (as_two c).cert.sizes; triangles = c.triangles; rays = c.rays; listed = []; trees = [] }; listed = [] }

-- an answer that is told before the trees are judged; yes in the place of all others
abbrev early : AnyVerdict → AnyVerdict
early (No (Check (Mesh f))) = No (Check (Mesh f))
early (No (Group k)) = No (Group k)
early (No (Unused f)) = No (Unused f)
early (No (Check (Ray a b why))) = No (Check (Ray a b why))
early _ = Yes none

-- it is told once the trees are judged
abbrev IsLate : AnyVerdict → Type 0
IsLate (No (Check (Mesh f))) = ⊥
IsLate (No (Group k)) = ⊥
IsLate (No (Unused f)) = ⊥
IsLate (No (Check (Ray a b why))) = ⊥
IsLate _ = Unit {0}

abbrev IsEarly : AnyVerdict → Type 0
IsEarly v = (early v ≡ v) × (early v ≡ Yes none → ⊥)

abbrev IsNo : AnyVerdict → Type 0
IsNo (Yes t) = ⊥
IsNo (No f) = Unit {0}

no_is_yes : (f : AnyFault) → ◌≡◌ {A = AnyVerdict} (No f) (Yes none) → ⊥
no_is_yes f e = subst IsNo e tt

kind : (v : AnyVerdict) → IsEarly v ⊎ (IsLate v × (early v ≡ Yes none))
kind (No (Check (Mesh f))) = inl (refl, (λ e. no_is_yes _ e))
kind (No (Group k)) = inl (refl, (λ e. no_is_yes _ e))
kind (No (Unused f)) = inl (refl, (λ e. no_is_yes _ e))
kind (No (Check (Ray a b why))) = inl (refl, (λ e. no_is_yes _ e))
kind (No (Check (OfTree s k))) = inr (tt, refl)
kind (No (Check (ListedSet a b))) = inr (tt, refl)
kind (No (Check (Unproved a b))) = inr (tt, refl)
kind (No (Check (Uncovered a b))) = inr (tt, refl)
kind (Yes t) = inr (tt, refl)

module _ (m g : Map) (t : TableParts) (c : ExactParts) where
  -- all that is promised of an answer
  pub record IsPromised (v : AnyVerdict) : Type 0 where
    pub mesh : TellsMesh m g (as_two c) v
    pub groups : TellsGroups m (as_two c) v
    pub rays : InWordsOfOne (JudgesRays g (as_two c).cert) v
    pub trees : InWordsOfOne (JudgesTreesOfThree g c) v
    pub pairs : InWordsOfOne (TellsPairsOfThree t (as_two c)) v

  nothing : TellsPairsOfTwo g no_table (treeless c) (YesOne none)
  nothing = ((λ a b l k. absurd (omega (arith, k))), record { set = refl; listed = refl; all = refl })

  early_promised : (v : AnyVerdict) → IsPromised v → IsPromisedOfTwo m g no_table (treeless c) (early v)
  early_promised (No (Check (Mesh f))) h = record { mesh = h.mesh; groups = tt; rays = tt; trees = tt; pairs = tt }
  early_promised (No (Group k)) h = record { mesh = h.mesh; groups = h.groups; rays = tt; trees = tt; pairs = tt }
  early_promised (No (Unused f)) h = record { mesh = h.mesh; groups = h.groups; rays = tt; trees = tt; pairs = tt }
  early_promised (No (Check (Ray a b why))) h = record { mesh = h.mesh; groups = h.groups; rays = h.rays; trees = tt; pairs = tt }
  early_promised (No (Check (OfTree s k))) h = record { mesh = h.mesh; groups = h.groups; rays = h.rays; trees = λ x there. absurd (contains_none x there); pairs = nothing }
  early_promised (No (Check (ListedSet a b))) h = record { mesh = h.mesh; groups = h.groups; rays = h.rays; trees = λ x there. absurd (contains_none x there); pairs = nothing }
  early_promised (No (Check (Unproved a b))) h = record { mesh = h.mesh; groups = h.groups; rays = h.rays; trees = λ x there. absurd (contains_none x there); pairs = nothing }
  early_promised (No (Check (Uncovered a b))) h = record { mesh = h.mesh; groups = h.groups; rays = h.rays; trees = λ x there. absurd (contains_none x there); pairs = nothing }
  early_promised (Yes totals) h = record { mesh = h.mesh; groups = h.groups; rays = h.rays; trees = λ x there. absurd (contains_none x there); pairs = nothing }

  one_early : (v w : AnyVerdict) → IsPromised v → IsPromised w → early v ≡ early w
  one_early v w p q = one_two m g no_table (treeless c) (early v) (early w) (early_promised v p) (early_promised w q)

  not_kept_all : (s k : ℕ) → IsFirstTreeWrong g c s k → AreTreesKept g c → ⊥
  not_kept_all s k f all = f.not_kept (all s f.nodes f.is)

  late_tree : (s k : ℕ) (w : AnyVerdict) → IsLate w → IsPromised (No (Check (OfTree s k))) → IsPromised w → ◌≡◌ {A = AnyVerdict} (No (Check (OfTree s k))) w
  late_tree s k (No (Check (OfTree u j))) l p q = let o = one_wrong_tree g c p.mesh.1 s k u j p.trees q.trees in (λ i. No (Check (OfTree (o.0 i) (o.1 i))))
  late_tree s k (No (Check (ListedSet a b))) l p q = absurd (not_kept_all s k p.trees q.trees)
  late_tree s k (No (Check (Unproved a b))) l p q = absurd (not_kept_all s k p.trees q.trees)
  late_tree s k (No (Check (Uncovered a b))) l p q = absurd (not_kept_all s k p.trees q.trees)
  late_tree s k (Yes totals) l p q = absurd (not_kept_all s k p.trees q.trees)
  late_tree s k w l p q = absurd l

  late_yes : (x : Totals) (w : AnyVerdict) → IsLate w → IsPromised (Yes x) → IsPromised w → Yes x ≡ w
  late_yes x (No (Check (OfTree s k))) l p q = absurd (not_kept_all s k q.trees p.trees)
  late_yes x (No (Check (ListedSet a b))) l p q = absurd q.pairs
  late_yes x (No (Check (Unproved a b))) l p q = absurd (wrong_with_right t (as_two c) a b x (unproved_wrong t (as_two c) a b q.pairs) p.pairs)
  late_yes x (No (Check (Uncovered a b))) l p q = absurd (wrong_with_right t (as_two c) a b x (uncovered_wrong t (as_two c) a b q.pairs) p.pairs)
  late_yes x (Yes y) l p q = ap Yes (one_totals t [] t.n x y p.pairs.1 q.pairs.1)
  late_yes x w l p q = absurd l

  seen_with_not : (a b d e : ℕ) → TellsPairsOfThree t (as_two c) (NoOne (Unproved a b)) → TellsPairsOfThree t (as_two c) (NoOne (Uncovered d e)) → ⊥
  seen_with_not a b d e p q =
      let o = one_wrong_pair t (as_two c) a b d e (unproved_wrong t (as_two c) a b p) (uncovered_wrong t (as_two c) d e q) in
      q.2 (subst (λ (n : ℕ). IsGroupedSeen (as_two c) d n) o.1 (subst (λ (n : ℕ). IsGroupedSeen (as_two c) n b) o.0 p.2))

  late_unproved : (a b : ℕ) (w : AnyVerdict) → IsLate w → IsPromised (No (Check (Unproved a b))) → IsPromised w → ◌≡◌ {A = AnyVerdict} (No (Check (Unproved a b))) w
  late_unproved a b (No (Check (OfTree s k))) l p q = absurd (not_kept_all s k q.trees p.trees)
  late_unproved a b (No (Check (ListedSet d e))) l p q = absurd q.pairs
  late_unproved a b (No (Check (Unproved d e))) l p q = let o = one_wrong_pair t (as_two c) a b d e (unproved_wrong t (as_two c) a b p.pairs) (unproved_wrong t (as_two c) d e q.pairs) in (λ i. No (Check (Unproved (o.0 i) (o.1 i))))
  late_unproved a b (No (Check (Uncovered d e))) l p q = absurd (seen_with_not a b d e p.pairs q.pairs)
  late_unproved a b (Yes x) l p q = absurd (wrong_with_right t (as_two c) a b x (unproved_wrong t (as_two c) a b p.pairs) q.pairs)
  late_unproved a b w l p q = absurd l

  late_uncovered : (a b : ℕ) (w : AnyVerdict) → IsLate w → IsPromised (No (Check (Uncovered a b))) → IsPromised w → ◌≡◌ {A = AnyVerdict} (No (Check (Uncovered a b))) w
  late_uncovered a b (No (Check (OfTree s k))) l p q = absurd (not_kept_all s k q.trees p.trees)
  late_uncovered a b (No (Check (ListedSet d e))) l p q = absurd q.pairs
  late_uncovered a b (No (Check (Unproved d e))) l p q = absurd (seen_with_not d e a b q.pairs p.pairs)
  late_uncovered a b (No (Check (Uncovered d e))) l p q = let o = one_wrong_pair t (as_two c) a b d e (uncovered_wrong t (as_two c) a b p.pairs) (uncovered_wrong t (as_two c) d e q.pairs) in (λ i. No (Check (Uncovered (o.0 i) (o.1 i))))
  late_uncovered a b (Yes x) l p q = absurd (wrong_with_right t (as_two c) a b x (uncovered_wrong t (as_two c) a b p.pairs) q.pairs)
  late_uncovered a b w l p q = absurd l

  one_late : (v w : AnyVerdict) → IsLate v → IsLate w → IsPromised v → IsPromised w → v ≡ w
  one_late (No (Check (OfTree s k))) w l more p q = late_tree s k w more p q
  one_late (No (Check (ListedSet a b))) w l more p q = absurd p.pairs
  one_late (No (Check (Unproved a b))) w l more p q = late_unproved a b w more p q
  one_late (No (Check (Uncovered a b))) w l more p q = late_uncovered a b w more p q
  one_late (Yes x) w l more p q = late_yes x w more p q
  one_late v w l more p q = absurd l

  -- two answers of which all is so that is promised are one
  pub one_three : (v w : AnyVerdict) → IsPromised v → IsPromised w → v ≡ w
  one_three v w p q = by (kind v) (kind w)
    where
      same : early v ≡ early w
      same = one_early v w p q

      by : IsEarly v ⊎ (IsLate v × (early v ≡ Yes none)) → IsEarly w ⊎ (IsLate w × (early w ≡ Yes none)) → v ≡ w
      by (inl a) (inl b) = sym a.0 ∙ same ∙ b.0
      by (inl a) (inr b) = absurd (a.1 (same ∙ b.1))
      by (inr a) (inl b) = absurd (b.1 (sym same ∙ a.1))
      by (inr a) (inr b) = one_late v w a.0 b.0 p q

-- ---- tables of the same bits

module _ (m : Map) (c : CertTwo) (t u : TableParts) (same : HaveOneBits m t u) where
  right_same : (a b : ℕ) → a ≤ b → b < t.n → IsPairRight t c a b → IsPairRight u c a b
  right_same a b l h r = record {
    set = λ s. r.set (set_back m t u same a b (low m t u same a b l h) (in_map m t u same b h) s);
    clear = λ s. r.clear (clear_back m t u same a b (low m t u same a b l h) (in_map m t u same b h) s);
  }

  reached_same : (a b : ℕ) → IsExactPairReached t c a b → IsExactPairReached u c a b
  reached_same a b r = record {
    order = r.order;
    within = in_other m t u same b r.within;
    row = λ e l h. right_same a e l (let w = r.within in omega (arith, h, w)) (r.row e l h);
    rows = λ d e l h k. right_same d e h (in_first m t u same e k) (r.rows d e l h (in_first m t u same e k));
  }

  pairs_told : (v : Verdict) → TellsPairsOfThree t c v → TellsPairsOfThree u c v
  pairs_told (YesOne totals) h = (
    (λ a b l k. right_same a b l (in_first m t u same b k) (h.0 a b l (in_first m t u same b k))),
    totals_same m t u same [] totals h.1,
  )
  pairs_told (NoOne (Mesh f)) h = h
  pairs_told (NoOne (Ray a b why)) h = h
  pairs_told (NoOne (OfTree s k)) h = h
  pairs_told (NoOne (ListedSet a b)) h = h
  pairs_told (NoOne (Unproved a b)) h = (reached_same a b h.0, set_same m t u same a b (low m t u same a b h.0.order h.0.within) (in_map m t u same b h.0.within) h.1, h.2)
  pairs_told (NoOne (Uncovered a b)) h = (reached_same a b h.0, clear_same m t u same a b (low m t u same a b h.0.order h.0.within) (in_map m t u same b h.0.within) h.1, h.2)

  -- the same is promised of both
  pub told_same : (v : AnyVerdict) → InWordsOfOne (TellsPairsOfThree t c) v → InWordsOfOne (TellsPairsOfThree u c) v
  told_same (Yes totals) h = pairs_told (YesOne totals) h
  told_same (No (Check f)) h = pairs_told (NoOne f) h
  told_same (No (Group k)) h = h
  told_same (No (Unused f)) h = h
