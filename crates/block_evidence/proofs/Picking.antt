-- Evidence that names some of given ends.
use Rattle.std.proofs.Common.{◌≡◌, ◌<◌, ◌≤◌, List, [], ◌∷◌, length, get_or, refl, arith, ◌⊎◌, inl, inr, All, Contains, Option, Some, None}
use Rattle.std.specs.Prelude.{IfSome}
use Rattle.std.specs.List.{AllByRecursion}
use Rattle.std.proofs.lemmas.List.Elements.{All-contains_itself, recursion_from_All}
use Rattle.sight_names.specs.declared.names.EndAt.{EndAt}
use Rattle.sight_names.specs.declared.names.EndPair.{EndPair}
use Rattle.sight_names.specs.Splitting.{EndPoints, IsEndPairOf}
use Rattle.block_evidence.specs.declared.Evidence.{Evidence}
use Rattle.block_evidence.specs.Stuck.{IsEndOfPairs, IsEvidenceOf, BlocksEnds}
use Rattle.block_evidence.specs.Picked.{IsOneOfEnds, IsChoice, AreAmong, Picks, both_ends}
use Rattle.block_evidence.proofs.Ordered.{all_at, all_of}
use Rattle.block_evidence.proofs.Choices.{choice_evidence, choice_blocks}

pub among_more : (xs ys ends : List EndAt) → AreAmong ys xs → AreAmong xs ends → AreAmong ys ends
among_more xs ys ends h k = all_of (λ (d : EndAt). IsOneOfEnds d ys) ends (λ e i. all_at (λ (d : EndAt). IsOneOfEnds d ys) e xs h (all_at (λ (d : EndAt). IsOneOfEnds d xs) e ends k i))

picks_more : (xs ys : List EndAt) (e : Evidence) → AreAmong ys xs → Picks xs e → Picks ys e
picks_more xs ys e h p = record { ends = p.ends; ascends = p.ascends; among = among_more xs ys p.ends h p.among; few = p.few; stuck = p.stuck; names = p.names }

pub some_more : (xs ys : List EndAt) (o : Option Evidence) → AreAmong ys xs → IfSome o (λ e. Picks xs e) → IfSome o (λ e. Picks ys e)
some_more xs ys None h p = tt
some_more xs ys (Some e) h p = picks_more xs ys e h p

-- ---- the ends of pairs
ends_of : (all pairs : List EndPair) → AllByRecursion (Contains all) pairs → AllByRecursion (IsEndOfPairs all) (both_ends pairs)
ends_of all [] h = tt
ends_of all (p ∷ ps) h = ((p, h.0, inl refl), ((p, h.0, inr refl), ends_of all ps h.1))

choice_of : (pairs : List EndPair) (e : Evidence) (p : Picks (both_ends pairs) e) → IsChoice pairs p.ends
choice_of pairs e p = record {
  ascends = p.ascends;
  from_pairs = all_of (IsEndOfPairs pairs) p.ends (λ d i. all_at (IsEndOfPairs pairs) d (both_ends pairs) (ends_of pairs pairs (recursion_from_All (Contains pairs) pairs (All-contains_itself pairs))) (all_at (λ (d : EndAt). IsOneOfEnds d (both_ends pairs)) d p.ends p.among i));
  stuck = p.stuck;
}

pub picks_evidence : (pairs : List EndPair) (e : Evidence) → Picks (both_ends pairs) e → IsEvidenceOf pairs e
picks_evidence pairs e p = choice_evidence pairs p.ends e (choice_of pairs e p) p.few p.names

pub picks_block : (pairs : List EndPair) (e : Evidence) → Picks (both_ends pairs) e → (es : List EndPoints) → All (IsEndPairOf es) pairs → BlocksEnds es e
picks_block pairs e p es h = choice_blocks pairs p.ends e (choice_of pairs e p) p.names es h

-- ---- the sets that are tried
abbrev pub five : EndPair → EndPair → EndAt → List EndAt
five p q t = p.left ∷ p.right ∷ q.left ∷ q.right ∷ t ∷ []

pub of_five : (p q : EndPair) (t a b c d : EndAt) (e : Evidence) → IsOneOfEnds a (five p q t) → IsOneOfEnds b (five p q t) → IsOneOfEnds c (five p q t) → IsOneOfEnds d (five p q t) → Picks (a ∷ b ∷ c ∷ d ∷ []) e → Picks (five p q t) e
of_five p q t a b c d e i j k m h = picks_more (a ∷ b ∷ c ∷ d ∷ []) (five p q t) e (i, (j, (k, (m, tt)))) h

pub some_of_five : (p q : EndPair) (t a b c d : EndAt) (o : Option Evidence) → IsOneOfEnds a (five p q t) → IsOneOfEnds b (five p q t) → IsOneOfEnds c (five p q t) → IsOneOfEnds d (five p q t) → IfSome o (λ e. Picks (a ∷ b ∷ c ∷ d ∷ []) e) → IfSome o (λ e. Picks (five p q t) e)
some_of_five p q t a b c d o i j k m h = some_more (a ∷ b ∷ c ∷ d ∷ []) (five p q t) o (i, (j, (k, (m, tt)))) h

-- the ends of the first two of three pairs, and one of the third, each read with an answer of its own for one that isn't there
pub five_among : (pairs : List EndPair) (d e f : EndPair) (t : EndAt) → length pairs ≡ 3 → ((get_or pairs 2 f).left ≡ t) ⊎ ((get_or pairs 2 f).right ≡ t) → AreAmong (both_ends pairs) (five (get_or pairs 0 d) (get_or pairs 1 e) t)
five_among [] d e f t h i = absurd (omega (arith, h))
five_among (p ∷ []) d e f t h i = absurd (omega (arith, h))
five_among (p ∷ q ∷ []) d e f t h i = absurd (omega (arith, h))
five_among (p ∷ q ∷ r ∷ []) d e f t h (inl k) = (inl refl, (inr (inl refl), (inr (inr (inl refl)), (inr (inr (inr (inl refl))), (inr (inr (inr (inr (inl k)))), tt)))))
five_among (p ∷ q ∷ r ∷ []) d e f t h (inr k) = (inl refl, (inr (inl refl), (inr (inr (inl refl)), (inr (inr (inr (inl refl))), (inr (inr (inr (inr (inr (inl k))))), tt)))))
five_among (p ∷ q ∷ r ∷ s ∷ ps) d e f t h i = absurd (omega (arith, h))

pub four_are : (ends : List EndAt) (a b c d : EndAt) → 4 ≤ length ends → length ends < 5 → a ≡ get_or ends 0 a → b ≡ get_or ends 1 b → c ≡ get_or ends 2 c → d ≡ get_or ends 3 d → a ∷ b ∷ c ∷ d ∷ [] ≡ ends
four_are [] a b c d h k e f g i = absurd (omega (arith, h))
four_are (v ∷ []) a b c d h k e f g i = absurd (omega (arith, h))
four_are (v ∷ w ∷ []) a b c d h k e f g i = absurd (omega (arith, h))
four_are (v ∷ w ∷ x ∷ []) a b c d h k e f g i = absurd (omega (arith, h))
four_are (v ∷ w ∷ x ∷ y ∷ []) a b c d h k e f g i = λ u. e u ∷ f u ∷ g u ∷ i u ∷ []
four_are (v ∷ w ∷ x ∷ y ∷ z ∷ zs) a b c d h k e f g i = absurd (omega (arith, k))
