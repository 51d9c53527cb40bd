-- What storing outputs begins, and settling them leaves of it.
use Rattle.std.proofs.Common.{◌≡◌, ◌⊎◌, ◌+◌, ◌<◌, ℕ, zero, suc, inl, inr, List, [], ◌∷◌, drop, get_or, length, map, string_bytes, sym, subst}
use Rattle.shelf_io.specs.Shelf.{BeginsAmong, IsNameAmong, NoneBegun}
use Rattle.sight_run.specs.declared.reply.Output.{Output}
use Rattle.sight_run.specs.Reply.{names_written, written}
use Rattle.sight_run.proofs.Stores.{cut}

-- each name of all that is begun is one of the rest
abbrev pub LeftToSettle : List (List ℕ) → List Output → List Output → Type 0
LeftToSettle begun all rest = (n : List ℕ) → IsNameAmong n begun → IsNameAmong n (names_written (map written all)) → IsNameAmong n (names_written (map written rest))

-- what was begun before, where nothing is begun by it
pub was_begun : (old new : List (List ℕ)) → BeginsAmong old new [] → (n : List ℕ) → IsNameAmong n new → IsNameAmong n old
was_begun old new p n h = elim (p.each n h) as (λ _. IsNameAmong n old) [ inl m ↦ m | inr m ↦ absurd m ]

in_rest : (i : ℕ) (all : List Output) (n : List ℕ) → IsNameAmong n (names_written (map written (drop i all))) → IsNameAmong n (names_written (map written all))
in_rest zero all n h = h
in_rest (suc i) [] n h = absurd h
in_rest (suc i) (x ∷ xs) n h = inr (in_rest i xs n h)

one_in : (i : ℕ) (all : List Output) (first : Output) → drop i all ≡ first ∷ drop (i + 1) all → (n : List ℕ) → IsNameAmong n (string_bytes first.name ∷ []) → IsNameAmong n (names_written (map written all))
one_in i all first e n (inl p) = in_rest i all n (subst (λ (xs : List Output). IsNameAmong n (names_written (map written xs))) (sym e) (inl p))
one_in i all first e n (inr p) = absurd p

more : (old : List (List ℕ)) (i : ℕ) (all : List Output) (first : Output) → drop i all ≡ first ∷ drop (i + 1) all → (n : List ℕ) → IsNameAmong n old ⊎ IsNameAmong n (string_bytes first.name ∷ []) → IsNameAmong n old ⊎ IsNameAmong n (names_written (map written all))
more old i all first e n (inl h) = inl h
more old i all first e n (inr h) = inr (one_in i all first e n h)

-- what one output of all begins
pub among_one : (old new : List (List ℕ)) (all : List Output) (i : ℕ) (first : Output) → i < length all → first ≡ get_or all i first → BeginsAmong old new (string_bytes first.name ∷ []) → BeginsAmong old new (names_written (map written all))
among_one old new all i first lt e p = record { each = λ n h. more old i all first (cut all i first lt e) n (p.each n h) }

not_first : (new : List (List ℕ)) (first : Output) (rest : List Output) (n : List ℕ) → NoneBegun new (string_bytes first.name ∷ []) → IsNameAmong n new → IsNameAmong n (names_written (map written (first ∷ rest))) → IsNameAmong n (names_written (map written rest))
not_first new first rest n q h (inl e) = absurd (q.none n h (inl e))
not_first new first rest n q h (inr m) = m

-- one more is settled
pub left_on : (old new : List (List ℕ)) (all before rest : List Output) (first : Output) → before ≡ first ∷ rest → BeginsAmong old new [] → NoneBegun new (string_bytes first.name ∷ []) → LeftToSettle old all before → LeftToSettle new all rest
left_on old new all before rest first e p q left = λ n h m. not_first new first rest n q h (subst (λ (xs : List Output). IsNameAmong n (names_written (map written xs))) e (left n (was_begun old new p n h) m))

-- all are
pub all_settled : (new : List (List ℕ)) (all rest : List Output) → rest ≡ [] → LeftToSettle new all rest → NoneBegun new (names_written (map written all))
all_settled new all rest e left = record { none = λ n h m. subst (λ (xs : List Output). IsNameAmong n (names_written (map written xs))) e (left n h m) }

module _ (s0 s1 s2 s3 s4 s5 names reports : List (List ℕ)) where
  stored : BeginsAmong s1 s2 names → NoneBegun s4 names → (n : List ℕ) → IsNameAmong n s2 → IsNameAmong n s4 → IsNameAmong n s1
  stored p q n h m = elim (p.each n h) as (λ _. IsNameAmong n s1) [ inl k ↦ k | inr k ↦ absurd (q.none n m k) ]

  reported : BeginsAmong s2 s3 reports → NoneBegun s5 reports → (n : List ℕ) → IsNameAmong n s3 → IsNameAmong n s5 → IsNameAmong n s2
  reported p q n h m = elim (p.each n h) as (λ _. IsNameAmong n s2) [ inl k ↦ k | inr k ↦ absurd (q.none n m k) ]

  -- nothing is left of what was stored, once all of it is settled
  pub obeyed : s1 ≡ s0 → BeginsAmong s1 s2 names → BeginsAmong s2 s3 reports → BeginsAmong s3 s4 [] → NoneBegun s4 names → BeginsAmong s4 s5 [] → NoneBegun s5 reports → BeginsAmong s0 s5 []
  obeyed e a b c d f g = record {
    each = λ n h.
        let m4 : IsNameAmong n s4 = was_begun s4 s5 f n h in
        let m3 : IsNameAmong n s3 = was_begun s3 s4 c n m4 in
        let m2 : IsNameAmong n s2 = reported b g n m3 h in
        inl (subst (IsNameAmong n) e (stored a d n m2 m4));
  }
