-- The answer of `sound`, the only one: two sectors have one first noise path, and a map has one count.
use Rattle.std.proofs.Common.{◌≡◌, ℕ, ◌<◌, inl, inr, List, Bool, Option, Some, None, Result, Ok, Err, sym, ap, ap₂, ◌∙◌, arith}
use Rattle.std.specs.Prelude.{⊤, MatchOption, option_map}
use Rattle.sight_names.specs.declared.names.Pair.{Pair}
use Rattle.sight_names.specs.declared.names.Side.{Side}
use Rattle.sight_names.specs.Map.{Map}
use Rattle.sight_names.specs.Noise.{AreHeardCounts, IsNoiseHeard, IsFirstNoisePath}
use Rattle.sound_reach.proofs.OneNoise.{one_count, one_first}
use Rattle.map_answers.specs.declared.sight_status.status.Why.TheVariants as why
use Rattle.map_answers.specs.declared.sight_status.status.Status.{Status}
use Rattle.map_answers.specs.declared.sight_status.status.Status.TheVariants as status
use Rattle.map_answers.specs.SightStatus.Answer.{Answer, IsTheAnswer, only_line}
use Rattle.map_answers.specs.Noise.{CountCalls, IsMissing, PairCalls, heard_line, no_noise_line, noise_line, path_line}

module _ (m : Map) (d : List Bool) (pair : Pair) where
  not_missing : (k : ℕ) → pair.a < m.sectors → pair.b < m.sectors → IsMissing m pair k → ⊥
  not_missing k ha hb (inl h) = let x = h.1 in omega (arith, ha, x)
  not_missing k ha hb (inr h) = let x = h.2 in omega (arith, hb, x)

  pub path_is_the_answer : (sides : List Side) (line : List ℕ) → pair.a < m.sectors → pair.b < m.sectors → IsFirstNoisePath m d pair.a pair.b sides → line ≡ noise_line pair sides → IsTheAnswer ⊤ (PairCalls m d pair) (Ok (only_line line))
  path_is_the_answer sides line ha hb first said = record { called = (ha, hb, inl (record { sides = sides; first = first; is = ap only_line said })); only = λ sole. other }
    where
      other : (answer : Result Answer Status) → PairCalls m d pair answer → answer ≡ Ok (only_line line)
      other (Ok answer) (x, y, inl shown) = ap Ok (shown.is ∙ ap (λ (ss : List Side). only_line (noise_line pair ss)) (one_first m d pair.a pair.b shown.sides sides shown.first first) ∙ sym (ap only_line said))
      other (Ok answer) (x, y, inr shown) = absurd (shown.silent (sides, first.path))
      other (Err (status.No (why.NoSector k))) missing = absurd (not_missing k ha hb missing)
      other (Err s) q = absurd q

  pub silence_is_the_answer : (line : List ℕ) → pair.a < m.sectors → pair.b < m.sectors → ¬ IsNoiseHeard m d pair.a pair.b → line ≡ no_noise_line pair → IsTheAnswer ⊤ (PairCalls m d pair) (Ok (only_line line))
  silence_is_the_answer line ha hb silent said = record { called = (ha, hb, inr (record { silent = silent; is = ap only_line said })); only = λ sole. other }
    where
      other : (answer : Result Answer Status) → PairCalls m d pair answer → answer ≡ Ok (only_line line)
      other (Ok answer) (x, y, inl shown) = absurd (silent (shown.sides, shown.first.path))
      other (Ok answer) (x, y, inr shown) = ap Ok (shown.is ∙ sym (ap only_line said))
      other (Err (status.No (why.NoSector k))) missing = absurd (not_missing k ha hb missing)
      other (Err s) q = absurd q

  pub missing_is_the_answer : (k : ℕ) → IsMissing m pair k → IsTheAnswer ⊤ (PairCalls m d pair) (Err (status.No (why.NoSector k)))
  missing_is_the_answer k missing = record { called = missing; only = λ sole. other }
    where
      one : (i j : ℕ) → IsMissing m pair i → IsMissing m pair j → i ≡ j
      one i j (inl g) (inl h) = g.0 ∙ sym h.0
      one i j (inr g) (inr h) = g.0 ∙ sym h.0
      one i j (inl g) (inr h) = let x = g.1 in let y = h.1 in absurd (omega (arith, x, y))
      one i j (inr g) (inl h) = let x = h.1 in let y = g.1 in absurd (omega (arith, x, y))

      other : (answer : Result Answer Status) → PairCalls m d pair answer → answer ≡ Err (status.No (why.NoSector k))
      other (Ok answer) (x, y, shown) = absurd (not_missing k x y missing)
      other (Err (status.No (why.NoSector i))) q = ap (λ (n : ℕ). Err (status.No (why.NoSector n))) (one i k q missing)
      other (Err s) q = absurd q

  pub path_or_silence : {V : Type 0} (f : V → List Side) (o : Option V) (line : List ℕ) → pair.a < m.sectors → pair.b < m.sectors → MatchOption o (¬ IsNoiseHeard m d pair.a pair.b) (λ v. IsFirstNoisePath m d pair.a pair.b (f v)) → line ≡ path_line pair (option_map f o) → IsTheAnswer ⊤ (PairCalls m d pair) (Ok (only_line line))
  path_or_silence f (Some v) line ha hb first said = path_is_the_answer (f v) line ha hb first said
  path_or_silence f None line ha hb silent said = silence_is_the_answer line ha hb silent said

pub counts_are_the_answer : (m : Map) (d : List Bool) (name : List ℕ) (pairs silent : ℕ) (line : List ℕ) → AreHeardCounts m d pairs silent → line ≡ heard_line name m.sectors pairs silent → IsTheAnswer ⊤ (CountCalls name m d) (Ok (only_line line))
counts_are_the_answer m d name pairs silent line are said = record { called = record { pairs = pairs; silent = silent; are = are; is = ap only_line said }; only = λ sole. other }
  where
    other : (answer : Result Answer Status) → CountCalls name m d answer → answer ≡ Ok (only_line line)
    other (Ok answer) shown =
        let same = one_count m d shown.pairs shown.silent pairs silent shown.are are in
        ap Ok (shown.is ∙ ap₂ (λ (p s : ℕ). only_line (heard_line name m.sectors p s)) same.0 same.1 ∙ sym (ap only_line said))
    other (Err s) q = absurd q
