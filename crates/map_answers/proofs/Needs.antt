-- The answer of `need`, the only one: of each source there is one number of sequences.
use Rattle.std.proofs.Common.{◌≡◌, ℕ, ◌<◌, List, Option, Result, Ok, Err, String, length, get_or, ap, sym, ◌∙◌, subst, string_bytes}
use Rattle.std.specs.Prelude.{IfErr, IfOk, ⊤}
use Rattle.std.specs.declared.alloc.Global.{Global}
use Rattle.std.proofs.lemmas.Grind.{same_number_lists}
use Rattle.std.proofs.lemmas.Option.{slice_get-get_or}
use Rattle.sight_names.specs.declared.names.Triangle.{Triangle}
use Rattle.sight_names.specs.Enough.{enough_of}
use Rattle.sight_names.specs.Map.{Map, map_of}
use Rattle.sight_names.specs.Mesh.{IsGoodMesh}
use Rattle.sight_names.specs.Plan.{IsPlan, PlanParts}
use Rattle.sight_lift.proofs.SequenceLaws.All.{stand_in_order}
use Rattle.portal_walk.specs.EnoughBudget.Need.{HasSequences, greatest}
use Rattle.map_answers.specs.declared.sight_status.status.Status.{Status}
use Rattle.map_answers.specs.declared.sight_status.status.Status.TheVariants as status
use Rattle.map_answers.specs.SightStatus.Answer.{Answer, GivesCalled, line_answer, only_line}
use Rattle.map_answers.specs.Groups.{IsMapWithGroups, MapGroups}
use Rattle.map_answers.specs.Need.{AreNeeds, NeedCalls, NeedsOf, need_line}
use Rattle.map_answers.specs.Sound.{HasSoundLines}
use Rattle.map_answers.proofs.Closed.{gives_called}

-- ---- the numbers are the only ones

module _ (m : Map) (ts : List Triangle) (ls : List (Option ℕ)) (good : IsGoodMesh m ts ls) where
  one_number : (a n k : ℕ) → HasSequences m ts ls a n → HasSequences m ts ls a k → n ≡ k
  one_number a n k (ss, are, count) (ss_too, are_too, count_too) =
      let o = stand_in_order m ts ls a good in
      sym count ∙ ap length (o.only ss are ∙ sym (o.only ss_too are_too)) ∙ count_too

  same_numbers : (ns ks : List ℕ) → AreNeeds m ts ls ns → AreNeeds m ts ls ks → ns ≡ ks
  same_numbers ns ks h k =
      let same : length ns ≡ length ks = h.each ∙ sym k.each in
      same_number_lists ns ks same (λ a lt. one_number a (get_or ns a 0) (get_or ks a 0) (h.counts a (get_or ns a 0) (slice_get-get_or ns a 0 lt)) (k.counts a (get_or ks a 0) (slice_get-get_or ks a 0 (subst (λ (n : ℕ). a < n) same lt))))

-- ---- so the line is the only answer

abbrev line_for : List ℕ → MapGroups → List ℕ → List ℕ
line_for name g ns = need_line name (greatest ns) (enough_of g.grouped g.triangles)

only_need : (name : List ℕ) (g : MapGroups) (ns line : List ℕ) → IsGoodMesh g.grouped g.triangles g.labels → AreNeeds g.grouped g.triangles g.labels ns → line ≡ line_for name g ns
    → (other : Result Answer Status) → NeedsOf name g other → other ≡ Ok (only_line line)
only_need name g ns line good h is (Ok answer) q = ap Ok (q.is ∙ ap only_line (ap (line_for name g) (same_numbers g.grouped g.triangles g.labels good q.numbers ns q.are h) ∙ sym is))
only_need name g ns line good h is (Err s) q = absurd q

pub gives_need : (p : PlanParts) (name : List ℕ) (g : MapGroups) (ns : List ℕ) (r : Result (String Global) Status) → IsPlan p → HasSoundLines (map_of p) → IsMapWithGroups (map_of p) g → IsGoodMesh g.grouped g.triangles g.labels
    → AreNeeds g.grouped g.triangles g.labels ns → IfOk r (λ line. string_bytes line ≡ need_line name (greatest ns) (enough_of g.grouped g.triangles)) → IfErr r (λ s. s ≡ status.Memory tt) → GivesCalled ⊤ (NeedCalls name (map_of p)) (line_answer r)
gives_need p name g ns (Ok line) plan lines over good h is refusal =
    gives_called p plan (NeedsOf name) g (Ok (only_line (string_bytes line))) lines over (record { numbers = ns; are = h; is = ap only_line is }) (only_need name g ns (string_bytes line) good h is) tt
gives_need p name g ns (Err s) plan lines over good h is refusal = subst (λ (t : Status). GivesCalled ⊤ (NeedCalls name (map_of p)) (Err t)) (sym refusal) tt
