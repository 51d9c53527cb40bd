-- What an audit tells is all that was found, and a map without clashes and open sides is sound.
use Rattle.std.proofs.Common.{◌≡◌, ◌∙◌, ◌↔◌, ◌<◌, ◌≤◌, ◌+◌, inl, inr, ℕ, List, [], ◌∷◌, ◌++◌, Result, Ok, Err, Contains, length, map, get_or, take, drop, refl, sym, ap, subst, arith}
use Rattle.std.proofs.lemmas.List.{append-nil, append_assoc, take-append-drop, take_all, take_more}
use Rattle.math_base.proofs.Lists.{contains_here, contains_left, contains_none, map_pushed}
use Rattle.sight_names.specs.declared.names.Side.{Side}
use Rattle.sight_names.specs.Groups.{HasClosedFaces}
use Rattle.face_groups.specs.TriSectors.Verdict.{IsClosedSide}
use Rattle.sight_names.specs.Map.{Map, map_of}
use Rattle.sight_names.specs.Plan.{IsPlan, PlanParts}
use Rattle.sight_names.specs.Sound.{LinesMeetAtEnds}
use Rattle.map_answers.specs.declared.sight_status.status.Status.{Status}
use Rattle.map_answers.specs.declared.sight_status.status.Status.TheVariants as status
use Rattle.map_answers.specs.SightStatus.Answer.{MakesAnswer}
use Rattle.map_answers.specs.SightStatus.Status.{IsOfBytes}
use Rattle.map_faults.specs.declared.clashes.LinePair.{LinePair}
use Rattle.map_faults.specs.declared.clashes.TheConstants.{MOST_CLASHES}
use Rattle.map_faults.specs.declared.gaps.Gap.{Gap}
use Rattle.map_faults.specs.declared.loose_ends.LooseEnd.{LooseEnd}
use Rattle.map_faults.specs.declared.tears.Tear.{Tear}
use Rattle.map_faults.specs.Clashes.{AreFirstClashes}
use Rattle.map_faults.specs.LooseEnds.{AreLooseEnds}
use Rattle.map_faults.specs.OpenSides.{AreOpenSides}
use Rattle.doomsight_c.specs.declared.fault.DoomsightFault.{DoomsightFault}
use Rattle.doomsight_c.specs.declared.flaw.DoomsightFlaw.{DoomsightFlaw}
use Rattle.doomsight_c.specs.declared.flaw.DoomsightFlawCounts.{DoomsightFlawCounts}
use Rattle.doomsight_c.specs.Audited.{AreBetween, AreClashing, IsAuditFor, IsAuditOf, IsUnaudited, RefusesReading, TellsAllFlaws, TellsClashes, counts_of}
use Rattle.doomsight_c.specs.Faults.{fault_view}
use Rattle.doomsight_c.specs.Flaws.{TellEach, TellsClash}
use Rattle.doomsight_c.specs.Lines.{IsOfLibrary, status_in}
use Rattle.doomsight_c.proofs.Giving.{IsLibrarys, of_reading}

-- ---- clashes

-- one told more
pub tell_more : (R : LinePair → DoomsightFlaw → Type 0) (xs : List LinePair) (fs : List DoomsightFlaw) (x : LinePair) (f : DoomsightFlaw) → TellEach R xs fs → R x f → TellEach R (xs ++ x ∷ []) (fs ++ f ∷ [])
tell_more R [] [] x f h r = (r, tt)
tell_more R (y ∷ xs) (g ∷ fs) x f h r = (h.0, tell_more R xs fs x f h.1 r)
tell_more R [] (g ∷ fs) x f h r = absurd h
tell_more R (y ∷ xs) [] x f h r = absurd h

module _ (p : PlanParts) (xs : List LinePair) (before now : List DoomsightFlaw) where
  pub one_clash : (n : ℕ) (d : LinePair) (f : DoomsightFlaw) → n < length xs → TellsClashes p (take n xs) before now → TellsClash p (get_or xs n d) f → TellsClashes p (take (n + 1) xs) before (now ++ f ∷ [])
  one_clash n d f lt w h = record {
    flaws = w.flaws ++ f ∷ [];
    tell = subst (λ (ys : List LinePair). TellEach (TellsClash p) ys (w.flaws ++ f ∷ [])) (sym (take_more xs n d lt)) (tell_more (TellsClash p) (take n xs) w.flaws (get_or xs n d) f w.tell h);
    are = ap (λ (fs : List DoomsightFlaw). fs ++ f ∷ []) w.are ∙ append_assoc before w.flaws (f ∷ []);
  }

  pub all_clashes : (n : ℕ) → length xs ≤ n → TellsClashes p (take n xs) before now → TellsClashes p xs before now
  all_clashes n past w = subst (λ (ys : List LinePair). TellsClashes p ys before now) (take_all n xs past) w

pub no_clash : (p : PlanParts) (xs : List LinePair) (before : List DoomsightFlaw) → TellsClashes p (take 0 xs) before before
no_clash p xs before = record { flaws = []; tell = tt; are = sym (append-nil before) }

-- ---- the other kinds

module _ {X : Type 0} (view : X → DoomsightFlaw) (old : List DoomsightFlaw) (xs : List X) where
  pub none_told : old ≡ old ++ map view (take 0 xs)
  none_told = sym (append-nil old)

  pub one_told : (now : List DoomsightFlaw) (n : ℕ) (d : X) → n < length xs → now ≡ old ++ map view (take n xs) → now ++ view (get_or xs n d) ∷ [] ≡ old ++ map view (take (n + 1) xs)
  one_told now n d lt h =
      let f = view (get_or xs n d) in
      ap (λ (fs : List DoomsightFlaw). fs ++ f ∷ []) h ∙ append_assoc old (map view (take n xs)) (f ∷ []) ∙ ap (λ (fs : List DoomsightFlaw). old ++ fs) (sym (ap (map view) (take_more xs n d lt) ∙ map_pushed view (take n xs) (get_or xs n d)))

  pub all_told : (now : List DoomsightFlaw) (n : ℕ) → length xs ≤ n → now ≡ old ++ map view (take n xs) → now ≡ old ++ map view xs
  all_told now n past h = h ∙ ap (λ (ys : List X). old ++ map view ys) (take_all n xs past)

-- those that are kept clash
pub kept_clash : (p : PlanParts) (first : List LinePair) (count : ℕ) → AreFirstClashes (map_of p) first count → AreClashing p first
kept_clash p first count w pair c =
    let there : Contains (take MOST_CLASHES w.all) pair = subst (λ (ps : List LinePair). Contains ps pair) w.first_of_all c in
    w.are.each pair (subst (λ (ps : List LinePair). Contains ps pair) (take-append-drop MOST_CLASHES w.all) (contains_left pair (take MOST_CLASHES w.all) (drop MOST_CLASHES w.all) there))

-- ---- a map without clashes and open sides

module _ (p : PlanParts) (count : ℕ) (none : (count ≡ 0) ↔ LinesMeetAtEnds (map_of p)) (sides : List Side) (tears : List Tear) (gaps : List Gap) (b : AreBetween p sides tears gaps) where
  no_sides : (ss : List Side) → AreOpenSides (map_of p) ss → HasClosedFaces (map_of p) → length ss ≡ 0
  no_sides [] h c = refl
  no_sides (s ∷ ss) h c = absurd ((h.each s (contains_here s ss)).1 (λ a x y. c.closed s a x y))

  nothing : sides ≡ [] → length sides ≡ 0
  nothing e = ap length e

  closed_without : AreOpenSides (map_of p) sides → length sides ≡ 0 → LinesMeetAtEnds (map_of p) → HasClosedFaces (map_of p)
  closed_without h z ends = without sides h z
    where
      without : (ss : List Side) → AreOpenSides (map_of p) ss → length ss ≡ 0 → HasClosedFaces (map_of p)
      without [] h z = record { ends = ends; closed = λ s. elim (h.rest s tt) as (λ _. IsClosedSide (map_of p) s) [ inl c ↦ c | inr c ↦ absurd (contains_none s c) ] }
      without (s ∷ ss) h z = absurd (let a : length (s ∷ ss) ≡ 0 = z in omega arith)

  pub sound_of : ((count ≡ 0) × (length sides ≡ 0)) ↔ HasClosedFaces (map_of p)
  sound_of = (
    λ z. elim b as (λ _. HasClosedFaces (map_of p)) [ inl w ↦ closed_without w.1.are_open z.1 w.0 | inr w ↦ absurd (w.0 (none.0 z.0)) ],
    λ c. (none.1 c.ends, elim b as (λ _. length sides ≡ 0) [ inl w ↦ no_sides sides w.1.are_open c | inr w ↦ nothing w.1 ]),
  )

-- ---- the whole

-- what was told of lists is told of the same lists
pub told_of : (p : PlanParts) (a first : List LinePair) (b loose : List LooseEnd) (d sides : List Side) (e tears : List Tear) (f gaps : List Gap) (all : List DoomsightFlaw)
    → a ≡ first → b ≡ loose → d ≡ sides → e ≡ tears → f ≡ gaps → TellsAllFlaws p a b d e f all → TellsAllFlaws p first loose sides tears gaps all
told_of p a first b loose d sides e tears f gaps all ha hb hd he hf h =
    subst (λ (x : List LinePair). TellsAllFlaws p x loose sides tears gaps all) ha
    (subst (λ (x : List LooseEnd). TellsAllFlaws p a x sides tears gaps all) hb
    (subst (λ (x : List Side). TellsAllFlaws p a b x tears gaps all) hd
    (subst (λ (x : List Tear). TellsAllFlaws p a b d x gaps all) he
    (subst (λ (x : List Gap). TellsAllFlaws p a b d e x all) hf h))))

pub same_counts : (n a b d e f v w x y z : ℕ) → a ≡ v → b ≡ w → d ≡ x → e ≡ y → f ≡ z → counts_of n a b d e f ≡ counts_of n v w x y z
same_counts n a b d e f v w x y z ha hb hd he hf =
    ap (λ (i : ℕ). counts_of n i b d e f) ha ∙ ap (λ (i : ℕ). counts_of n v i d e f) hb ∙ ap (λ (i : ℕ). counts_of n v w i e f) hd
    ∙ ap (λ (i : ℕ). counts_of n v w x i f) he ∙ ap (λ (i : ℕ). counts_of n v w x y i) hf

pub audit_made : (p : PlanParts) (first : List LinePair) (count : ℕ) → AreFirstClashes (map_of p) first count → (count ≡ 0) ↔ LinesMeetAtEnds (map_of p)
    → (loose : List LooseEnd) → AreLooseEnds p loose → (sides : List Side) (tears : List Tear) (gaps : List Gap) → AreBetween p sides tears gaps
    → (all : List DoomsightFlaw) → TellsAllFlaws p first loose sides tears gaps all
    → (counts : DoomsightFlawCounts) → counts ≡ counts_of count (length loose) (length sides) (length tears) (length gaps) (length all) → IsAuditOf p all counts
audit_made p first count clashes none loose are_loose sides tears gaps between all told counts counted =
    subst (IsAuditOf p all) (sym counted) (record {
      clashes = first;
      are_clashes = clashes;
      loose = loose;
      are_loose = are_loose;
      sides = sides;
      tears = tears;
      gaps = gaps;
      between = between;
      told = told;
      counted = refl;
      sound = sound_of p count none sides tears gaps between;
    })

pub audit_for : (p : PlanParts) → IsPlan p → (all : List DoomsightFlaw) (counts : DoomsightFlawCounts) → IsAuditOf p all counts → IsAuditFor (Ok (map_of p)) all counts
audit_for p plan all counts h = record { plan = p; is_plan = plan; is_read = refl; audit = h }

-- ---- why there is none

refused_by_reading : (read : Result Map Status) (s : Status) → IsOfBytes s → MakesAnswer map_of (Err s) read → RefusesReading read s
refused_by_reading read (status.BadLump f) h made = subst (λ r. RefusesReading r (status.BadLump f)) (sym made) refl
refused_by_reading read (status.BadText f) h made = subst (λ r. RefusesReading r (status.BadText f)) (sym made) refl
refused_by_reading read (status.Limit b) h made = subst (λ r. RefusesReading r (status.Limit b)) (sym made) refl
refused_by_reading read (status.NotWad f) h made = subst (λ r. RefusesReading r (status.NotWad f)) (sym made) refl
refused_by_reading read (status.NoMap f) h made = subst (λ r. RefusesReading r (status.NoMap f)) (sym made) refl
refused_by_reading (Ok m) (status.Memory _) h made = tt
refused_by_reading (Err r) (status.Memory _) h made = tt
refused_by_reading read other h made = absurd h

module _ (tells : (s : Status) → IsOfLibrary s → status_in (fault_view s) ≡ s) where
  pub unaudited_read : (read : Result Map Status) → IsLibrarys read → (s : Status) → IsOfBytes s → MakesAnswer map_of (Err s) read → (f : DoomsightFault) → f ≡ fault_view s → IsUnaudited read f
  unaudited_read read lib s h made f is = record {
    refusal = s;
    is = is;
    told = ap status_in is ∙ tells s (of_reading read lib s h made);
    called = refused_by_reading read s h made;
  }
