-- That the grammar of what stands between tokens tells what is left behind it.
use Rattle.std.proofs.Common.{◌≡◌, ◌≢◌, ◌≤◌, ◌⊎◌, inl, inr, ℕ, eqb, leb, Bool, true, false, cond, ◌&&◌, ◌||◌, List, [], ◌∷◌, ◌++◌, Option, Some, None, Ok, Err, Result, refl, sym, ap, ◌∙◌, subst}
use Rattle.std.specs.Bool.{⊤}
use Rattle.std.proofs.lemmas.Bool.{eqb-true, le-leb, leb-true, true≢false, cases_Bool, and_parts}
use Rattle.std.proofs.lemmas.Bool.Decides.{eqb_tells}
use Rattle.udmf_text.specs.declared.text_tokens.between.Gap.{Gap}
use Rattle.udmf_text.specs.declared.text_tokens.between.Gap.TheVariants.{Between, InLine, Opening, InBlock, Closing}
use Rattle.udmf_text.specs.TextTokens.Between.{begins_with_byte, step_of, opened_at, left_behind_gap, left_behind}
use Rattle.udmf_text.specs.TextTokens.Laws.{has_line_feed, has_close, IsBehindGap, none, blank, line, last_line, block, begins_gap, IsUnclosed, GapsEnd, FaultIsUnclosed}

or_parts : (x y : Bool) → (x || y) ≡ false → (x ≡ false) × (y ≡ false)
or_parts false y h = (refl, h)
or_parts true y h = absurd (true≢false h)

-- what is left behind a byte
abbrev after : List ℕ → ℕ → List ℕ → Option Gap → Result (List ℕ) (List ℕ)
after o c cs (Some next) = left_behind_gap next (opened_at next (c ∷ cs) o) cs
after o c cs None = Ok (c ∷ cs)

after_is : (gap : Gap) (o : List ℕ) (c : ℕ) (cs : List ℕ) (s : Option Gap) → step_of gap c cs ≡ s → left_behind_gap gap o (c ∷ cs) ≡ after o c cs s
after_is gap o c cs s e = by_step (step_of gap c cs) e
  where
    by_step : (t : Option Gap) → t ≡ s → (elim t as (λ _. Result (List ℕ) (List ℕ)) [ Some next ↦ left_behind_gap next (opened_at next (c ∷ cs) o) cs | None ↦ Ok (c ∷ cs) ]) ≡ after o c cs s
    by_step None h = rw (← h) refl
    by_step (Some n) h = rw (← h) refl

line_goes : (o words more : List ℕ) → has_line_feed words ≡ false → left_behind_gap InLine o (words ++ 10 ∷ more) ≡ left_behind_gap Between o more
line_goes o [] more h = refl
line_goes o (c ∷ cs) more h =
    let parts = or_parts (eqb c 10) (has_line_feed cs) h in
    after_is InLine o c (cs ++ 10 ∷ more) (Some InLine) (ap (λ b. Some (cond b Between InLine)) parts.0) ∙ line_goes o cs more parts.1

line_ends : (o words : List ℕ) → has_line_feed words ≡ false → left_behind_gap InLine o words ≡ Ok []
line_ends o [] h = refl
line_ends o (c ∷ cs) h =
    let parts = or_parts (eqb c 10) (has_line_feed cs) h in
    after_is InLine o c cs (Some InLine) (ap (λ b. Some (cond b Between InLine)) parts.0) ∙ line_ends o cs parts.1

-- a star that ends the words is closed by no star
no_close : (c : ℕ) (cs more : List ℕ) → (eqb c 42 && begins_with_byte 47 cs) ≡ false → (eqb c 42 && begins_with_byte 47 (cs ++ 42 ∷ 47 ∷ more)) ≡ false
no_close c [] more h = h
no_close c (d ∷ ds) more h = h

block_goes : (o words more : List ℕ) → has_close words ≡ false → left_behind_gap InBlock o (words ++ 42 ∷ 47 ∷ more) ≡ left_behind_gap Between o more
block_goes o [] more h = refl
block_goes o (c ∷ cs) more h =
    let parts = or_parts (eqb c 42 && begins_with_byte 47 cs) (has_close cs) h in
    after_is InBlock o c (cs ++ 42 ∷ 47 ∷ more) (Some InBlock) (ap (λ b. Some (cond b Closing InBlock)) (no_close c cs more parts.0)) ∙ block_goes o cs more parts.1

block_opened : (o words : List ℕ) → has_close words ≡ false → left_behind_gap InBlock o words ≡ Err o
block_opened o [] h = refl
block_opened o (c ∷ cs) h =
    let parts = or_parts (eqb c 42 && begins_with_byte 47 cs) (has_close cs) h in
    after_is InBlock o c cs (Some InBlock) (ap (λ b. Some (cond b Closing InBlock)) parts.0) ∙ block_opened o cs parts.1

blank_goes : (o more : List ℕ) (c : ℕ) → c ≤ 32 → left_behind_gap Between o (c ∷ more) ≡ left_behind_gap Between o more
blank_goes o more c h = after_is Between o c more (Some Between) (ap (λ b. cond b (Some Between) (cond (eqb c 47) (cond (begins_with_byte 47 more) (Some InLine) (cond (begins_with_byte 42 more) (Some Opening) None)) None)) (le-leb c 32 h))

none_begins : (b s l m : Bool) → (b || (s && (l || m))) ≡ false → cond b (Some Between) (cond s (cond l (Some InLine) (cond m (Some Opening) None)) None) ≡ None
none_begins true s l m h = absurd (true≢false h)
none_begins false false l m h = refl
none_begins false true true m h = absurd (true≢false h)
none_begins false true false true h = absurd (true≢false h)
none_begins false true false false h = refl

stops : (rest : List ℕ) → begins_gap rest ≡ false → (o : List ℕ) → left_behind_gap Between o rest ≡ Ok rest
stops [] h o = refl
stops (c ∷ cs) h o = after_is Between o c cs None (none_begins (leb c 32) (eqb c 47) (begins_with_byte 47 cs) (begins_with_byte 42 cs) h)

stops_unclosed : (rest : List ℕ) → IsUnclosed rest → (o : List ℕ) → left_behind_gap Between o rest ≡ Err rest
stops_unclosed rest u o = rw u.1 (block_opened (47 ∷ 42 ∷ u.0) u.0 u.2)

gap_goes : (rest : List ℕ) (X : Result (List ℕ) (List ℕ)) → ((o : List ℕ) → left_behind_gap Between o rest ≡ X) → (text : List ℕ) → IsBehindGap rest text → (o : List ℕ) → left_behind_gap Between o text ≡ X
gap_goes rest X stop text (none e) o = rw e (stop o)
gap_goes rest X stop text (blank c more e h g) o = rw e (blank_goes o more c h ∙ gap_goes rest X stop more g o)
gap_goes rest X stop text (line words more e h g) o = rw e (line_goes o words more h ∙ gap_goes rest X stop more g o)
gap_goes rest X stop text (last_line words e h r) o = rw e (line_ends o words h ∙ subst (λ t. left_behind_gap Between o t ≡ X) r (stop o))
gap_goes rest X stop text (block words more e h g) o =
    let here : List ℕ = 47 ∷ 42 ∷ (words ++ 42 ∷ 47 ∷ more) in
    rw e (block_goes here words more h ∙ gap_goes rest X stop more g here)

-- each text is blanks and comments, and then what begins with none, or a comment that isn't closed
record Splits (text : List ℕ) : Type 0 where
  rest : List ℕ
  behind : IsBehindGap rest text
  ends : (begins_gap rest ≡ false) ⊎ IsUnclosed rest

-- a text with a first seam, behind which it splits
record Part (seam : List ℕ) (has_seam : List ℕ → Bool) (text : List ℕ) : Type 0 where
  words : List ℕ
  more : List ℕ
  is : text ≡ words ++ (seam ++ more)
  first : has_seam words ≡ false
  splits : Splits more

abbrev Parts : List ℕ → (List ℕ → Bool) → List ℕ → Type 0
Parts seam has_seam text = Part seam has_seam text ⊎ (has_seam text ≡ false)

line_push : (c : ℕ) (cs : List ℕ) → Splits cs → Parts (10 ∷ []) has_line_feed cs → Parts (10 ∷ []) has_line_feed (c ∷ cs)
line_push c cs s p = by_test (eqb_tells c 10) p
  where
    by_test : ((eqb c 10 ≡ true) × (c ≡ 10)) ⊎ ((eqb c 10 ≡ false) × (c ≢ 10)) → Parts (10 ∷ []) has_line_feed cs → Parts (10 ∷ []) has_line_feed (c ∷ cs)
    by_test (inl t) p = inl (record { words = []; more = cs; is = ap (λ x. x ∷ cs) t.1; first = refl; splits = s })
    by_test (inr t) (inl q) = inl (record { words = c ∷ q.words; more = q.more; is = ap (λ x. c ∷ x) q.is; first = ap (λ b. b || has_line_feed q.words) t.0 ∙ q.first; splits = q.splits })
    by_test (inr t) (inr h) = inr (ap (λ b. b || has_line_feed cs) t.0 ∙ h)

begins_is : (b : ℕ) (cs : List ℕ) → begins_with_byte b cs ≡ true → (more : List ℕ) × (cs ≡ b ∷ more)
begins_is b [] h = absurd (true≢false (sym h))
begins_is b (c ∷ cs) h = (cs, ap (λ x. x ∷ cs) (eqb-true c b h))

-- splits behind the first byte of a text, if there is one
abbrev TailSplits : List ℕ → Type 0
TailSplits [] = ⊤
TailSplits (c ∷ cs) = Splits cs

tail_of : (cs more : List ℕ) (b : ℕ) → cs ≡ b ∷ more → TailSplits cs → Splits more
tail_of cs more b e t = subst TailSplits e t

no_and : (b : Bool) → (b && false) ≡ false
no_and true = refl
no_and false = refl

still_open : (c : ℕ) (cs words more : List ℕ) → cs ≡ words ++ (42 ∷ 47 ∷ more) → (eqb c 42 && begins_with_byte 47 cs) ≡ false → (eqb c 42 && begins_with_byte 47 words) ≡ false
still_open c cs [] more e h = no_and (eqb c 42)
still_open c cs (d ∷ ds) more e h = ap (λ x. eqb c 42 && begins_with_byte 47 x) (sym e) ∙ h

block_push : (c : ℕ) (cs : List ℕ) → TailSplits cs → Parts (42 ∷ 47 ∷ []) has_close cs → Parts (42 ∷ 47 ∷ []) has_close (c ∷ cs)
block_push c cs s p = by_test (cases_Bool (eqb c 42 && begins_with_byte 47 cs)) p
  where
    by_test : ((eqb c 42 && begins_with_byte 47 cs) ≡ true) ⊎ ((eqb c 42 && begins_with_byte 47 cs) ≡ false) → Parts (42 ∷ 47 ∷ []) has_close cs → Parts (42 ∷ 47 ∷ []) has_close (c ∷ cs)
    by_test (inl t) p =
        let both = and_parts (eqb c 42) (begins_with_byte 47 cs) t in
        let tail = begins_is 47 cs both.1 in
        let star : c ≡ 42 = eqb-true c 42 both.0 in
        inl (record { words = []; more = tail.0; is = ap (λ x. x ∷ cs) star ∙ ap (λ x. 42 ∷ x) tail.1; first = refl; splits = tail_of cs tail.0 47 tail.1 s })
    by_test (inr t) (inr h) = inr (ap (λ b. b || has_close cs) t ∙ h)
    by_test (inr t) (inl q) = inl (record { words = c ∷ q.words; more = q.more; is = ap (λ x. c ∷ x) q.is; first = ap (λ b. b || has_close q.words) (still_open c cs q.words q.more q.is t) ∙ q.first; splits = q.splits })

abbrev Inner : List ℕ → Type 0
Inner [] = ⊤
Inner (d ∷ ds) = Parts (10 ∷ []) has_line_feed ds × Parts (42 ∷ 47 ∷ []) has_close ds

behind_line : (c d : ℕ) (ds : List ℕ) → c ≡ 47 → d ≡ 47 → Parts (10 ∷ []) has_line_feed ds → Splits (c ∷ d ∷ ds)
behind_line c d ds ce de (inl q) = record { rest = q.splits.rest; behind = line q.words q.more (rw (ce, de, ← q.is) refl) q.first q.splits.behind; ends = q.splits.ends }
behind_line c d ds ce de (inr h) = record { rest = []; behind = last_line ds (rw (ce, de) refl) h refl; ends = inl refl }

behind_block : (c d : ℕ) (ds : List ℕ) → c ≡ 47 → d ≡ 42 → Parts (42 ∷ 47 ∷ []) has_close ds → Splits (c ∷ d ∷ ds)
behind_block c d ds ce de (inl q) = record { rest = q.splits.rest; behind = block q.words q.more (rw (ce, de, ← q.is) refl) q.first q.splits.behind; ends = q.splits.ends }
behind_block c d ds ce de (inr h) = record { rest = c ∷ d ∷ ds; behind = none refl; ends = inr (ds, rw (ce, de) refl, h) }

gap_push : (c : ℕ) (cs : List ℕ) → Splits cs → Inner cs → Splits (c ∷ cs)
gap_push c cs s inner = by_blank (cases_Bool (leb c 32))
  where
    by_next : (ds : List ℕ) → Inner ds → leb c 32 ≡ false → c ≡ 47 → Splits (c ∷ ds)
    by_next [] i big slash = record { rest = c ∷ []; behind = none refl; ends = inl (rw (big, no_and (eqb c 47)) refl) }
    by_next (d ∷ ds) i big slash = by_second (eqb_tells d 47) (eqb_tells d 42)
      where
        by_second : ((eqb d 47 ≡ true) × (d ≡ 47)) ⊎ ((eqb d 47 ≡ false) × (d ≢ 47)) → ((eqb d 42 ≡ true) × (d ≡ 42)) ⊎ ((eqb d 42 ≡ false) × (d ≢ 42)) → Splits (c ∷ d ∷ ds)
        by_second (inl t) u = behind_line c d ds slash t.1 i.0
        by_second (inr t) (inl u) = behind_block c d ds slash u.1 i.1
        by_second (inr t) (inr u) = record { rest = c ∷ d ∷ ds; behind = none refl; ends = inl (rw (big, t.0, u.0, no_and (eqb c 47)) refl) }

    by_slash : leb c 32 ≡ false → ((eqb c 47 ≡ true) × (c ≡ 47)) ⊎ ((eqb c 47 ≡ false) × (c ≢ 47)) → Splits (c ∷ cs)
    by_slash big (inl t) = by_next cs inner big t.1
    by_slash big (inr t) = record { rest = c ∷ cs; behind = none refl; ends = inl (rw (big, t.0) refl) }

    by_blank : (leb c 32 ≡ true) ⊎ (leb c 32 ≡ false) → Splits (c ∷ cs)
    by_blank (inl t) = record { rest = s.rest; behind = blank c cs refl (leb-true c 32 t) s.behind; ends = s.ends }
    by_blank (inr t) = by_slash t (eqb_tells c 47)

record All (text : List ℕ) : Type 0 where
  splits : Splits text
  lines : Parts (10 ∷ []) has_line_feed text
  blocks : Parts (42 ∷ 47 ∷ []) has_close text

all_splits : (text : List ℕ) → All text
all_splits [] = record { splits = record { rest = []; behind = none refl; ends = inl refl }; lines = inr refl; blocks = inr refl }
all_splits (c ∷ []) =
    let tail = all_splits [] in
    record { splits = gap_push c [] tail.splits tt; lines = line_push c [] tail.splits tail.lines; blocks = block_push c [] tt tail.blocks }
all_splits (c ∷ d ∷ cs) =
    let tail = all_splits (d ∷ cs) in
    let inner = all_splits cs in
    record { splits = gap_push c (d ∷ cs) tail.splits (inner.lines, inner.blocks); lines = line_push c (d ∷ cs) tail.splits tail.lines; blocks = block_push c (d ∷ cs) inner.splits tail.blocks }

pub gaps_end : GapsEnd
gaps_end text rest = (λ e. forward (all_splits text) e, λ g. gap_goes rest (Ok rest) (stops rest g.1) text g.0 text)
  where
    forward : All text → left_behind text ≡ Ok rest → IsBehindGap rest text × (begins_gap rest ≡ false)
    forward a e = by_end a.splits.ends
      where
        by_end : (begins_gap a.splits.rest ≡ false) ⊎ IsUnclosed a.splits.rest → IsBehindGap rest text × (begins_gap rest ≡ false)
        by_end (inl h) =
            let goes = gap_goes a.splits.rest (Ok a.splits.rest) (stops a.splits.rest h) text a.splits.behind text in
            let same : a.splits.rest ≡ rest = cc in
            (subst (λ r. IsBehindGap r text) same a.splits.behind, subst (λ r. begins_gap r ≡ false) same h)
        by_end (inr u) =
            let goes = gap_goes a.splits.rest (Err a.splits.rest) (stops_unclosed a.splits.rest u) text a.splits.behind text in
            absurd cc

pub fault_is_unclosed : FaultIsUnclosed
fault_is_unclosed text opened = (λ e. forward (all_splits text) e, λ g. gap_goes opened (Err opened) (stops_unclosed opened g.1) text g.0 text)
  where
    forward : All text → left_behind text ≡ Err opened → IsBehindGap opened text × IsUnclosed opened
    forward a e = by_end a.splits.ends
      where
        by_end : (begins_gap a.splits.rest ≡ false) ⊎ IsUnclosed a.splits.rest → IsBehindGap opened text × IsUnclosed opened
        by_end (inr u) =
            let goes = gap_goes a.splits.rest (Err a.splits.rest) (stops_unclosed a.splits.rest u) text a.splits.behind text in
            let same : a.splits.rest ≡ opened = cc in
            (subst (λ r. IsBehindGap r text) same a.splits.behind, subst IsUnclosed same u)
        by_end (inl h) =
            let goes = gap_goes a.splits.rest (Ok a.splits.rest) (stops a.splits.rest h) text a.splits.behind text in
            absurd cc
