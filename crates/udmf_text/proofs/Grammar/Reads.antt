-- That each step of the reading goes by what may come there.
use Rattle.std.proofs.Common.{◌≡◌, ◌<◌, ◌⊎◌, inl, inr, ℕ, zero, suc, ◌+◌, ◌-◌, Bool, true, false, ◌&&◌, ◌||◌, List, [], ◌∷◌, length, Option, Some, None, Result, Ok, Err, refl, sym, ◌∙◌, subst, arith}
use Rattle.std.specs.List.{list_all, flat_map}
use Rattle.std.proofs.lemmas.Bool.{true≢false, cases_Bool}
use Rattle.udmf_text.specs.declared.text_tokens.token.Kind.{Kind}
use Rattle.udmf_text.specs.declared.text_tokens.token.Kind.TheVariants.{Open, Close, Is, End, Word, Quoted}
use Rattle.udmf_text.specs.TextTokens.Text.{PlacedParts, first_token_of}
use Rattle.udmf_text.specs.Parts.{◌>>=◌, passed, token_at, is_kind, is_of_name, behind_mark, Item, Opens, Gives, Closes, StageBytes, Outside, Behind, Valued, Inside, ValuedInside, FoundBytes, found_part, value_at, item_at, behind_name, inside_at, surely, part_at}
use Rattle.udmf_text.specs.Told.{PlacedPart, Told, told_in, told_of_text}
use Rattle.udmf_text.specs.Grammar.{IsMark, IsName, IsValue, item_parts, BreaksOff, IsTextTold, TellsItems}
use Rattle.udmf_text.proofs.Shorter.{next_shorter}
use Rattle.udmf_text.proofs.ToldSteps.{told_goes, told_ends, told_breaks}
use Rattle.udmf_text.proofs.Grammar.Explained.{ToCome, Breaks, Explains, Viable, unread, early, wrong, ended, push, same}
use Rattle.udmf_text.proofs.Grammar.Places.{Then, silent, Items, Pairs, Ended, given_at, Value, Equals, opened_at, OpensBlock, Named, closed_at, ClosesBlock, Keyed, InBlock, name_at, NamesItem, Nothing, OutOfBlock, place_of, items_out, items_in, pairs_out, pairs_in}
use Rattle.udmf_text.proofs.Grammar.Tokens.{no_then, then_some, behind_then, behind_left, behind_right, neither, viable_items, viable_pairs, viable_ended, viable_value, viable_equals, viable_named}

-- ---- what a step of the reading has to be

-- behind a mark
abbrev MarkReads : ℕ → ToCome → ToCome → List ℕ → Result (List ℕ) ℕ → Type 0
MarkReads total X Y text (Ok rest) = (length rest < length text) × ((parts : List PlacedPart) (fault : Option ℕ) → Explains total Y rest parts fault → Explains total X text parts fault)
MarkReads total X Y text (Err left) = Explains total X text [] (Some (total - left))

abbrev placed : ℕ → FoundBytes → PlacedPart
placed total f = record { at = total - f.left; part = f.part }

-- a part, the end, or a fault
abbrev Reads : ℕ → ToCome → List ℕ → Result (Option FoundBytes) ℕ → Type 0
Reads total X text (Ok None) = Explains total X text [] None
Reads total X text (Ok (Some f)) = (length f.rest < length text) × ((parts : List PlacedPart) (fault : Option ℕ) → Explains total (place_of total f.stage) f.rest parts fault → Explains total X text (placed total f ∷ parts) fault)
Reads total X text (Err left) = Explains total X text [] (Some (total - left))

-- with a token that makes no part in front
reads_behind : (total : ℕ) (X Y : ToCome) (text rest : List ℕ) → length rest < length text → ((parts : List PlacedPart) (fault : Option ℕ) → Explains total Y rest parts fault → Explains total X text parts fault) → (r : Result (Option FoundBytes) ℕ) → Reads total Y rest r → Reads total X text r
reads_behind total X Y text rest short go (Ok None) h = go [] None h
reads_behind total X Y text rest short go (Ok (Some f)) h = (omega (arith, short, h.0), λ parts fault w. go (placed total f ∷ parts) fault (h.1 parts fault w))
reads_behind total X Y text rest short go (Err left) h = go [] (Some (total - left)) h

mark_then : (total : ℕ) (X Y : ToCome) (text : List ℕ) (m : Result (List ℕ) ℕ) → MarkReads total X Y text m → (f : List ℕ → Result (Option FoundBytes) ℕ) → ((rest : List ℕ) → Reads total Y rest (f rest)) → Reads total X text (m >>= f)
mark_then total X Y text (Ok rest) m f h = reads_behind total X Y text rest m.0 m.1 (f rest) (h rest)
mark_then total X Y text (Err left) m f h = m

reads_same : (total : ℕ) (X Y : ToCome) (text : List ℕ) → ((ts : List PlacedParts) (ps : List PlacedPart) → X ts ps → Y ts ps) → ((ts : List PlacedParts) (ps : List PlacedPart) → Y ts ps → X ts ps) → (r : Result (Option FoundBytes) ℕ) → Reads total X text r → Reads total Y text r
reads_same total X Y text there back (Ok None) h = same total X Y text there back [] None h
reads_same total X Y text there back (Ok (Some f)) h = (h.0, λ parts fault w. same total X Y text there back (placed total f ∷ parts) fault (h.1 parts fault w))
reads_same total X Y text there back (Err left) h = same total X Y text there back [] (Some (total - left)) h

surely_behind : (m : Result (List ℕ) ℕ) (f : List ℕ → Result FoundBytes ℕ) → surely (m >>= f) ≡ (m >>= λ rest. surely (f rest))
surely_behind (Ok rest) f = refl
surely_behind (Err left) f = refl

-- ---- marks

mark_is : (kind : Kind) (text : List ℕ) (t : PlacedParts) → first_token_of text ≡ Ok (Some t) → behind_mark kind text ≡ passed (is_kind t.token.kind kind) t.left t.token.rest
unfolding behind_mark token_at
mark_is kind text t e = rw e refl

mark_ends : (kind : Kind) (text : List ℕ) → first_token_of text ≡ Ok None → behind_mark kind text ≡ Err 0
unfolding behind_mark token_at
mark_ends kind text e = rw e refl

mark_breaks : (kind : Kind) (text : List ℕ) (left : ℕ) → first_token_of text ≡ Err left → behind_mark kind text ≡ Err left
unfolding behind_mark token_at
mark_breaks kind text left e = rw e refl

abbrev Marked : Kind → ToCome → ToCome
Marked kind Y = Then (IsMark kind) silent (λ _. Y)

not_both : {b : Bool} → b ≡ false → b ≡ true → ⊥
not_both f t = true≢false (sym t ∙ f)

mark_reads : (total : ℕ) (kind : Kind) (Y : ToCome) (text : List ℕ) → Viable (Marked kind Y) → MarkReads total (Marked kind Y) Y text (behind_mark kind text)
mark_reads total kind Y text v = by_next (first_token_of text) refl
  where
    by_kind : (t : PlacedParts) → first_token_of text ≡ Ok (Some t) → (is_kind t.token.kind kind ≡ true) ⊎ (is_kind t.token.kind kind ≡ false) → MarkReads total (Marked kind Y) Y text (passed (is_kind t.token.kind kind) t.left t.token.rest)
    by_kind t e (inl h) = subst (λ b. MarkReads total (Marked kind Y) Y text (passed b t.left t.token.rest)) (sym h) (next_shorter text t e, λ parts fault w. push total (Marked kind Y) Y text t [] (behind_then (IsMark kind) silent (λ _. Y) t h) e parts fault w)
    by_kind t e (inr h) = subst (λ b. MarkReads total (Marked kind Y) Y text (passed b t.left t.token.rest)) (sym h) (wrong total (Marked kind Y) text t v e (no_then (IsMark kind) silent (λ _. Y) t (not_both h)))

    by_next : (r : Result (Option PlacedParts) ℕ) → first_token_of text ≡ r → MarkReads total (Marked kind Y) Y text (behind_mark kind text)
    by_next (Err left) e = subst (MarkReads total (Marked kind Y) Y text) (sym (mark_breaks kind text left e)) (unread total (Marked kind Y) text left v e)
    by_next (Ok None) e = subst (MarkReads total (Marked kind Y) Y text) (sym (mark_ends kind text e)) (early total (Marked kind Y) text v e (then_some (IsMark kind) silent (λ _. Y)))
    by_next (Ok (Some t)) e = subst (MarkReads total (Marked kind Y) Y text) (sym (mark_is kind text t e)) (by_kind t e (cases_Bool (is_kind t.token.kind kind)))

-- ---- values

abbrev value_found : List ℕ → StageBytes → PlacedParts → FoundBytes
value_found key stage t = found_part t.left (Gives (record { key = key; quoted = is_kind t.token.kind Quoted; value = t.token.bytes })) stage t.token.rest

abbrev is_value : PlacedParts → Bool
is_value t = is_kind t.token.kind Word || is_kind t.token.kind Quoted

value_is : (key : List ℕ) (stage : StageBytes) (text : List ℕ) (t : PlacedParts) → first_token_of text ≡ Ok (Some t) → value_at key stage text ≡ passed (is_value t) t.left (value_found key stage t)
unfolding value_at token_at
value_is key stage text t e = rw e refl

value_ends : (key : List ℕ) (stage : StageBytes) (text : List ℕ) → first_token_of text ≡ Ok None → value_at key stage text ≡ Err 0
unfolding value_at token_at
value_ends key stage text e = rw e refl

value_breaks : (key : List ℕ) (stage : StageBytes) (text : List ℕ) (left : ℕ) → first_token_of text ≡ Err left → value_at key stage text ≡ Err left
unfolding value_at token_at
value_breaks key stage text left e = rw e refl

-- a value, and then what may come at a stage
abbrev ValueThen : ℕ → List ℕ → StageBytes → ToCome
ValueThen total key stage = Then IsValue (given_at total key) (λ _. place_of total stage)

value_reads : (total : ℕ) (key : List ℕ) (stage : StageBytes) (text : List ℕ) → Viable (ValueThen total key stage) → Reads total (ValueThen total key stage) text (surely (value_at key stage text))
value_reads total key stage text v = by_next (first_token_of text) refl
  where
    by_value : (t : PlacedParts) → first_token_of text ≡ Ok (Some t) → (is_value t ≡ true) ⊎ (is_value t ≡ false) → Reads total (ValueThen total key stage) text (surely (passed (is_value t) t.left (value_found key stage t)))
    by_value t e (inl h) = subst (λ b. Reads total (ValueThen total key stage) text (surely (passed b t.left (value_found key stage t)))) (sym h) (next_shorter text t e, λ parts fault w. push total (ValueThen total key stage) (place_of total stage) text t (given_at total key t) (behind_then IsValue (given_at total key) (λ _. place_of total stage) t h) e parts fault w)
    by_value t e (inr h) = subst (λ b. Reads total (ValueThen total key stage) text (surely (passed b t.left (value_found key stage t)))) (sym h) (wrong total (ValueThen total key stage) text t v e (no_then IsValue (given_at total key) (λ _. place_of total stage) t (not_both h)))

    by_next : (r : Result (Option PlacedParts) ℕ) → first_token_of text ≡ r → Reads total (ValueThen total key stage) text (surely (value_at key stage text))
    by_next (Err left) e = subst (λ x. Reads total (ValueThen total key stage) text (surely x)) (sym (value_breaks key stage text left e)) (unread total (ValueThen total key stage) text left v e)
    by_next (Ok None) e = subst (λ x. Reads total (ValueThen total key stage) text (surely x)) (sym (value_ends key stage text e)) (early total (ValueThen total key stage) text v e (then_some IsValue (given_at total key) (λ _. place_of total stage)))
    by_next (Ok (Some t)) e = subst (λ x. Reads total (ValueThen total key stage) text (surely x)) (sym (value_is key stage text t e)) (by_value t e (cases_Bool (is_value t)))

-- ---- items

abbrev is_name : PlacedParts → Bool
is_name t = is_kind t.token.kind Word && list_all is_of_name t.token.bytes

abbrev item_found : PlacedParts → FoundBytes
item_found t = found_part t.left (Item t.token.bytes) (Behind t.token.bytes) t.token.rest

abbrev item_here : PlacedParts → Bool → Result (Option FoundBytes) ℕ
item_here t true = Ok (Some (item_found t))
item_here t false = Err t.left

item_is : (text : List ℕ) (t : PlacedParts) (b : Bool) → first_token_of text ≡ Ok (Some t) → is_name t ≡ b → item_at text ≡ item_here t b
unfolding item_at
item_is text t true e h = rw (e, h) refl
item_is text t false e h = rw (e, h) refl

item_ends : (text : List ℕ) → first_token_of text ≡ Ok None → item_at text ≡ Ok None
unfolding item_at
item_ends text e = rw e refl

item_breaks : (text : List ℕ) (left : ℕ) → first_token_of text ≡ Err left → item_at text ≡ Err left
unfolding item_at
item_breaks text left e = rw e refl

no_nothing : (t : PlacedParts) (ts : List PlacedParts) (ps : List PlacedPart) → Nothing (t ∷ ts) ps → ⊥
no_nothing t ts ps n = let e : t ∷ ts ≡ [] = n.0 in absurd cc

viable_out : (total : ℕ) → Viable (OutOfBlock total)
viable_out total = record { tokens = []; parts = []; fits = inl (refl, refl) }

out_reads : (total : ℕ) (text : List ℕ) → Reads total (OutOfBlock total) text (item_at text)
out_reads total text = by_next (first_token_of text) refl
  where
    by_name : (t : PlacedParts) (b : Bool) → first_token_of text ≡ Ok (Some t) → is_name t ≡ b → Reads total (OutOfBlock total) text (item_here t b)
    by_name t true e h = (next_shorter text t e, λ parts fault w. push total (OutOfBlock total) (Named total t.token.bytes) text t (name_at total t) (behind_right Nothing (NamesItem total) (Named total t.token.bytes) t (name_at total t) (behind_then IsName (name_at total) (λ u. Named total u.token.bytes) t h) (no_nothing t)) e parts fault w)
    by_name t false e h = wrong total (OutOfBlock total) text t (viable_out total) e (λ ts ps. neither Nothing (NamesItem total) (t ∷ ts) ps (no_nothing t ts ps) (no_then IsName (name_at total) (λ u. Named total u.token.bytes) t (not_both h) ts ps))

    by_next : (r : Result (Option PlacedParts) ℕ) → first_token_of text ≡ r → Reads total (OutOfBlock total) text (item_at text)
    by_next (Err left) e = subst (Reads total (OutOfBlock total) text) (sym (item_breaks text left e)) (unread total (OutOfBlock total) text left (viable_out total) e)
    by_next (Ok None) e = subst (Reads total (OutOfBlock total) text) (sym (item_ends text e)) (ended total (OutOfBlock total) text e (inl (refl, refl)))
    by_next (Ok (Some t)) e = subst (Reads total (OutOfBlock total) text) (sym (item_is text t (is_name t) e refl)) (by_name t (is_name t) e refl)

item_reads : (total : ℕ) (text : List ℕ) → Reads total (Items total) text (item_at text)
item_reads total text = reads_same total (OutOfBlock total) (Items total) text (items_in total) (items_out total) (item_at text) (out_reads total text)

-- ---- behind the name of an item

abbrev named_here : List ℕ → PlacedParts → Bool → Bool → Result FoundBytes ℕ
named_here name t true is = Ok (found_part t.left (Opens name) Inside t.token.rest)
named_here name t false true = value_at name Valued t.token.rest
named_here name t false false = Err t.left

named_is : (name text : List ℕ) (t : PlacedParts) (opens is : Bool) → first_token_of text ≡ Ok (Some t) → is_kind t.token.kind Open ≡ opens → is_kind t.token.kind Is ≡ is → behind_name name text ≡ named_here name t opens is
unfolding behind_name token_at
named_is name text t true is e h i = rw (e, h) refl
named_is name text t false true e h i = rw (e, h, i) refl
named_is name text t false false e h i = rw (e, h, i) refl

named_ends : (name text : List ℕ) → first_token_of text ≡ Ok None → behind_name name text ≡ Err 0
unfolding behind_name token_at
named_ends name text e = rw e refl

named_breaks : (name text : List ℕ) (left : ℕ) → first_token_of text ≡ Err left → behind_name name text ≡ Err left
unfolding behind_name token_at
named_breaks name text left e = rw e refl

open_or_is : (k : Kind) → is_kind k Open ≡ true → is_kind k Is ≡ true → ⊥
open_or_is Open o i = true≢false (sym i)
open_or_is Close o i = true≢false (sym i)
open_or_is Is o i = true≢false (sym o)
open_or_is End o i = true≢false (sym i)
open_or_is Word o i = true≢false (sym i)
open_or_is Quoted o i = true≢false (sym i)

named_reads : (total : ℕ) (name text : List ℕ) → Reads total (Named total name) text (surely (behind_name name text))
named_reads total name text = by_next (first_token_of text) refl
  where
    by_kind : (t : PlacedParts) (opens is : Bool) → first_token_of text ≡ Ok (Some t) → is_kind t.token.kind Open ≡ opens → is_kind t.token.kind Is ≡ is → Reads total (Named total name) text (surely (named_here name t opens is))
    by_kind t true is e h i = (next_shorter text t e, λ parts fault w. push total (Named total name) (Pairs total) text t (opened_at total name t) (behind_left (OpensBlock total name) (Equals total name (Items total)) (Pairs total) t (opened_at total name t) (behind_then (IsMark Open) (opened_at total name) (λ _. Pairs total) t h) (no_then (IsMark Is) silent (λ _. Value total name (Items total)) t (open_or_is t.token.kind h))) e parts fault w)
    by_kind t false true e h i = reads_behind total (Named total name) (Value total name (Items total)) text t.token.rest (next_shorter text t e) (push total (Named total name) (Value total name (Items total)) text t [] (behind_right (OpensBlock total name) (Equals total name (Items total)) (Value total name (Items total)) t [] (behind_then (IsMark Is) silent (λ _. Value total name (Items total)) t i) (no_then (IsMark Open) (opened_at total name) (λ _. Pairs total) t (not_both h))) e) (surely (value_at name Valued t.token.rest)) (value_reads total name Valued t.token.rest (viable_value total name (Items total) (viable_items total)))
    by_kind t false false e h i = wrong total (Named total name) text t (viable_named total name) e (λ ts ps. neither (OpensBlock total name) (Equals total name (Items total)) (t ∷ ts) ps (no_then (IsMark Open) (opened_at total name) (λ _. Pairs total) t (not_both h) ts ps) (no_then (IsMark Is) silent (λ _. Value total name (Items total)) t (not_both i) ts ps))

    by_next : (r : Result (Option PlacedParts) ℕ) → first_token_of text ≡ r → Reads total (Named total name) text (surely (behind_name name text))
    by_next (Err left) e = subst (λ x. Reads total (Named total name) text (surely x)) (sym (named_breaks name text left e)) (unread total (Named total name) text left (viable_named total name) e)
    by_next (Ok None) e = subst (λ x. Reads total (Named total name) text (surely x)) (sym (named_ends name text e)) (early total (Named total name) text (viable_named total name) e (λ ps. neither (OpensBlock total name) (Equals total name (Items total)) [] ps (then_some (IsMark Open) (opened_at total name) (λ _. Pairs total) ps) (then_some (IsMark Is) silent (λ _. Value total name (Items total)) ps)))
    by_next (Ok (Some t)) e = subst (λ x. Reads total (Named total name) text (surely x)) (sym (named_is name text t (is_kind t.token.kind Open) (is_kind t.token.kind Is) e refl refl)) (by_kind t (is_kind t.token.kind Open) (is_kind t.token.kind Is) e refl refl)

-- ---- in a block

abbrev inside_here : PlacedParts → Bool → Bool → Result FoundBytes ℕ
inside_here t true name = Ok (found_part t.left Closes Outside t.token.rest)
inside_here t false true = behind_mark Is t.token.rest >>= λ more. value_at t.token.bytes ValuedInside more
inside_here t false false = Err t.left

inside_is : (text : List ℕ) (t : PlacedParts) (closes name : Bool) → first_token_of text ≡ Ok (Some t) → is_kind t.token.kind Close ≡ closes → is_name t ≡ name → inside_at text ≡ inside_here t closes name
unfolding inside_at token_at
inside_is text t true name e h i = rw (e, h) refl
inside_is text t false true e h i = rw (e, h, i) refl
inside_is text t false false e h i = rw (e, h, i) refl

inside_ends : (text : List ℕ) → first_token_of text ≡ Ok None → inside_at text ≡ Err 0
unfolding inside_at token_at
inside_ends text e = rw e refl

inside_breaks : (text : List ℕ) (left : ℕ) → first_token_of text ≡ Err left → inside_at text ≡ Err left
unfolding inside_at token_at
inside_breaks text left e = rw e refl

close_or_word : (k : Kind) (b : Bool) → is_kind k Close ≡ true → (is_kind k Word && b) ≡ true → ⊥
close_or_word Open b c w = true≢false (sym c)
close_or_word Close b c w = true≢false (sym w)
close_or_word Is b c w = true≢false (sym c)
close_or_word End b c w = true≢false (sym c)
close_or_word Word b c w = true≢false (sym c)
close_or_word Quoted b c w = true≢false (sym c)

viable_in : (total : ℕ) → Viable (InBlock total)
viable_in total =
    let v = viable_pairs total in
    record { tokens = v.tokens; parts = v.parts; fits = pairs_out total v.tokens v.parts v.fits }

keyed_reads : (total : ℕ) (key text : List ℕ) → Reads total (Equals total key (Pairs total)) text (surely (behind_mark Is text >>= λ more. value_at key ValuedInside more))
keyed_reads total key text =
    let v = viable_value total key (Pairs total) (viable_pairs total) in
    let m = mark_reads total Is (Value total key (Pairs total)) text (viable_equals total key (Pairs total) (viable_pairs total)) in
    let r : Reads total (Equals total key (Pairs total)) text (behind_mark Is text >>= λ more. surely (value_at key ValuedInside more)) = mark_then total (Equals total key (Pairs total)) (Value total key (Pairs total)) text (behind_mark Is text) m (λ more. surely (value_at key ValuedInside more)) (λ more. value_reads total key ValuedInside more v) in
    subst (Reads total (Equals total key (Pairs total)) text) (sym (surely_behind (behind_mark Is text) (λ more. value_at key ValuedInside more))) r

in_reads : (total : ℕ) (text : List ℕ) → Reads total (InBlock total) text (surely (inside_at text))
in_reads total text = by_next (first_token_of text) refl
  where
    by_kind : (t : PlacedParts) (closes name : Bool) → first_token_of text ≡ Ok (Some t) → is_kind t.token.kind Close ≡ closes → is_name t ≡ name → Reads total (InBlock total) text (surely (inside_here t closes name))
    by_kind t true name e h i = (next_shorter text t e, λ parts fault w. push total (InBlock total) (Items total) text t (closed_at total t) (behind_left (ClosesBlock total) (Keyed total) (Items total) t (closed_at total t) (behind_then (IsMark Close) (closed_at total) (λ _. Items total) t h) (no_then IsName silent (λ u. Equals total u.token.bytes (Pairs total)) t (close_or_word t.token.kind (list_all is_of_name t.token.bytes) h))) e parts fault w)
    by_kind t false true e h i = reads_behind total (InBlock total) (Equals total t.token.bytes (Pairs total)) text t.token.rest (next_shorter text t e) (push total (InBlock total) (Equals total t.token.bytes (Pairs total)) text t [] (behind_right (ClosesBlock total) (Keyed total) (Equals total t.token.bytes (Pairs total)) t [] (behind_then IsName silent (λ u. Equals total u.token.bytes (Pairs total)) t i) (no_then (IsMark Close) (closed_at total) (λ _. Items total) t (not_both h))) e) (surely (behind_mark Is t.token.rest >>= λ more. value_at t.token.bytes ValuedInside more)) (keyed_reads total t.token.bytes t.token.rest)
    by_kind t false false e h i = wrong total (InBlock total) text t (viable_in total) e (λ ts ps. neither (ClosesBlock total) (Keyed total) (t ∷ ts) ps (no_then (IsMark Close) (closed_at total) (λ _. Items total) t (not_both h) ts ps) (no_then IsName silent (λ u. Equals total u.token.bytes (Pairs total)) t (not_both i) ts ps))

    by_next : (r : Result (Option PlacedParts) ℕ) → first_token_of text ≡ r → Reads total (InBlock total) text (surely (inside_at text))
    by_next (Err left) e = subst (λ x. Reads total (InBlock total) text (surely x)) (sym (inside_breaks text left e)) (unread total (InBlock total) text left (viable_in total) e)
    by_next (Ok None) e = subst (λ x. Reads total (InBlock total) text (surely x)) (sym (inside_ends text e)) (early total (InBlock total) text (viable_in total) e (λ ps. neither (ClosesBlock total) (Keyed total) [] ps (then_some (IsMark Close) (closed_at total) (λ _. Items total) ps) (then_some IsName silent (λ u. Equals total u.token.bytes (Pairs total)) ps)))
    by_next (Ok (Some t)) e = subst (λ x. Reads total (InBlock total) text (surely x)) (sym (inside_is text t (is_kind t.token.kind Close) (is_name t) e refl refl)) (by_kind t (is_kind t.token.kind Close) (is_name t) e refl refl)

pair_reads : (total : ℕ) (text : List ℕ) → Reads total (Pairs total) text (surely (inside_at text))
pair_reads total text = reads_same total (InBlock total) (Pairs total) text (pairs_in total) (pairs_out total) (surely (inside_at text)) (in_reads total text)

-- ---- all places, all parts

part_reads : (total : ℕ) (stage : StageBytes) (text : List ℕ) → Reads total (place_of total stage) text (part_at stage text)
part_reads total Outside text = item_reads total text
part_reads total (Behind name) text = named_reads total name text
part_reads total Valued text = mark_then total (Ended (Items total)) (Items total) text (behind_mark End text) (mark_reads total End (Items total) text (viable_ended (Items total) (viable_items total))) (λ more. item_at more) (λ more. item_reads total more)
part_reads total Inside text = pair_reads total text
part_reads total ValuedInside text = mark_then total (Ended (Pairs total)) (Pairs total) text (behind_mark End text) (mark_reads total End (Pairs total) text (viable_ended (Pairs total) (viable_pairs total))) (λ more. surely (inside_at more)) (λ more. pair_reads total more)

abbrev Tells : ℕ → StageBytes → List ℕ → Told → Type 0
Tells total stage text t = Explains total (place_of total stage) text t.parts t.fault

by_part : (total n : ℕ) (stage : StageBytes) (rest : List ℕ) → length rest < suc n → ((stage : StageBytes) (rest : List ℕ) → length rest < n → Tells total stage rest (told_in total n stage rest)) → (r : Result (Option FoundBytes) ℕ) → part_at stage rest ≡ r → Reads total (place_of total stage) rest r → Tells total stage rest (told_in total (suc n) stage rest)
by_part total n stage rest short others (Ok None) e h = subst (Tells total stage rest) (sym (told_ends total n stage rest e)) h
by_part total n stage rest short others (Ok (Some f)) e h =
    let t = told_in total n f.stage f.rest in
    let more = others f.stage f.rest (omega (arith, short, h.0)) in
    subst (Tells total stage rest) (sym (told_goes total n stage rest f e)) (h.1 t.parts t.fault more)
by_part total n stage rest short others (Err left) e h = subst (Tells total stage rest) (sym (told_breaks total n stage rest left e)) h

tells : (total n : ℕ) (stage : StageBytes) (rest : List ℕ) → length rest < n → Tells total stage rest (told_in total n stage rest)
tells total zero stage rest short = absurd (omega (arith, short))
tells total (suc n) stage rest short = by_part total n stage rest short (λ s r k. tells total n s r k) (part_at stage rest) refl (part_reads total stage rest)

breaks_off : (total : ℕ) (before : List PlacedParts) (at : ℕ) (r : Result (Option PlacedParts) ℕ) → Breaks total (Items total) before r at → BreaksOff total before r at
breaks_off total before at (Err left) h = h
breaks_off total before at (Ok None) h = (h.0, λ items are. h.1 (flat_map (item_parts total) items) (record { items = items; are = are; parts = refl }))
breaks_off total before at (Ok (Some t)) h = (h.0, λ more items are. h.1 more (flat_map (item_parts total) items) (record { items = items; are = are; parts = refl }))

told_is : (text : List ℕ) (parts : List PlacedPart) (fault : Option ℕ) → Explains (length text) (Items (length text)) text parts fault → IsTextTold text parts fault
told_is text parts None w = record { items = w.fits.items; tokens = w.tokens; are = w.fits.are; rest = w.rest; begins = w.begins; ends = w.ends; made = w.fits.parts }
told_is text parts (Some at) w = record { before = w.before; rest = w.rest; begins = w.begins; more = w.more; items = w.fits.items; fits = w.fits.are; others = w.others; made = sym w.fits.parts; breaks = breaks_off (length text) w.before at (first_token_of w.rest) w.breaks }

pub tells_items : TellsItems
tells_items text =
    let t = told_of_text text in
    told_is text t.parts t.fault (tells (length text) (length text + 1) Outside text (omega arith))
