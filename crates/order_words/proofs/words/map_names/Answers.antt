use Rattle.std.proofs.Common.{◌≡◌, ℕ, List, length, drop, lit<, map, take, sym, subst, ◌∙◌}
use Rattle.std.specs.List.{list_all, slice_split}
use Rattle.std.proofs.lemmas.Iterator.Consumers.{YieldsList-end, YieldsList-turn}
use Rattle.std.proofs.lemmas.Iterator.Splits.{YieldsList-from_str_split}
use Rattle.std.proofs.lemmas.List.{length_push}
use Rattle.order_words.specs.Values.{is_comma, is_map, upper}
use Rattle.order_words.proofs.Listing.{all_upper, other_name, tested_more, upper_more}
use Rattle.order_words.proofs.words.map_names.Goals as goal

pub returns-then-not-may_name_map : goal.returns-then-not-may_name_map
returns-then-not-may_name_map c =
    let t = YieldsList-turn (YieldsList-from_str_split 44 c.args.list.now (lit< tt) (cc) (cc) (cc)) c.loop-name.yielded _ c.loop-name.yielded_by _ _ c.in-Some.name c.in-Some.is c.next.ensures.steps in
    other_name (slice_split is_comma c.args.list.now) (length c.loop-name.yielded) c.in-Some.name.now t (sym c.may_name_map.ensures ∙ c.if-not-may_name_map.true) c.loop-name.invariant.tested

pub loop-name-preserved : goal.loop-name-preserved
loop-name-preserved c =
    let words : List (List ℕ) = slice_split is_comma c.args.list.now in
    let k : ℕ = length c.loop-name.yielded in
    let t = YieldsList-turn (YieldsList-from_str_split 44 c.args.list.now (lit< tt) (cc) (cc) (cc)) c.loop-name.yielded _ c.loop-name.yielded_by _ _ c.in-Some.name c.in-Some.is c.next.ensures.steps in
    let one_more = length_push c.loop-name.yielded c.in-Some.name in
    record {
      tested = subst (λ (j : ℕ). list_all is_map words ≡ list_all is_map (drop j words)) (sym one_more) (tested_more words k c.in-Some.name.now t (sym c.may_name_map.ensures ∙ c.if-not-may_name_map.false) c.loop-name.invariant.tested);
      names = subst (λ (j : ℕ). c.push.new.self.items ≡ map upper (take j words)) (sym one_more) (upper_more words k c.in-Some.name.now c.in_ok-upper_text.field-0 c.loop-name.names.items c.push.new.self.items t c.loop-name.invariant.names c.in_ok-upper_text.ensures c.in_ok-push.ensures.items);
    }

pub returns : goal.returns
returns c =
    let t = YieldsList-end (YieldsList-from_str_split 44 c.args.list.now (lit< tt) (cc) (cc) (cc)) c.loop-name.yielded _ c.loop-name.yielded_by _ _ c.in-None.is c.next.ensures.steps in
    all_upper (slice_split is_comma c.args.list.now) c.of.result (length c.loop-name.yielded) t.1 c.loop-name.invariant.tested (c.of.ensures ∙ c.loop-name.invariant.names)
