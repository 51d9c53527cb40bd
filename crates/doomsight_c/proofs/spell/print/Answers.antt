use Rattle.std.proofs.Common.{◌≡◌, ◌++◌, ◌∙◌, sym, ap, subst, take, rules, List, ℕ}
use Rattle.certificates.specs.Grammar.{Spells, sizes_of_certificate}
use Rattle.cert_format.proofs.PieceLaws.{none_left, put_behind, all_put, fewer_left}
use Rattle.doomsight_c.proofs.spell.print.Goals as goal

pub loop-count-init : goal.loop-count-init
loop-count-init c =
    let n = c.next-count.result in
    let piece = c.next-count.new.buf in
    let left = c.next-count.new.self in
    let whole : c.new-printer.result ≡ c.in_ok-out.out.items ++ (take n piece ++ left) =
    c.next-count.ensures.given ∙ ap (λ (o : List ℕ). o ++ (take n piece ++ left)) (sym c.in_ok-out.ensures) in
    record {
      spelled = subst (λ (t : List ℕ). Spells (sizes_of_certificate c.args.cert.now) t c.args.cert.now) whole c.new-printer.ensures;
      last = λ z. none_left c.new-printer.result (take n piece) left c.next-count.ensures.given (c.next-count.ensures.end.0 z);
      room = search rules;
      within = search rules;
    }

pub loop-count-preserved : goal.loop-count-preserved
loop-count-preserved c =
    let l = c.loop-count in
    let n = c.next-count-in-loop-count.result in
    let piece = c.next-count-in-loop-count.new.buf in
    let left = c.next-count-in-loop-count.new.self in
    let more : c.extend_from_slice.new.self.items ≡ l.out.items ++ take l.count l.piece = search rules in
    record {
      spelled = subst (λ (t : List ℕ). Spells (sizes_of_certificate c.args.cert.now) t c.args.cert.now)
          (put_behind l.out.items c.extend_from_slice.new.self.items (take l.count l.piece) l.printer (take n piece) left more c.next-count-in-loop-count.ensures.given) l.invariant.spelled;
      last = λ z. none_left l.printer (take n piece) left c.next-count-in-loop-count.ensures.given (c.next-count-in-loop-count.ensures.end.0 z);
      room = search rules;
      within = search rules;
    }

pub loop-count-smaller : goal.loop-count-smaller
loop-count-smaller c =
    fewer_left c.loop-count.printer c.next-count-in-loop-count.new.self c.next-count-in-loop-count.new.buf c.loop-count.count c.next-count-in-loop-count.result c.loop-count-test.true c.next-count-in-loop-count.ensures.given (search rules)

pub returns : goal.returns
returns c =
    subst (λ (t : List ℕ). Spells (sizes_of_certificate c.args.cert.now) t c.args.cert.now) (all_put c.loop-count.out.items c.loop-count.piece c.loop-count.printer c.loop-count.count c.loop-count-test.false c.loop-count.invariant.last) c.loop-count.invariant.spelled
