use Rattle.std.proofs.Common.{rules, arith, ◌≡◌, ◌<◌, length, ◌∙◌, refl}
use Rattle.shelf_io.proofs.FetchLemmas.{starts, absent_is, too_long_is, end_is, goes_on}
use Rattle.shelf_io.proofs.transfer.fetch.Goals as goal

pub returns-then-taken-eq0-clause-told : goal.returns-then-taken-eq0-clause-told
returns-then-taken-eq0-clause-told g c =
    let at-is : c.len-at.result ≡ length c.loop-taken.bytes.items = search rules in
    let room : 0 < length c.loop-taken.buf = omega arith in
    λ files e. end_is (λ x. x.items) c.loop-taken.bytes c.args.limit c.len-at.result c.in-Ok.taken c.loop-taken.buf c.read.new.buf at-is c.if-taken-eq0.true room (omega arith) (files c.args.name.now) (c.loop-taken.invariant.told files e) (c.in-Ok.ensures.told files (c.loop-taken.invariant.files ∙ e))

pub loop-taken-preserved : goal.loop-taken-preserved
loop-taken-preserved g c =
    let at-is : c.len-at.result ≡ length c.loop-taken.bytes.items = search rules in
    record {
      told =
          rw c.in_ok-extend_from_slice.ensures.items
          (λ files e. goes_on c.len-at.result c.in-Ok.taken c.loop-taken.bytes.items c.loop-taken.buf c.read.new.buf c.read.new.buf at-is refl (files c.args.name.now) (c.loop-taken.invariant.told files e) (c.in-Ok.ensures.told files (c.loop-taken.invariant.files ∙ e)));
      within = search rules;
      room = search rules;
      files = search rules;
      begun = search rules;
      counts = search rules;
      quiet = search rules;
    }

pub loop-taken-init : goal.loop-taken-init
loop-taken-init g c = record {
  told = λ files e. rw c.new-bytes.ensures.items (starts (files c.args.name.now));
  within = search rules;
  room = search rules;
  files = refl;
  begun = refl;
  counts = search rules;
  quiet = search rules;
}

pub returns-in-Err-Absent-clause-told : goal.returns-in-Err-Absent-clause-told
returns-in-Err-Absent-clause-told g c =
    λ files e. absent_is c.args.limit c.len-at.result c.loop-taken.buf c.read.new.buf c.in-Err-Absent.field-0 c.in-Err-Absent.field-0-is (files c.args.name.now) (c.in-Err-Absent.ensures.told files (c.loop-taken.invariant.files ∙ e))

pub returns-then-taken-limit-clause-told : goal.returns-then-taken-limit-clause-told
returns-then-taken-limit-clause-told g c =
    λ files e. too_long_is c.args.limit c.len-at.result c.in-Ok.taken c.loop-taken.buf c.read.new.buf c.if-taken-limit.true (files c.args.name.now) (c.in-Ok.ensures.told files (c.loop-taken.invariant.files ∙ e))
