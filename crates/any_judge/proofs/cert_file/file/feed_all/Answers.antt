use Rattle.std.proofs.Common.{rules, arith, ◌≡◌, ◌∙◌, ◌<◌, ◌≤◌, length, refl, take}
use Rattle.std.proofs.lemmas.List.{length-take-le}
use Rattle.shelf_io.proofs.FetchLemmas.{absent_is, too_long_is}
use Rattle.any_judge.proofs.CertFile.OnWay.{begun, fed_on, may_be_fed, whole_held}
use Rattle.any_judge.proofs.cert_file.file.feed_all.Goals as goal

pub loop-taken-init : goal.loop-taken-init
loop-taken-init g c = record {
  way = λ p t fed. begun p t (g.S.Shelf.state c.args.shelf.now).files c.args.name.now c.args.judge.now fed;
  within = search rules;
  room = search rules;
  files = refl;
  begun = refl;
  counts = search rules;
  quiet = search rules;
}

pub feed-requires : goal.feed-requires
feed-requires g c =
    let room : length c.read.new.buf ≡ 65536 = search rules in
    let fits : c.in-Ok.taken ≤ length c.read.new.buf = omega (arith, room, c.loop-taken.invariant.room, c.in-Ok.ensures.within) in
    let fresh = c.requires.fresh in
    may_be_fed fresh.plan fresh.table (g.S.Shelf.state c.args.shelf.now).files c.args.name.now c.loop-taken.at c.loop-taken.judge (c.loop-taken.invariant.way fresh.plan fresh.table fresh.fed) (take c.in-Ok.taken c.read.new.buf)
    (omega (arith, length-take-le c.in-Ok.taken c.read.new.buf fits, c.loop-taken.invariant.within, c.if-taken-at.false))

pub returns-in-Err-Absent-clause-told : goal.returns-in-Err-Absent-clause-told
returns-in-Err-Absent-clause-told g c =
    λ files e. absent_is 9223372036854775807 c.loop-taken.at c.loop-taken.piece c.read.new.buf c.in-Err-Absent.field-0 c.in-Err-Absent.field-0-is (files c.args.name.now) (c.in-Err-Absent.ensures.told files (c.loop-taken.invariant.files ∙ e))

pub returns-then-taken-eq0-clause-fed : goal.returns-then-taken-eq0-clause-fed
returns-then-taken-eq0-clause-fed g c =
    let room : 0 < length c.loop-taken.piece = omega (arith, c.loop-taken.invariant.room) in
    λ p t fed. whole_held p t (g.S.Shelf.state c.args.shelf.now).files c.args.name.now c.loop-taken.at c.loop-taken.judge (c.loop-taken.invariant.way p t fed) c.in-Ok.taken c.loop-taken.piece c.read.new.buf
    c.if-taken-eq0.true room c.loop-taken.invariant.within (λ files e. c.in-Ok.ensures.told files (c.loop-taken.invariant.files ∙ e))

pub returns-then-taken-at-clause-told : goal.returns-then-taken-at-clause-told
returns-then-taken-at-clause-told g c =
    λ files e. too_long_is 9223372036854775807 c.loop-taken.at c.in-Ok.taken c.loop-taken.piece c.read.new.buf c.if-taken-at.true (files c.args.name.now) (c.in-Ok.ensures.told files (c.loop-taken.invariant.files ∙ e))

pub loop-taken-preserved : goal.loop-taken-preserved
loop-taken-preserved g c =
    let room : length c.read.new.buf ≡ 65536 = search rules in
    let fits : c.in-Ok.taken ≤ length c.read.new.buf = omega (arith, room, c.loop-taken.invariant.room, c.in-Ok.ensures.within) in
    record {
      way = λ p t fed. fed_on p t (g.S.Shelf.state c.args.shelf.now).files c.args.name.now c.loop-taken.at c.loop-taken.judge (c.loop-taken.invariant.way p t fed) c.feed.new.self c.in-Ok.taken c.loop-taken.piece c.read.new.buf
          (λ bytes given. c.feed.ensures.fed p t bytes given) (length-take-le c.in-Ok.taken c.read.new.buf fits) (λ files e. c.in-Ok.ensures.told files (c.loop-taken.invariant.files ∙ e));
      within = omega (arith, c.loop-taken.invariant.within, c.if-taken-at.false);
      room = room;
      files = search rules;
      begun = search rules;
      counts = search rules;
      quiet = search rules;
    }
