use native.Mathlib.Omega.{arith}
use Rattle.std.proofs.Common.{[], refl}
use Rattle.map_answers.specs.Views.{located_map}
use Rattle.sight_run.proofs.Building.{gives_plain}
use Rattle.sight_run.proofs.CheckReplies.{check_early, check_proper, check_refusals}
use Rattle.sight_run.proofs.OnMap.{alone_of, gives_alone, past_cause, past_unstored, unheard_alone}
use Rattle.sight_run.proofs.OneBuild.{gives_build}
use Rattle.sight_run.proofs.Verifying.{ends_right}
use Rattle.sight_run.proofs.on_map.reply_on.Goals as goal

pub returns-in-Check-clause-right : goal.returns-in-Check-clause-right
returns-in-Check-clause-right g c = rw c.in-Check.is c.check_on.ensures.right

pub returns-in-Check-clause-refusals : goal.returns-in-Check-clause-refusals
returns-in-Check-clause-refusals g c =
    let x = c.in-Check in
    rw x.is (check_refusals x.wad x.map x.cert x.spelling c.check_on.result c.check_on.ensures.refusals)

pub returns-in-Check-clause-early : goal.returns-in-Check-clause-early
returns-in-Check-clause-early g c = check_early c.in-Check.spelling c.check_on.result c.check_on.ensures.refusals

pub returns-in-Check-clause-proper : goal.returns-in-Check-clause-proper
returns-in-Check-clause-proper g c = check_proper c.in-Check.spelling c.check_on.result c.check_on.ensures.refusals

pub returns-in-Build-clause-right : goal.returns-in-Build-clause-right
returns-in-Build-clause-right g c = ends_right c.args.order.now c.build_on.result c.build_on.ensures.right

pub returns-in-Check-clause-told : goal.returns-in-Check-clause-told
returns-in-Check-clause-told g c = rw c.in-Check.is (λ files e. gives_plain _ _ [] _ ((rw c.as_str.ensures at c.check_on.ensures.told) files e))

pub returns-in-Build-clause-told : goal.returns-in-Build-clause-told
returns-in-Build-clause-told g c = rw c.in-Build.is (λ files e. gives_build c.in-Build.wad _ _ _ _ c.in-Build.workers _ files _ _ _ ((rw (c.as_str-in-Build.ensures, c.as_str-in-Build-2.ensures) at c.build_on.ensures.called) _))

pub returns-in_default : goal.returns-in_default
returns-in_default g c =
    let alone = alone_of c.args.order.now c.requires.asks (λ wad name cert spelled e. c.in_default.not-Check wad name cert spelled e) (λ wad name out cert report workers method e. c.in_default.not-Build wad name out cert report workers method e) in
    record {
      told = λ files e. gives_alone c.args.order.now _ _ _ _ alone (c.answer_on.ensures.called files _);
      heard = unheard_alone c.args.order.now (located_map c.args.input) _ _ alone refl;
      files = refl;
      begun = refl;
      counts = record { read_faults = omega arith; write_faults = omega arith; absents = omega arith };
      cause = past_cause _ c.answer_on.result c.answer_on.ensures.past;
      refusals = c.answer_on.ensures.refusals;
      early = past_unstored c.answer_on.result c.answer_on.ensures.past;
      proper = c.answer_on.ensures.proper;
      roles = c.answer_on.ensures.roles;
      right = c.answer_on.ensures.right;
    }
