use Rattle.std.proofs.Common.{string_bytes}
use Rattle.row_spelling.specs.Quoted.{escaped_code}
use Rattle.row_spelling.proofs.Quoting.{spelled_all, spelled_more}
use Rattle.row_spelling.proofs.quoted.push_each.Goals as goal

pub loop-c-preserved : goal.loop-c-preserved
loop-c-preserved c = spelled_more escaped_code c.args.text.now c.loop-c.c-index 0 (string_bytes c.args.line.now) (string_bytes c.loop-c.line) (string_bytes c.push_escaped.new.line) c.loop-c-test.true c.loop-c.invariant c.in_ok-push_escaped.ensures

pub returns : goal.returns
returns c = spelled_all escaped_code c.args.text.now c.loop-c.c-index (string_bytes c.args.line.now) (string_bytes c.loop-c.line) c.loop-c-test.false c.loop-c.invariant
