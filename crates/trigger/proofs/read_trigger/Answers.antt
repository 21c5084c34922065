-- `trigger::read_trigger` meets its contract: the first fault is the refusal, and without one the places are the definition's. Assumes
-- nothing.
use borrow.Author.Rules.{rules}
use mathlib.Core.Path.{◌≡◌, ap, ◌∙◌}
use Rattle.std.specs.Prelude.{Ok, Err}
use Rattle.refusal.proofs.Numbers.{handed_on}
use Rattle.trigger_faults.specs.Parts.{parts_of}
use Rattle.trigger_faults.proofs.Exits.{parted, read-refused, read-on}
use Rattle.trigger.specs.Trigger.{trigger_of, read_of}
use Rattle.trigger.proofs.read_trigger.Goals as goal

pub returns-in_err-placed : goal.returns-in_err-placed
unfolding read_of
returns-in_err-placed c = handed_on c.from_residual.result c.from_residual.ensures.1
    ∙ read-refused c.args.payload.now (trigger_of c.args.payload.now) (search rules)

pub trigger_of-requires : goal.trigger_of-requires
trigger_of-requires c = parted _ (search rules)

pub returns : goal.returns
unfolding read_of
returns c = let e : Ok c.in_ok-placed.placed ≡ parts_of c.args.payload.now = search rules in
    let p = parted c.args.payload.now e in
    ap Ok c.trigger_of.ensures ∙ read-on Err _ _ p.0.head p.0.target p.0.user
