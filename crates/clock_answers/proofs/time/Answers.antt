-- `time` leaves by the ways of its meaning.
use mathlib.Core.Path.{sym, ap, ◌∙◌}
use Rattle.std.specs.Prelude.{Err}
use Rattle.refusal.proofs.Numbers.{handed_on}
use Rattle.clock_answers.proofs.Calls.{is-record, no-record, time-35, time-asked}
use Rattle.clock_answers.proofs.time.Goals as goal

pub returns-in_err-record_in : goal.returns-in_err-record_in
returns-in_err-record_in c = let w = c.args.words.now in
    let n = no-record w (sym c.in_err-record_in.was ∙ c.record_in.ensures) in
    handed_on c.from_residual.result c.from_residual.ensures.1 ∙ ap Err n.1 ∙ time-35 w n.0

pub returns : goal.returns
returns c = let w = c.args.words.now in
    let y = is-record w (sym c.in_ok-record_in.was ∙ c.record_in.ensures) in
    c.time_now.ensures ∙ time-asked w y.0 c.in_ok-record_in.field-0 y.1
