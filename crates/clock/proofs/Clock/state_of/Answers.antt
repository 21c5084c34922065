-- `state_of` is refused, or tells the state in the word of states.
use borrow.Author.Rules.{rules}
use mathlib.Core.Path.{sym, ◌∙◌}
use Rattle.refusal.proofs.Numbers.{handed_on}
use Rattle.base.proofs.Tests.{told}
use Rattle.clock.specs.Ask.{state_in}
use Rattle.clock.specs.Record.{book_of}
use Rattle.clock.proofs.Exits.{unsound, sound}
use Rattle.clock.proofs.Clock.state_of.Goals as goal

pub returns-in_err-sound : goal.returns-in_err-sound
unfolding state_in
returns-in_err-sound c = handed_on c.from_residual.result c.from_residual.ensures.1
    ∙ (let e = unsound (book_of c.args.self.now) (sym c.in_err-sound.was ∙ c.sound.ensures) in rw (e.0, e.1))

pub returns-then-is_above : goal.returns-then-is_above
unfolding state_in
returns-then-is_above c = rw (sound (book_of c.args.self.now) (search rules), told c.is_above.ensures c.if-is_above.true)

pub returns-else-is_above : goal.returns-else-is_above
unfolding state_in
returns-else-is_above c = rw (sound (book_of c.args.self.now) (search rules), told c.is_above.ensures c.if-is_above.false, c.apps_in-apps.ensures, c.from.ensures)
