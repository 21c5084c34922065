-- `time_now` is refused, or tells the first word.
use borrow.Author.Rules.{rules}
use mathlib.Core.Path.{sym, ◌∙◌}
use Rattle.refusal.proofs.Numbers.{handed_on}
use Rattle.clock.specs.Ask.{time_in}
use Rattle.clock.specs.Record.{book_of}
use Rattle.clock.proofs.Exits.{unsound, sound}
use Rattle.clock.proofs.Clock.time_now.Goals as goal

pub returns-in_err-sound : goal.returns-in_err-sound
unfolding time_in
returns-in_err-sound c = handed_on c.from_residual.result c.from_residual.ensures.1
    ∙ (let e = unsound (book_of c.args.self.now) (sym c.in_err-sound.was ∙ c.sound.ensures) in rw (e.0, e.1))

pub returns : goal.returns
unfolding time_in
returns c = rw (sound (book_of c.args.self.now) (search rules))
