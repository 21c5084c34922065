-- `held_at` reads the two words of a place; behind the last there is nothing.
use mathlib.Core.Path.{sym, ◌∙◌}
use native.Mathlib.Omega.{arith}
use Rattle.std.proofs.lemmas.List.{get_or_past}
use Rattle.clock_activation.specs.Activation.{nobody}
use Rattle.clock_record.specs.Words.{helds_in}
use Rattle.clock_record.proofs.Back.{places}
use Rattle.clock_record.proofs.Places.{place_at_lem}
use Rattle.clock_record.proofs.held_at.Goals as goal

pub returns-then-i-ge-HELD : goal.returns-then-i-ge-HELD
returns-then-i-ge-HELD c = sym (get_or_past (helds_in c.args.words.now) c.args.i nobody (omega (arith, places c.args.words.now, c.if-i-ge-HELD.true)))

pub returns : goal.returns
returns c = c.held_of.ensures ∙ sym (place_at_lem c.args.words.now c.args.i (omega (arith, c.if-i-ge-HELD.false)))
