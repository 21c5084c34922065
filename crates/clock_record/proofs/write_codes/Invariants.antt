-- `write_codes` numbers one more at a time.
use mathlib.Core.Path.{◌≡◌}
use lib.ListN.{length, take}
use Rattle.clock_record.specs.Codes.{Numbered}
use Rattle.clock_record.specs.Words.{helds_in}
use Rattle.clock_record.proofs.write_codes.Given as goal

abbrev pub invariant-loop-i : goal.invariant-loop-i
invariant-loop-i l = (length l.codes ≡ 32) × Numbered (take l.i (helds_in l.words)) (take l.i l.codes)
