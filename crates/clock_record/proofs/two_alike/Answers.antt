-- `two_alike`: two numbers are equal exactly where two are alike.
use mathlib.Core.Path.{ap, ◌∙◌}
use Rattle.clock_record.specs.Codes.{two_same}
use Rattle.clock_record.proofs.Scan.{two-alike-same}
use Rattle.clock_record.proofs.two_alike.Goals as goal

pub returns : goal.returns
returns c = let w = c.write_codes.ensures in
    c.two_same.ensures ∙ ap two_same w.are ∙ two-alike-same _ w.narrow
