-- `file_number::number_code` meets its promise: case by case.
use mathlib.Core.Path.{sym, ap, ◌∙◌}
use native.Mathlib.Omega.{arith}
use Rattle.file_number.specs.Answer.{number_code}
use Rattle.file_number.proofs.OneSpelling.{three-most, size_same}
use Rattle.file_number.proofs.number_code.Goals as goal

pub returns-in-Ok : goal.returns-in-Ok
returns-in-Ok c =
    let e = sym c.read_number.ensures ∙ c.in-Ok.is in
    let few = (three-most _ (λ k. omega (arith, c.type_inv.bytes k)) _ _ e).1 in
    let same = size_same _ few in
    rw (c.from.ensures, same) (ap number_code (sym e))
