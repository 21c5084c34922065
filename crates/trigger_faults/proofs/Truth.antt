-- Laws on truth values.
--   and_none, or-none   a test joined with what never holds
use mathlib.Core.Path.{◌≡◌, refl}
use mathlib.Core.Bool.{Bool, true, false, ◌&&◌, ◌||◌}

pub and_none : (b : Bool) → b && false ≡ false
and_none true = refl
and_none false = refl

pub or-none : (b : Bool) → b || false ≡ b
or-none true = refl
or-none false = refl
