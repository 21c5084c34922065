-- Two answers that keep a promise are equal.
--   one_reading      of `trigger::read_trigger`
--   one_belonging    of `trigger::belongs`
use mathlib.Core.Path.{sym, ◌∙◌}
use mathlib.Core.List.{List}
use Prim.Native.Nat.{ℕ}
use Rattle.trigger.specs.declared.Trigger.{Trigger}
use Rattle.trigger.specs.Theorems.{OneReading, OneBelonging}

pub one_reading : (s : List ℕ) → OneReading s
one_reading s x y p q = p ∙ sym q

pub one_belonging : (s : List ℕ) (t : Trigger) (id : List ℕ) → OneBelonging s t id
one_belonging s t id x y p q = p ∙ sym q
