-- What makes one held wrong at a time, case by case.
--   wrong-above, wrong-waiting, wrong-ahead, wrong-past
use mathlib.Core.Path.{◌≡◌}
use mathlib.Core.Bool.{true, false}
use Prim.Native.Nat.{ℕ, ◌<◌, ◌≤◌}
use lib.Dec.{leb}
use borrow.Author.Tests.{lt-ltb, le-ltb}
use Rattle.clock_activation.specs.declared.Held.{Held}
use Rattle.clock_activation.specs.Activation.{past}
use Rattle.clock_rule.specs.Rule.{above}
use Rattle.clock_record.specs.Held.{wrong}

module _ (now : ℕ) (h : Held) where
  pub wrong-above : above h.activation.application ≡ true → wrong now h ≡ true
  unfolding wrong
  wrong-above x = rw x

  module _ (low : above h.activation.application ≡ false) where
    pub wrong-waiting : h.applied ≡ false → wrong now h ≡ leb h.activation.time now
    unfolding wrong
    wrong-waiting w = rw (low, w)

    module _ (done : h.applied ≡ true) where
      pub wrong-ahead : now < h.activation.time → wrong now h ≡ true
      unfolding wrong
      wrong-ahead x = rw (low, done, lt-ltb _ _ x)

      pub wrong-past : h.activation.time ≤ now → wrong now h ≡ past now h.activation.time
      unfolding wrong
      wrong-past x = rw (low, done, le-ltb _ _ x)
