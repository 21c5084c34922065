-- What a clock record says: the clock, the applications' states and the activations held.
use Rattle.std.specs.Prelude.{ℕ, ◌≡◌, Bool, false, List, [], replicate}
use Rattle.clock_rule.specs.declared.App.{App}
use Rattle.clock_rule.specs.declared.State.{State}
use Rattle.clock_rule.specs.Rule.{applications}
use Rattle.clock_activation.specs.declared.Held.{Held}
use Rattle.clock_record.specs.Lists.{Rearranged}
use Rattle.clock_record.specs.Held.{spoiled_by}

-- `over` where the record claims more than 32
pub record Book : Type 0 where
  pub over : Bool
  pub now : ℕ
  pub apps : List App
  pub held : List Held

-- records are equal when clock, states and the set held are
pub record Same (b c : Book) : Type 0 where
  pub over : b.over ≡ c.over
  pub now : b.now ≡ c.now
  pub apps : b.apps ≡ c.apps
  pub held : Rearranged b.held c.held

-- a fresh clock stands at 0 with every application Released
abbrev pub fresh : Book
fresh = record { over = false; now = 0; apps = replicate applications (record { state = State.Released }); held = [] }

-- 35
abbrev pub spoiled : Book → Bool
spoiled b = spoiled_by b.over b.now b.held
