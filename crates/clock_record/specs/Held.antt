-- The activations that a clock holds, as a list.
use Rattle.std.specs.Prelude.{ℕ, Bool, true, false, ◌||◌, not, List, [], ◌∷◌, ltb, leb, if◌then◌else◌}
use Rattle.clock_activation.specs.declared.Activation.{Activation}
use Rattle.clock_activation.specs.declared.Held.{Held}
use Rattle.clock_activation.specs.Activation.{alike, past}
use Rattle.clock_rule.specs.Rule.{above}
use Rattle.clock_record.specs.Lists.{any_of}

-- what is held is that activation
abbrev pub is_one : Activation → Held → Bool
is_one a h = alike a h.activation

-- that activation is held
abbrev pub is_held : Activation → List Held → Bool
is_held a hs = any_of (is_one a) hs

-- two of the held are alike
unfoldable pub two_alike : List Held → Bool
two_alike [] = false
two_alike (h ∷ hs) = is_held h.activation hs || two_alike hs

-- one for an application above 7, waiting at or before the clock, applied but ahead of it, or applied and past its memory
unfoldable pub wrong : ℕ → Held → Bool
wrong now h =
    if above h.activation.application then true
    else (if not h.applied then leb h.activation.time now
    else (if ltb now h.activation.time then true
    else past now h.activation.time))

-- 35: a record at that time which claims over 32, or which holds a wrong one or two alike
unfoldable pub spoiled_by : Bool → ℕ → List Held → Bool
spoiled_by over now hs = over || (any_of (wrong now) hs || two_alike hs)
