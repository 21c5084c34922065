-- Those of the held that wait.
use Rattle.std.specs.Prelude.{ℕ, Bool, List, [], ◌∷◌, leb, if◌then◌else◌}
use Rattle.clock_activation.specs.declared.Activation.{Activation}
use Rattle.clock_activation.specs.declared.Held.{Held}
use Rattle.clock_record.specs.Lists.{only_of}

-- the activations that wait, in the order of their places
unfoldable pub waiting_of : List Held → List Activation
waiting_of [] = []
waiting_of (h ∷ hs) = if h.applied then waiting_of hs else h.activation ∷ waiting_of hs

-- a move to that time reaches it
abbrev pub reached : ℕ → Activation → Bool
reached to a = leb a.time to

-- the waiting ones that a move reaches
abbrev pub due_of : ℕ → List Held → List Activation
due_of to hs = only_of (reached to) (waiting_of hs)
