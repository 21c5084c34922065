-- A list of activations of which no two are alike.
use Rattle.std.specs.Prelude.{◌≡◌, false, List, [], ◌∷◌}
use Rattle.clock_activation.specs.declared.Activation.{Activation}
use Rattle.clock_activation.specs.Activation.{alike}
use Rattle.clock_record.specs.Lists.{All}

abbrev pub Distinct : List Activation → Type 0
Distinct [] = Unit {0}
Distinct (a ∷ l) = All (λ b. alike a b ≡ false) l × Distinct l
